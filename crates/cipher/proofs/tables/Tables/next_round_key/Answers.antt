-- `cipher::aes::next_round_key` gives the next four words of the key schedule.
use Rattle.std.proofs.Common.{ap, ◌∙◌, rules}
use Rattle.cipher.specs.Aes.{number_word}
use Rattle.cipher.specs.Columns.{columns_state}
use Rattle.cipher.proofs.Words.{turned_3}
use Rattle.cipher.proofs.KeySchedule.{next-numbers, number-constant}
use Rattle.cipher.proofs.tables.Tables.next_round_key.Goals as goal

pub returns : goal.returns
unfolding columns_state
returns c =
    let k = c.args.k in
    let constant = ap number_word c.requires ∙ number-constant c.args.i in
    next-numbers _ k.c0 k.c1 k.c2 k.c3 _ _ _ (ap number_word c.rotate_right.ensures ∙ turned_3 _ (search rules)) c.sub_word.ensures constant
