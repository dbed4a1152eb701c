-- `cipher::tables::Tables::mixed`: the exclusive or of the four entries, turned to their rows, is the mixed column.
use Rattle.std.proofs.Common.{ap, ◌∙◌, rules}
use Rattle.cipher.specs.Aes.{Word, number_word, rot_word, sub_word, diagonal}
use Rattle.cipher.proofs.Words.{turned-1, turned-2, turned_3}
use Rattle.cipher.proofs.Mix.{mix-numbers}
use Rattle.cipher.proofs.tables.Tables.mixed.Goals as goal

pub returns : goal.returns
unfolding sub_word diagonal number_word
returns c =
    mix-numbers _ _ _ _ _ _ _ _ (rw c.to_be_bytes.ensures at c.mix_entry-x.ensures)
    (ap number_word c.rotate_right-y.ensures ∙ turned-1 _ (search rules)
    ∙ ap (λ (v : Word). rot_word (rot_word (rot_word v))) (rw c.to_be_bytes-2.ensures at c.mix_entry.ensures))
    (ap number_word c.rotate_right-z.ensures ∙ turned-2 _ (search rules)
    ∙ ap (λ (v : Word). rot_word (rot_word v)) (rw c.to_be_bytes-3.ensures at c.mix_entry-2.ensures))
    (ap number_word c.rotate_right-w.ensures ∙ turned_3 _ (search rules) ∙ ap rot_word (rw c.to_be_bytes-4.ensures at c.mix_entry-3.ensures))
