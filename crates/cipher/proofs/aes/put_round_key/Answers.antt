-- `cipher::aes::put_round_key`: four stores in a row, of the words of the round key.
use Rattle.std.proofs.Common.{◌*◌, ◌^◌, ◌<◌, arith, length-set, rules}
use Rattle.cipher.specs.Aes.{state_numbers}
use Rattle.cipher.specs.Columns.{columns_state}
use Rattle.cipher.proofs.Words.{word_number_lem}
use Rattle.cipher.proofs.KeySchedule.{put_four}
use Rattle.cipher.proofs.aes.put_round_key.Goals as goal

pub bounds-keys-i-2 : goal.bounds-keys-i-2
bounds-keys-i-2 c = simp length-set (omega arith)

pub bounds-keys-i-3 : goal.bounds-keys-i-3
bounds-keys-i-3 c = simp length-set (omega arith)

pub bounds-keys-i-4 : goal.bounds-keys-i-4
bounds-keys-i-4 c = simp length-set (omega arith)

pub returns : goal.returns
unfolding columns_state state_numbers
returns c =
    let k = c.args.k in
    let h0 : k.c0 < 2 ^ 32 = search rules in
    let h1 : k.c1 < 2 ^ 32 = search rules in
    let h2 : k.c2 < 2 ^ 32 = search rules in
    let h3 : k.c3 < 2 ^ 32 = search rules in
    rw (word_number_lem k.c0 h0, word_number_lem k.c1 h1, word_number_lem k.c2 h2, word_number_lem k.c3 h3)
    (put_four _ (4 * c.args.r) k.c0 k.c1 k.c2 k.c3 c.requires)
