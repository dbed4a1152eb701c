-- `cipher::tables::Tables::expand_key`. The invariant: `k` is round key r, `c` the constant for the next one, and the front of `keys` has the round keys up to r.
use Rattle.std.proofs.Common.{◌≡◌, ◌+◌, ◌*◌, length, take}
use Rattle.cipher.specs.Aes.{word_number, rcon, round_key, expand_to}
use Rattle.cipher.specs.Columns.{columns_state}
use Rattle.cipher.proofs.tables.Tables.expand_key.Given as goal

abbrev pub invariant-loop-r : goal.invariant-loop-r
invariant-loop-r l =
    (length l.keys ≡ 44) × (l.c ≡ word_number (rcon l.r)) × (columns_state l.k ≡ round_key l.key l.r) × (take (4 * l.r + 4) l.keys ≡ expand_to l.key l.r)
