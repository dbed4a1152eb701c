-- `cipher::aes::Cipher::crypt_whole`. The invariant: the first i blocks are done and those from i on as lent, `counter` is the count of block i, and `shared` what
-- its counter block shares.
use Rattle.std.proofs.Common.{◌≡◌, ◌+◌, ◌*◌, ◌%◌, ◌^◌, ◌++◌, length, take, drop}
use Rattle.cipher.specs.Aes.{state_of, kept_key, encrypt_with}
use Rattle.cipher.specs.Columns.{columns_state}
use Rattle.cipher.specs.FirstRound.{shared_round}
use Rattle.cipher.specs.Ctr.{counter_block, ctr_from}
use Rattle.cipher.proofs.aes.Cipher.crypt_whole.Given as goal

abbrev pub invariant-loop-i : goal.invariant-loop-i
invariant-loop-i l =
    let keys = l.self.keys.now in
    (length l.buf ≡ length l.initial.buf) × (l.counter ≡ (l.count + l.i) % 2 ^ 64)
    × (columns_state l.shared ≡ shared_round (kept_key keys) (state_of (counter_block l.iv l.counter)))
    × (take (16 * l.i) l.buf ++ ctr_from (encrypt_with keys) l.iv l.count (16 * l.i) (drop (16 * l.i) l.buf) ≡ ctr_from (encrypt_with keys) l.iv l.count 0 l.initial.buf)
