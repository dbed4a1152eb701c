-- The last block of a message, put over a block of zeros. Assumes nothing.
use Rattle.std.proofs.Common.{◌≡◌, ℕ, ◌+◌, ◌-◌, ◌≤◌, List, ◌++◌, length, drop, sym, ap, ◌∙◌, arith, length-append}
use lib.ListN.{length-replicate}
use Rattle.buffers.specs.Bytes.{put_at}
use Rattle.cipher.specs.CmacState.{xor_from}
use Rattle.cipher.proofs.Tag.{xor-from}
use Rattle.cipher.proofs.Chain.{zero_xor}
use Rattle.cipher.proofs.Message.{zeros, drop-zeros}

module _ (w : List ℕ) (h : length w ≤ 16) where
  filled : xor_from (zeros 16) 0 w ≡ w ++ zeros (16 - length w)
  filled =
      xor-from (zeros 16) w (16 - length w) (omega arith)
      ∙ zero_xor 16 (w ++ zeros (16 - length w)) (rw (length-append, length-replicate) (omega arith))

  put : (l : List ℕ) → l ≡ put_at (zeros 16) 0 w → l ≡ w ++ zeros (16 - length w)
  put l e =
      let split : 16 ≡ length w + (16 - length w) = omega arith in
      let front : 0 + length w ≡ length w = omega arith in
      e ∙ ap (λ (k : ℕ). w ++ drop k (zeros 16)) front
      ∙ ap (λ (r : List ℕ). w ++ r) (ap (λ (k : ℕ). drop (length w) (zeros k)) split ∙ drop-zeros (length w) (16 - length w))

  -- put over a block of zeros, or added to it
  pub pasted_block : (l : List ℕ) → l ≡ put_at (zeros 16) 0 w → l ≡ xor_from (zeros 16) 0 w
  pasted_block l e = put l e ∙ sym filled
