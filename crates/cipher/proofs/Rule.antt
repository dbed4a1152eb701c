-- FIPS 197's rule of the S-box, bit by bit. Assumes nothing.
use Rattle.std.proofs.Common.{◌≡◌, ℕ, zero, suc, ◌+◌, ◌*◌, ◌/◌, ◌%◌, ◌^◌, ◌<◌, refl, ap, ◌∙◌, arith}
use Rattle.cipher.specs.Sbox.{inverse, bit, affine_bit, affine, sub_byte, sbox, table_from}
use Rattle.cipher.specs.Laws.{SboxLaw}
use Rattle.cipher.proofs.Words.{sbox-at}
use Rattle.cipher.proofs.Mix.{bit-lt, sub-lt}

-- one of eight binary digits
module _ (x : ℕ → ℕ) (h : (i : ℕ) → x i < 2) where
  abbrev number : ℕ
  number = x 0 + 2 * x 1 + 4 * x 2 + 8 * x 3 + 16 * x 4 + 32 * x 5 + 64 * x 6 + 128 * x 7

  digit_at : (i : ℕ) → i < 8 → number / 2 ^ i % 2 ≡ x i
  digit_at zero k = omega (arith, h 0)
  digit_at (suc zero) k = omega (arith, h 0, h 1)
  digit_at (suc (suc zero)) k = omega (arith, h 0, h 1, h 2)
  digit_at (suc (suc (suc zero))) k = omega (arith, h 0, h 1, h 2, h 3)
  digit_at (suc (suc (suc (suc zero)))) k = omega (arith, h 0, h 1, h 2, h 3, h 4)
  digit_at (suc (suc (suc (suc (suc zero))))) k = omega (arith, h 0, h 1, h 2, h 3, h 4, h 5)
  digit_at (suc (suc (suc (suc (suc (suc zero)))))) k = omega (arith, h 0, h 1, h 2, h 3, h 4, h 5, h 6)
  digit_at (suc (suc (suc (suc (suc (suc (suc zero))))))) k = omega (arith, h 0, h 1, h 2, h 3, h 4, h 5, h 6, h 7)
  digit_at (suc (suc (suc (suc (suc (suc (suc (suc i)))))))) k = absurd (omega arith)

affine-digit : (c i : ℕ) → i < 8 → affine c / 2 ^ i % 2 ≡ affine_bit c i
unfolding affine
affine-digit c i k = digit_at (affine_bit c) (bit-lt c) i k

sum-odd : (p q r s t u : ℕ) → (p % 2 + q % 2 + r % 2 + s % 2 + t % 2 + u % 2) % 2 ≡ (p + q + r + s + t + u) % 2
sum-odd p q r s t u = more _ _ u (more _ _ t (more _ _ s (more _ _ r (more _ _ q (omega arith)))))
  where
    more : (a b x : ℕ) → a % 2 ≡ b % 2 → (a + x % 2) % 2 ≡ (b + x) % 2
    more a b x e = omega arith

pub sbox-law : SboxLaw
unfolding affine_bit bit sub_byte sbox table_from
sbox-law = record {
  entries = refl;
  entry = sbox-at;
  fits = λ b h. rw (sbox-at b h) (sub-lt b);
  affine_by_bit = λ b i h k. ap (λ (n : ℕ). n / 2 ^ i % 2) (sbox-at b h) ∙ affine-digit (inverse b) i k ∙ sum-odd _ _ _ _ _ _;
}
