-- What the code tests of nine bytes, and what it then knows of them. Assumes nothing.
use mathlib.Core.Path.{◌≡◌, refl, sym, ap, ◌∙◌}
use mathlib.Core.Logic.{◌≢◌}
use mathlib.Core.Bool.{Bool, true, false, not}
use mathlib.Core.List.{List, [], ◌∷◌}
use Prim.Native.Nat.{ℕ, zero, suc, ◌-◌}
use native.Mathlib.Omega.{arith}
use lib.Dec.{T, eqb}
use lib.Ieee.{binary32, le, of_bits, nan_bits}
use lib.Ieee.Bits.{nan_bits_is}
use lib.ListN.{length, take, drop}
use lib.Seq.{drop-drop}
use borrow.Author.Tests.{eqb-true, ne_eqb}
use Rattle.buffers.specs.Bytes.{all_zero, le_value, u32_at}
use Rattle.buffers.proofs.Split.{split, both}
use Rattle.buffers.proofs.Lists.{rest_part}
use Rattle.mix.specs.Range.{level_in_range, pan_in_range}
use Rattle.mix.specs.Send.{tag_at, level_at, pan_at, send_valid}
use Rattle.mix.proofs.Bits.{level-not-nan, pan-not-nan}

-- bits that are read from bytes
pub level-read : (b : List ℕ) (x : Bool) (n : ℕ) → n ≡ u32_at b 1 → x ≡ level_in_range (of_bits binary32 n) → x ≡ level_in_range (level_at b)
level-read b x n e h = h ∙ ap (λ (k : ℕ). level_in_range (of_bits binary32 k)) e

pub pan-read : (b : List ℕ) (x : Bool) (n : ℕ) → n ≡ u32_at b 5 → x ≡ pan_in_range (of_bits binary32 n) → x ≡ pan_in_range (pan_at b)
pan-read b x n e h = h ∙ ap (λ (k : ℕ). pan_in_range (of_bits binary32 k)) e

module _ (b : List ℕ) where
  pub valid-muted : tag_at b ≡ 0 → (z : Bool) → z ≡ all_zero (take (length b - 1) (drop 1 b)) → z ≡ send_valid b
  unfolding send_valid
  valid-muted t z h = rw t (h ∙ ap all_zero (rest_part b 1))

  pub valid-level : tag_at b ≡ 1 → level_in_range (level_at b) ≡ true → (z : Bool) → z ≡ all_zero (take (length b - 5) (drop 5 b)) → z ≡ send_valid b
  unfolding send_valid
  valid-level t l z h = rw (t, l) (h ∙ ap all_zero (rest_part b 5))

  pub bad-level : tag_at b ≡ 1 → level_in_range (level_at b) ≡ false → false ≡ send_valid b
  unfolding send_valid
  bad-level t l = rw (t, l)

  pub bad-tag : tag_at b ≢ 0 → tag_at b ≢ 1 → tag_at b ≢ 2 → false ≡ send_valid b
  unfolding send_valid
  bad-tag n0 n1 n2 = rw (ne_eqb (tag_at b) 0 n0, ne_eqb (tag_at b) 1 n1, ne_eqb (tag_at b) 2 n2)

  pub valid-pan : tag_at b ≡ 2 → level_in_range (level_at b) ≡ true → (z : Bool) → z ≡ pan_in_range (pan_at b) → z ≡ send_valid b
  unfolding send_valid
  valid-pan t l z h = rw (t, l) h

  pub bad-level-pan : tag_at b ≡ 2 → level_in_range (level_at b) ≡ false → false ≡ send_valid b
  unfolding send_valid
  bad-level-pan t l = rw (t, l)

-- zeros are the bits of a number in range
zeros_drop : (k : ℕ) (l : List ℕ) → all_zero l ≡ true → all_zero (drop k l) ≡ true
zeros_drop zero l h = h
zeros_drop (suc k) [] h = refl
zeros_drop (suc k) (x ∷ l) h = zeros_drop k l (both (eqb x 0) (all_zero l) h).1

zeros-value : (k : ℕ) (l : List ℕ) → all_zero l ≡ true → le_value (take k l) ≡ 0
zeros-value zero l h = refl
zeros-value (suc k) [] h = refl
zeros-value (suc k) (x ∷ l) h =
    let p = both (eqb x 0) (all_zero l) h in
    omega (arith, eqb-true x 0 p.0, zeros-value k l p.1)

-- of bytes that are a send's: level and pan lie in range, where there is none as a zero
module _ (b : List ℕ) (v : send_valid b ≡ true) where
  level-zero : all_zero (drop 1 b) ≡ true → level_in_range (level_at b) ≡ true
  unfolding level_in_range of_bits le
  level-zero z = ap (λ (n : ℕ). level_in_range (of_bits binary32 n)) (zeros-value 4 (drop 1 b) z)

  pan-zero : all_zero (drop 5 b) ≡ true → pan_in_range (pan_at b) ≡ true
  unfolding pan_in_range of_bits le
  pan-zero z = ap (λ (n : ℕ). pan_in_range (of_bits binary32 n)) (zeros-value 4 (drop 5 b) z)

  pub level-of : level_in_range (level_at b) ≡ true
  unfolding send_valid
  level-of = split (eqb (tag_at b) 0)
      (λ e. level-zero (rw e at v))
      (λ n. let h = rw n at v in split (eqb (tag_at b) 1)
      (λ e. (both (level_in_range (level_at b)) _ (rw e at h)).0)
      (λ e. (both (level_in_range (level_at b)) _ (both (eqb (tag_at b) 2) _ (rw e at h)).1).0))

  pub pan-of : pan_in_range (pan_at b) ≡ true
  unfolding send_valid
  pan-of = split (eqb (tag_at b) 0)
      (λ e. pan-zero (rw (sym (drop-drop 4 1 b)) (zeros_drop 4 (drop 1 b) (rw e at v))))
      (λ n. let h = rw n at v in split (eqb (tag_at b) 1)
      (λ e. pan-zero (both (level_in_range (level_at b)) _ (rw e at h)).1)
      (λ e. (both (level_in_range (level_at b)) _ (both (eqb (tag_at b) 2) _ (rw e at h)).1).1))

-- a float may be made of bits in range
pub level_bits : (n : ℕ) → level_in_range (of_bits binary32 n) ≡ true → T (not (nan_bits binary32 n))
level_bits n h = rw (nan_bits_is binary32 n) (level-not-nan (of_bits binary32 n) h)

pub pan_bits : (n : ℕ) → pan_in_range (of_bits binary32 n) ≡ true → T (not (nan_bits binary32 n))
pan_bits n h = rw (nan_bits_is binary32 n) (pan-not-nan (of_bits binary32 n) h)
