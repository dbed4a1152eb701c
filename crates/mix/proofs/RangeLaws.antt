-- The ranges of level and pan: which numbers and which bits lie in them, and that such bits are kept as they are. Assumes nothing.
use mathlib.Core.Path.{◌≡◌, refl, sym, ◌∙◌}
use mathlib.Core.Logic.{◌↔◌, ◌⊎◌, inl, inr}
use mathlib.Core.Bool.{Bool, true, false, ◌||◌, cond}
use Prim.Native.Nat.{ℕ, ◌*◌, ◌%◌, ◌^◌, ◌≤◌, ◌<◌}
use native.Mathlib.Nat.{le_of_mul-le-mul_right, zero-mul}
use native.Mathlib.Omega.{arith}
use borrow.Author.Tests.{leb-true, le-leb, eqb-true, eq-eqb}
use lib.IntN.{ℤ, pos}
use lib.Dec.{eqb, leb}
use lib.Ieee.{fin, binary32, up, down, to_bits, of_bits}
use lib.Ieee.Bits.{to_bits-of_bits}
use lib.Ieee.Fits.{up_pos}
use Rattle.buffers.proofs.Split.{split}
use Rattle.mix.specs.Range.{level_in_range, pan_in_range}
use Rattle.mix.specs.Laws.{LevelBits, PanBits, RangeLaws}
use Rattle.mix.proofs.Bits.{level-fin, pan-fin, level-none, pan-none, level-bits-is, pan-bits-is, level-not-nan, pan-not-nan}

-- ---- of numbers

module _ (m : ℕ) (e : ℤ) where
  no_size : m * up e ≡ 0 → m ≡ 0
  no_size h = let z : m ≤ 0 = le_of_mul-le-mul_right (omega (arith, zero-mul (up e))) (up_pos e) in omega arith

  size_none : m ≡ 0 → m * up e ≡ 0
  size_none h = rw h (zero-mul (up e))

  level-to : (s : Bool) → cond s (eqb (m * up e) 0) (leb (m * up e) (4 * down e)) ≡ true → (m ≡ 0) ⊎ ((s ≡ false) × (m * up e ≤ 4 * down e))
  level-to true t = inl (no_size (eqb-true (m * up e) 0 t))
  level-to false t = inr (refl, leb-true (m * up e) (4 * down e) t)

  level-of : (s : Bool) → (m ≡ 0) ⊎ ((s ≡ false) × (m * up e ≤ 4 * down e)) → cond s (eqb (m * up e) 0) (leb (m * up e) (4 * down e)) ≡ true
  level-of true (inl z) = eq-eqb (m * up e) 0 (size_none z)
  level-of false (inl z) = le-leb (m * up e) (4 * down e) (omega (arith, size_none z))
  level-of s (inr h) = rw h.0 (le-leb (m * up e) (4 * down e) h.1)

-- ---- of bits

either_to : (n a b : ℕ) → (leb n a || eqb n b) ≡ true → (n ≤ a) ⊎ (n ≡ b)
either_to n a b e = split (leb n a) (λ t. inl (leb-true n a t)) (λ t. inr (eqb-true n b (rw t at e)))

either-of : (n a b : ℕ) → (n ≤ a) ⊎ (n ≡ b) → (leb n a || eqb n b) ≡ true
either-of n a b (inl h) = rw (le-leb n a h)
either-of n a b (inr h) = split (leb n a) (λ t. rw t) (λ t. rw (t, eq-eqb n b h))

pub level_bits : (n : ℕ) → n < 2 ^ 32 → (level_in_range (of_bits binary32 n) ≡ true) ↔ LevelBits n
level_bits n h = (
  λ e. either_to n 0x40800000 0x80000000 (sym (level-bits-is n h) ∙ e),
  λ w. level-bits-is n h ∙ either-of n 0x40800000 0x80000000 w,
)

pub pan_bits : (n : ℕ) → n < 2 ^ 32 → (pan_in_range (of_bits binary32 n) ≡ true) ↔ PanBits n
pan_bits n h = (
  λ e. leb-true (n % 0x80000000) 0x3f800000 (sym (pan-bits-is n h) ∙ e),
  λ w. pan-bits-is n h ∙ le-leb (n % 0x80000000) 0x3f800000 w,
)

-- only a NaN's bits may change
pub level-kept : (n : ℕ) → n < 2 ^ 32 → level_in_range (of_bits binary32 n) ≡ true → to_bits binary32 (of_bits binary32 n) ≡ n
level-kept n h e = to_bits-of_bits binary32 n h (level-not-nan (of_bits binary32 n) e)

pub pan-kept : (n : ℕ) → n < 2 ^ 32 → pan_in_range (of_bits binary32 n) ≡ true → to_bits binary32 (of_bits binary32 n) ≡ n
pan-kept n h e = to_bits-of_bits binary32 n h (pan-not-nan (of_bits binary32 n) e)

minus-zero-bits : of_bits binary32 0x80000000 ≡ fin true 0 (pos 0)
unfolding of_bits
minus-zero-bits = refl

pub range-laws : RangeLaws
range-laws = record {
  level_number = λ s m e. (λ t. level-to m e s (sym (level-fin s m e) ∙ t), λ h. level-fin s m e ∙ level-of m e s h);
  pan_number = λ s m e. (λ t. leb-true (m * up e) (down e) (sym (pan-fin s m e) ∙ t), λ h. pan-fin s m e ∙ le-leb (m * up e) (down e) h);
  level_nan = level-none false false;
  pan_nan = pan-none false false;
  level_inf = level-none true;
  pan_inf = pan-none true;
  level_bits = level_bits;
  pan_bits = pan_bits;
  level_survives = λ n h w. level-kept n h ((level_bits n h).1 w);
  pan_survives = λ n h w. pan-kept n h ((pan_bits n h).1 w);
  minus_zero = minus-zero-bits;
}
