-- Decimal digits, as the loops meet them. Assumes nothing.
use mathlib.Core.Path.{◌≡◌, refl, ap, ◌∙◌}
use mathlib.Core.Bool.{true, false}
use mathlib.Core.List.{List, [], ◌∷◌, ◌++◌}
use Prim.Native.Nat.{ℕ, zero, suc, ◌+◌, ◌-◌, ◌*◌, ◌/◌, ◌%◌, ◌^◌, ◌≤◌, ◌<◌}
use native.Mathlib.Numerals.{add-one}
use native.Mathlib.Omega.{arith}
use borrow.Author.Tests.{lt-ltb, le-ltb, le-leb, lt-leb}
use lib.Dec.{ltb}
use lib.ListN.{length, get_or, drop, length-append}
use lib.Seq.{drop-cons}
use Rattle.std.specs.Prelude.{Option, Some, None, IfSome, IfNone}
use Rattle.std.specs.Char.{digit_value}
use Rattle.std.specs.Option.{unwrap_or}
use Rattle.std.proofs.lemmas.Bool.Decides.{nat_tests}
use Rattle.text.specs.Hex.{within}
use Rattle.text.specs.Decimal.{all_digits, is_decimal, value_after, decimal_value, read, places_before, places, digits, decimal_text}
use Rattle.text.proofs.Split.{and-false}

-- ---- one digit read

pub value_grows : (value : ℕ) (s : List ℕ) → value ≤ value_after value s
value_grows value [] = omega arith
value_grows value (c ∷ s) = omega (arith, value_grows (10 * value + (c - 0x30)) s)

-- what the library reads, which has digits up to z
pub digit-read : (c : ℕ) → digit_value c < 10 → (0x30 ≤ c) × (c ≤ 0x39) × (digit_value c ≡ c - 0x30)
digit-read c h =
    let low : 0x30 ≤ c = grind (arith, nat_tests) in
    let high : c ≤ 0x39 = grind (arith, nat_tests) in
    (low, high, grind (arith, nat_tests))

no-digit : (c : ℕ) → ¬ (digit_value c < 10) → within 0x30 0x39 c ≡ false
no-digit c h = grind (arith, nat_tests)

module _ (s : List ℕ) (i : ℕ) (h : i < length s) where
  pub digits-stop : ¬ (digit_value (get_or s i 0) < 10) → all_digits (drop i s) ≡ false
  digits-stop n = rw (drop-cons s i 0 h, no-digit (get_or s i 0) n)

  pub value-goes-on : (value : ℕ) → value_after (10 * value + (get_or s i 0 - 0x30)) (drop (i + 1) s) ≡ value_after value (drop i s)
  value-goes-on value = rw (add-one, drop-cons s i 0 h)

  -- what is over the most stays over it
  pub value-over : (value most : ℕ) → most < 10 * value + (get_or s i 0 - 0x30) → most < value_after value (drop i s)
  value-over value most o =
      let next = 10 * value + (get_or s i 0 - 0x30) in
      omega (arith, value-goes-on value, value_grows next (drop (i + 1) s))

-- ---- what is read

module _ (s : List ℕ) (most : ℕ) where
  pub read-bad : is_decimal s ≡ false → None ≡ read s most
  unfolding read
  read-bad e = rw e

  pub read-over : most < decimal_value s → None ≡ read s most
  unfolding read
  read-over h = rw (and-false (is_decimal s) (lt-leb (decimal_value s) most h))

  pub read-good : is_decimal s ≡ true → decimal_value s ≤ most → Some (decimal_value s) ≡ read s most
  unfolding read
  read-good e h = rw (e, le-leb (decimal_value s) most h)

pub empty-bad : (s : List ℕ) → length s < 1 → is_decimal s ≡ false
unfolding is_decimal
empty-bad s h = rw (le-ltb 0 (length s) (omega arith))

pub other-bad : (s : List ℕ) → all_digits s ≡ false → is_decimal s ≡ false
unfolding is_decimal
other-bad s e = and-false (ltb 0 (length s)) e

pub digits-good : (s : List ℕ) → 0 < length s → all_digits s ≡ true → is_decimal s ≡ true
unfolding is_decimal
digits-good s h e = rw (lt-ltb 0 (length s) h, e)

-- ---- how many digits there are

power-some : (k : ℕ) → 0 < 10 ^ k
power-some zero = omega arith
power-some (suc k) =
    let p : 10 ^ suc k ≡ 10 * 10 ^ k = omega arith in
    omega (arith, power-some k)

places-power : (left k rest : ℕ) → k ≤ left → 10 ^ k ≤ 10 * rest + 9 → rest < 10 ^ k → places_before left rest ≡ k
places-power zero zero rest h low high = refl
places-power zero (suc k) rest h low high = absurd (omega arith)
places-power (suc left) zero rest h low high = rw (le-ltb 0 rest (omega arith))
places-power (suc left) (suc k) rest h low high =
    let p : 10 ^ suc k ≡ 10 * 10 ^ k = omega arith in
    let some : 0 < rest = omega (arith, power-some k) in
    rw (lt-ltb 0 rest some) (ap suc (places-power left k (rest / 10) (omega arith) (omega arith) (omega arith)))

-- by the power of ten that the library finds
pub places-found : (n : ℕ) (o : Option ℕ) → IfNone o (n ≡ 0) → IfSome o (λ k. 10 ^ k ≤ n) → IfSome o (λ k. n < 10 * 10 ^ k) → IfSome o (λ k. k < 20)
    → unwrap_or o 0 + 1 ≡ places n
unfolding places
places-found n None z low high k = rw z refl
places-found n (Some k) z low high b = omega (arith, places-power 19 k (n / 10) (omega arith) (omega arith) (omega arith))

-- ---- how long texts are

pub digits-length : (k n : ℕ) → length (digits k n) ≡ k
digits-length zero n = refl
digits-length (suc k) n = length-append (digits k (n / 10)) ((0x30 + n % 10) ∷ []) ∙ omega (arith, digits-length k (n / 10))

pub text-length : (n : ℕ) → length (decimal_text n) ≡ places n
unfolding decimal_text
text-length n = digits-length (places n) n

pub text-digits : (n k : ℕ) (back : List ℕ) → k ≡ places n → digits k n ++ back ≡ decimal_text n ++ back
unfolding decimal_text
text-digits n k back e = rw e
