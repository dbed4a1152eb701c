-- The laws of decimal numbers. Assumes nothing.
use mathlib.Core.Path.{◌≡◌, refl, sym, ap, ◌∙◌}
use mathlib.Core.Logic.{◌↔◌}
use mathlib.Core.Bool.{true}
use mathlib.Core.List.{List, [], ◌∷◌, ◌++◌}
use Prim.Native.Nat.{ℕ, zero, suc, ◌+◌, ◌-◌, ◌*◌, ◌/◌, ◌%◌, ◌^◌, ◌≤◌, ◌<◌}
use native.Mathlib.Nat.{add-mul, mul_assoc, mul_left_comm}
use native.Mathlib.Omega.{arith}
use borrow.Author.Tests.{lt-ltb, ltb-true, ltb-false, leb-true}
use lib.Dec.{ltb, leb}
use lib.ListN.{length, get_or, get_or-append}
use Rattle.text.specs.Hex.{within}
use Rattle.text.specs.Decimal.{all_digits, is_decimal, value_after, decimal_value, places_before, places, digits, decimal_text}
use Rattle.text.specs.Laws.{DecimalLaws}
use Rattle.text.proofs.Split.{split, both}
use Rattle.text.proofs.HexSteps.{within_true}
use Rattle.text.proofs.DecimalSteps.{read-good, read-over, read-bad, digits-length}

-- ---- what is read

digits-each : (s : List ℕ) → all_digits s ≡ true → (i : ℕ) → i < length s → (0x30 ≤ get_or s i 0) × (get_or s i 0 ≤ 0x39)
digits-each [] e i h = absurd (omega arith)
digits-each (c ∷ s) e zero h =
    let b = both (leb 0x30 c) (leb c 0x39) (both (within 0x30 0x39 c) (all_digits s) e).0 in
    (leb-true 0x30 c b.0, leb-true c 0x39 b.1)
digits-each (c ∷ s) e (suc i) h = digits-each s (both (within 0x30 0x39 c) (all_digits s) e).1 i (omega arith)

each-digits : (s : List ℕ) → ((i : ℕ) → i < length s → (0x30 ≤ get_or s i 0) × (get_or s i 0 ≤ 0x39)) → all_digits s ≡ true
each-digits [] f = refl
each-digits (c ∷ s) f =
    let h = f 0 (omega arith) in
    rw (within_true 0x30 0x39 c h.0 h.1) (each-digits s (λ i k. f (suc i) (omega arith)))

good : (s : List ℕ) → (is_decimal s ≡ true) ↔ ((0 < length s) × ((i : ℕ) → i < length s → (0x30 ≤ get_or s i 0) × (get_or s i 0 ≤ 0x39)))
unfolding is_decimal
good s = (
  λ e. let b = both (ltb 0 (length s)) (all_digits s) e in (ltb-true 0 (length s) b.0, digits-each s b.1),
  λ p. rw (lt-ltb 0 (length s) p.0) (each-digits s p.1),
)

-- ---- what a digit counts

started : (c : ℕ) (s : List ℕ) → decimal_value (c ∷ s) ≡ value_after (c - 0x30) s
started c s = let e : 10 * 0 + (c - 0x30) ≡ c - 0x30 = omega arith in ap (λ (value : ℕ). value_after value s) e

weights : (value : ℕ) (s : List ℕ) → value_after value s ≡ value * 10 ^ length s + decimal_value s
weights value [] = omega arith
weights value (c ∷ s) =
    let d = c - 0x30 in
    let p = 10 ^ length s in
    let e : 10 ^ suc (length s) ≡ 10 * p = omega arith in
    let m : (10 * value + d) * p ≡ value * (10 * p) + d * p = add-mul (10 * value) d p ∙ rw (mul_assoc 10 value p, mul_left_comm 10 value p) in
    let all : value_after value (c ∷ s) ≡ (10 * value + d) * p + decimal_value s = weights (10 * value + d) s in
    let alone : decimal_value (c ∷ s) ≡ d * p + decimal_value s = started c s ∙ weights d s in
    rw e (omega (arith, all, alone, m))

digit : (c : ℕ) (s : List ℕ) → decimal_value (c ∷ s) ≡ (c - 0x30) * 10 ^ length s + decimal_value s
digit c s = started c s ∙ weights (c - 0x30) s

-- ---- a written number

value-snoc : (value : ℕ) (s : List ℕ) (c : ℕ) → value_after value (s ++ c ∷ []) ≡ 10 * value_after value s + (c - 0x30)
value-snoc value [] c = refl
value-snoc value (x ∷ s) c = value-snoc (10 * value + (x - 0x30)) s c

digits_value : (k n : ℕ) → n < 10 ^ k → decimal_value (digits k n) ≡ n
digits_value zero n h = omega arith
digits_value (suc k) n h =
    let e : 10 ^ suc k ≡ 10 * 10 ^ k = omega arith in
    value-snoc 0 (digits k (n / 10)) (0x30 + n % 10) ∙ omega (arith, digits_value k (n / 10) (omega arith))

all_snoc : (s : List ℕ) (c : ℕ) → all_digits s ≡ true → within 0x30 0x39 c ≡ true → all_digits (s ++ c ∷ []) ≡ true
all_snoc [] c e h = rw h
all_snoc (x ∷ s) c e h = let b = both (within 0x30 0x39 x) (all_digits s) e in rw b.0 (all_snoc s c b.1 h)

digits-all : (k n : ℕ) → all_digits (digits k n) ≡ true
digits-all zero n = refl
digits-all (suc k) n = all_snoc (digits k (n / 10)) (0x30 + n % 10) (digits-all k (n / 10)) (within_true 0x30 0x39 (0x30 + n % 10) (omega arith) (omega arith))

-- the digits before the last ones hold the rest
before-hold : (left rest : ℕ) → rest < 10 ^ left → rest < 10 ^ places_before left rest
before-hold zero rest h = h
before-hold (suc left) rest h = split (ltb 0 rest)
    (λ e.
    let p : 10 ^ suc left ≡ 10 * 10 ^ left = omega arith in
    let k = places_before left (rest / 10) in
    let q : 10 ^ suc k ≡ 10 * 10 ^ k = omega arith in
    let r = before-hold left (rest / 10) (omega arith) in
    rw e (omega arith))
    (λ e. rw e (omega (arith, ltb-false 0 rest e)))

places-hold : (n : ℕ) → n < 2 ^ 64 → n < 10 ^ places n
unfolding places
places-hold n h =
    let k = places_before 19 (n / 10) in
    let q : 10 ^ suc k ≡ 10 * 10 ^ k = omega arith in
    omega (arith, before-hold 19 (n / 10) (omega arith))

some : (n : ℕ) → 0 < places n
unfolding places
some n = omega arith

back : (n : ℕ) → n < 2 ^ 64 → (is_decimal (decimal_text n) ≡ true) × (decimal_value (decimal_text n) ≡ n)
unfolding is_decimal decimal_text
back n h =
    let size : 0 < length (digits (places n) n) = rw (digits-length (places n) n) (some n) in
    (rw (lt-ltb 0 (length (digits (places n) n)) size) (digits-all (places n) n), digits_value (places n) n (places-hold n h))

-- the first of the digits before the last ones is not 0
first-digit : (left rest : ℕ) → rest < 10 ^ left → 0 < places_before left rest → 0x30 < get_or (digits (places_before left rest) rest) 0 0
first-digit zero rest h k = absurd (omega arith)
first-digit (suc left) rest h k = split (ltb 0 rest)
    (λ e.
    let p : 10 ^ suc left ≡ 10 * 10 ^ left = omega arith in
    let next = places_before left (rest / 10) in
    let small : rest / 10 < 10 ^ left = omega arith in
    rw e (split (ltb 0 next)
    (λ f.
    let some = ltb-true 0 next f in
    let size = digits-length next (rest / 10) in
    rw (get_or-append (digits next (rest / 10)) ((0x30 + rest % 10) ∷ []) 0 0 (omega arith)) (first-digit left (rest / 10) small some))
    (λ f.
    let none : next ≡ 0 = omega (arith, ltb-false 0 next f) in
    let held = before-hold left (rest / 10) small in
    let over = ltb-true 0 rest e in
    let one : rest / 10 < 10 ^ 0 = rw none at held in
    rw none (omega arith))))
    (λ e. absurd (omega (arith, rw e at k)))

fewest : (n : ℕ) → n < 2 ^ 64 → 1 < length (decimal_text n) → 0x30 < get_or (decimal_text n) 0 0
unfolding decimal_text places
fewest n h k =
    let p = places_before 19 (n / 10) in
    let size = digits-length p (n / 10) in
    let all = digits-length (suc p) n in
    rw (get_or-append (digits p (n / 10)) ((0x30 + n % 10) ∷ []) 0 0 (omega arith)) (first-digit 19 (n / 10) (omega arith) (omega arith))

pub decimal-laws : DecimalLaws
decimal-laws = record {
  good = good;
  none = refl;
  digit = digit;
  leading_zero = λ s. refl;
  taken = λ s most e h. sym (read-good s most e h);
  over = λ s most h. sym (read-over s most h);
  bad = λ s most e. sym (read-bad s most e);
  back = back;
  fewest = fewest;
}
