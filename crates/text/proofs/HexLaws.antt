-- The laws of hex digits. Assumes nothing.
use mathlib.Core.Path.{◌≡◌, refl, ◌∙◌}
use mathlib.Core.Logic.{◌↔◌, ◌⊎◌, inl, inr, ⊎_elim}
use mathlib.Core.Bool.{Bool, true, false, not, ◌&&◌, ◌||◌}
use mathlib.Core.List.{List, [], ◌∷◌}
use Prim.Native.Nat.{ℕ, zero, suc, ◌+◌, ◌*◌, ◌/◌, ◌%◌, ◌<◌}
use native.Mathlib.Omega.{arith}
use borrow.Author.Tests.{eqb-true, eqb-false, lt-ltb, ltb-true, ltb-false}
use lib.Dec.{eqb, ltb}
use lib.ListN.{length, get_or}
use Rattle.text.specs.Hex.{hex_value, is_hex_digit, all_hex_digits, is_hex, hex_bytes, hex_digit, hex_text}
use Rattle.text.specs.Laws.{lower_digits, upper_digits, HexLaws}
use Rattle.text.proofs.Split.{split, clash, both}
use Rattle.text.proofs.HexSteps.{value-above, digit-small, bytes-length, text-length, pairs-hex}

-- ---- tables: a test that is computed at each number below n

abbrev all_below : ℕ → (ℕ → Bool) → Bool
all_below zero t = true
all_below (suc n) t = t n && all_below n t

under : (i n : ℕ) → i < suc n → (i ≡ n → ⊥) → i < n
under i n h d = split (ltb i n) (λ e. ltb-true i n e) (λ e. absurd (d (omega (arith, ltb-false i n e))))

at : (n : ℕ) (t : ℕ → Bool) → all_below n t ≡ true → (i : ℕ) → i < n → t i ≡ true
at zero t e i h = absurd (omega arith)
at (suc n) t e i h =
    let b = both (t n) (all_below n t) e in
    split (eqb i n)
    (λ p. let q = eqb-true i n p in rw q b.0)
    (λ p. at n t b.1 i (under i n h (eqb-false i n p)))

lower : (d : ℕ) → d < 16 → hex_value (get_or lower_digits d 0) ≡ d
unfolding hex_value
lower d h = eqb-true (hex_value (get_or lower_digits d 0)) d (at 16 (λ d. eqb (hex_value (get_or lower_digits d 0)) d) refl d h)

upper : (d : ℕ) → d < 16 → hex_value (get_or upper_digits d 0) ≡ d
unfolding hex_value
upper d h = eqb-true (hex_value (get_or upper_digits d 0)) d (at 16 (λ d. eqb (hex_value (get_or upper_digits d 0)) d) refl d h)

digit : (d : ℕ) → d < 16 → hex_digit d ≡ get_or lower_digits d 0
digit d h = eqb-true (hex_digit d) (get_or lower_digits d 0) (at 16 (λ d. eqb (hex_digit d) (get_or lower_digits d 0)) refl d h)

-- no digit, or one of a table
abbrev known : ℕ → Bool
known c = not (is_hex_digit c) || (eqb (get_or lower_digits (hex_value c) 0) c || eqb (get_or upper_digits (hex_value c) 0) c)

either : (d a b : Bool) → d ≡ true → (not d || (a || b)) ≡ true → (a ≡ true) ⊎ (b ≡ true)
either true true b d e = inl refl
either true false b d e = inr e
either false a b d e = clash false d refl

all_known : (c : ℕ) → c < 0x67 → known c ≡ true
unfolding hex_value
all_known c h = at 0x67 known refl c h

only : (c : ℕ) → hex_value c < 16 → (get_or lower_digits (hex_value c) 0 ≡ c) ⊎ (get_or upper_digits (hex_value c) 0 ≡ c)
only c h =
    let a = eqb (get_or lower_digits (hex_value c) 0) c in
    let b = eqb (get_or upper_digits (hex_value c) 0) c in
    let small : c < 0x67 = split (ltb c 0x67) (λ e. ltb-true c 0x67 e) (λ e. absurd (omega (arith, value-above c (ltb-false c 0x67 e)))) in
    ⊎_elim
    (λ e. inl (eqb-true (get_or lower_digits (hex_value c) 0) c e))
    (λ e. inr (eqb-true (get_or upper_digits (hex_value c) 0) c e))
    (either (is_hex_digit c) a b (lt-ltb (hex_value c) 16 h) (all_known c small))

-- ---- what is read

all_digits_lem : (s : List ℕ) → ((i : ℕ) → i < length s → hex_value (get_or s i 0) < 16) → all_hex_digits s ≡ true
all_digits_lem [] f = refl
all_digits_lem (c ∷ s) f = rw (lt-ltb (hex_value c) 16 (f 0 (omega arith)), all_digits_lem s (λ i h. f (suc i) (omega arith)))

good : (s : List ℕ) → (is_hex s ≡ true) ↔ ((length s % 2 ≡ 0) × ((i : ℕ) → i < length s → hex_value (get_or s i 0) < 16))
unfolding is_hex
good s = (
  λ e. let b = both (eqb (length s % 2) 0) (all_hex_digits s) e in (eqb-true (length s % 2) 0 b.0, λ i h. digit-small s i b.1 h),
  λ p. pairs-hex s p.0 (all_digits_lem s p.1),
)

byte : (s : List ℕ) (i : ℕ) → 2 * i + 1 < length s → get_or (hex_bytes s) i 0 ≡ 16 * hex_value (get_or s (2 * i) 0) + hex_value (get_or s (2 * i + 1) 0)
byte [] i h = absurd (omega arith)
byte (a ∷ []) i h = absurd (omega arith)
byte (a ∷ b ∷ s) zero h = refl
byte (a ∷ b ∷ s) (suc i) h =
    let p : 2 * suc i ≡ suc (suc (2 * i)) = omega arith in
    let q : 2 * suc i + 1 ≡ suc (suc (2 * i + 1)) = omega arith in
    rw (q, p) (byte s i (omega arith))

-- ---- what was written

high-at : (s : List ℕ) (i : ℕ) → i < length s → get_or (hex_text s) (2 * i) 0 ≡ hex_digit (get_or s i 0 / 16)
high-at [] i h = absurd (omega arith)
high-at (b ∷ s) zero h = refl
high-at (b ∷ s) (suc i) h = let p : 2 * suc i ≡ suc (suc (2 * i)) = omega arith in rw p (high-at s i (omega arith))

low-at : (s : List ℕ) (i : ℕ) → i < length s → get_or (hex_text s) (2 * i + 1) 0 ≡ hex_digit (get_or s i 0 % 16)
low-at [] i h = absurd (omega arith)
low-at (b ∷ s) zero h = refl
low-at (b ∷ s) (suc i) h = let p : 2 * suc i + 1 ≡ suc (suc (2 * i + 1)) = omega arith in rw p (low-at s i (omega arith))

high : (s : List ℕ) (i : ℕ) → i < length s → get_or s i 0 < 256 → get_or (hex_text s) (2 * i) 0 ≡ get_or lower_digits (get_or s i 0 / 16) 0
high s i h b = high-at s i h ∙ digit (get_or s i 0 / 16) (omega arith)

low : (s : List ℕ) (i : ℕ) → i < length s → get_or (hex_text s) (2 * i + 1) 0 ≡ get_or lower_digits (get_or s i 0 % 16) 0
low s i h = low-at s i h ∙ digit (get_or s i 0 % 16) (omega arith)

digit_value_lem : (d : ℕ) → d < 16 → hex_value (hex_digit d) ≡ d
digit_value_lem d h = rw (digit d h) (lower d h)

all-written : (s : List ℕ) → ((i : ℕ) → get_or s i 0 < 256) → all_hex_digits (hex_text s) ≡ true
all-written [] f = refl
all-written (b ∷ s) f =
    let h = f 0 in
    let high = digit_value_lem (b / 16) (omega arith) in
    let low = digit_value_lem (b % 16) (omega arith) in
    rw (high, low, lt-ltb (b / 16) 16 (omega arith), lt-ltb (b % 16) 16 (omega arith)) (all-written s (λ i. f (suc i)))

bytes_back : (s : List ℕ) → ((i : ℕ) → get_or s i 0 < 256) → hex_bytes (hex_text s) ≡ s
bytes_back [] f = refl
bytes_back (b ∷ s) f =
    let h = f 0 in
    let value : 16 * hex_value (hex_digit (b / 16)) + hex_value (hex_digit (b % 16)) ≡ b =
    omega (arith, digit_value_lem (b / 16) (omega arith), digit_value_lem (b % 16) (omega arith)) in
    λ i. value i ∷ bytes_back s (λ j. f (suc j)) i

back : (s : List ℕ) → ((i : ℕ) → get_or s i 0 < 256) → (is_hex (hex_text s) ≡ true) × (hex_bytes (hex_text s) ≡ s)
back s f = (pairs-hex (hex_text s) (omega (arith, text-length s)) (all-written s f), bytes_back s f)

pub hex-laws : HexLaws
hex-laws = record {
  lower = lower;
  upper = upper;
  only = only;
  good = good;
  width = bytes-length;
  byte = byte;
  written = text-length;
  high = high;
  low = low;
  back = back;
}
