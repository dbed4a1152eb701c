-- Hex digits, as the loops meet them. Assumes nothing.
use mathlib.Core.Path.{◌≡◌, refl, sym, ap, ◌∙◌}
use mathlib.Core.Bool.{true, false}
use mathlib.Core.List.{List, [], ◌∷◌, ◌++◌}
use Prim.Native.Nat.{ℕ, zero, suc, ◌+◌, ◌-◌, ◌*◌, ◌/◌, ◌%◌, ◌≤◌, ◌<◌}
use native.Mathlib.Numerals.{add-one}
use native.Mathlib.Omega.{arith}
use borrow.Author.Tests.{ltb-true, le-leb, lt-leb, eq-eqb, ne_eqb}
use lib.Dec.{eqb}
use lib.ListN.{length, get_or, take, drop, set}
use lib.Seq.{drop-cons, append_snoc, take-suc-set, drop-set-lt, lt-length-set, drop-drop}
use Rattle.std.specs.Char.{is_ascii_hexdigit}
use Rattle.std.specs.List.{list_all}
use Rattle.std.proofs.lemmas.Bool.Decides.{nat_tests}
use Rattle.text.specs.Hex.{within, hex_value, is_hex_digit, all_hex_digits, is_hex, hex_bytes, hex_digit, hex_text}
use Rattle.text.proofs.Split.{both, and-false}

-- ---- a digit's value

pub within_true : (low high c : ℕ) → low ≤ c → c ≤ high → within low high c ≡ true
within_true low high c p q = rw (le-leb low c p, le-leb c high q)

pub within-below : (low high c : ℕ) → c < low → within low high c ≡ false
within-below low high c p = rw (lt-leb low c p)

pub within-above : (low high c : ℕ) → low ≤ high → high < c → within low high c ≡ false
within-above low high c o p = rw (le-leb low c (omega arith), lt-leb c high p)

pub value-below : (c : ℕ) → c < 0x30 → hex_value c ≡ 16
unfolding hex_value
value-below c h = rw (within-below 0x30 0x39 c (omega arith), within-below 0x41 0x46 c (omega arith), within-below 0x61 0x66 c (omega arith))

pub value-decimal : (c : ℕ) → 0x30 ≤ c → c ≤ 0x39 → hex_value c ≡ c - 0x30
unfolding hex_value
value-decimal c h k = rw (within_true 0x30 0x39 c h k)

pub value-between : (c : ℕ) → 0x39 < c → c < 0x41 → hex_value c ≡ 16
unfolding hex_value
value-between c h k =
    rw (within-above 0x30 0x39 c (omega arith) (omega arith), within-below 0x41 0x46 c (omega arith), within-below 0x61 0x66 c (omega arith))

pub value-upper : (c : ℕ) → 0x41 ≤ c → c ≤ 0x46 → hex_value c ≡ c - 0x37
unfolding hex_value
value-upper c h k = rw (within-above 0x30 0x39 c (omega arith) (omega arith), within_true 0x41 0x46 c h k)

pub value-between-cases : (c : ℕ) → 0x46 < c → c < 0x61 → hex_value c ≡ 16
unfolding hex_value
value-between-cases c h k =
    rw (within-above 0x30 0x39 c (omega arith) (omega arith), within-above 0x41 0x46 c (omega arith) (omega arith), within-below 0x61 0x66 c (omega arith))

pub value-lower : (c : ℕ) → 0x61 ≤ c → c ≤ 0x66 → hex_value c ≡ c - 0x57
unfolding hex_value
value-lower c h k =
    rw (within-above 0x30 0x39 c (omega arith) (omega arith), within-above 0x41 0x46 c (omega arith) (omega arith), within_true 0x61 0x66 c h k)

pub value-above : (c : ℕ) → 0x66 < c → hex_value c ≡ 16
unfolding hex_value
value-above c h =
    rw (within-above 0x30 0x39 c (omega arith) (omega arith), within-above 0x41 0x46 c (omega arith) (omega arith), within-above 0x61 0x66 c (omega arith) h)

-- ---- whether all are digits

digit_test : (c : ℕ) → is_ascii_hexdigit c ≡ is_hex_digit c
unfolding hex_value
digit_test c = grind (arith, nat_tests)

pub digits-all : (s : List ℕ) → list_all is_ascii_hexdigit s ≡ all_hex_digits s
digits-all [] = refl
digits-all (c ∷ s) = rw (digit_test c, digits-all s)

pub digit-small : (s : List ℕ) (i : ℕ) → all_hex_digits s ≡ true → i < length s → hex_value (get_or s i 0) < 16
digit-small [] i e h = absurd (omega arith)
digit-small (c ∷ s) zero e h = ltb-true (hex_value c) 16 (both (is_hex_digit c) (all_hex_digits s) e).0
digit-small (c ∷ s) (suc i) e h = digit-small s i (both (is_hex_digit c) (all_hex_digits s) e).1 (omega arith)

-- ---- how long texts and their bytes are

pub bytes-length : (s : List ℕ) → length (hex_bytes s) ≡ length s / 2
bytes-length [] = refl
bytes-length (a ∷ []) = refl
bytes-length (a ∷ b ∷ s) = omega (arith, bytes-length s)

pub text-length : (s : List ℕ) → length (hex_text s) ≡ 2 * length s
text-length [] = refl
text-length (b ∷ s) = omega (arith, text-length s)

-- ---- one byte written

twice : (i : ℕ) → 2 * (i + 1) ≡ suc (suc (2 * i))
twice i = omega arith

pub put_two : (s out : List ℕ) (i a b : ℕ) → i < length s → 2 * i + 1 < length out → a ≡ hex_digit (get_or s i 0 / 16) → b ≡ hex_digit (get_or s i 0 % 16)
    → take (2 * (i + 1)) (set (set out (2 * i) a) (2 * i + 1) b) ++ hex_text (drop (i + 1) s) ≡ take (2 * i) out ++ hex_text (drop i s)
put_two s out i a b hs ho p q =
    let m = 2 * i in
    let one = set out m a in
    let front : take (suc (suc m)) (set one (suc m) b) ≡ (take m out ++ a ∷ []) ++ b ∷ [] =
    take-suc-set one (suc m) b (lt-length-set out m a (omega arith)) ∙ ap (λ (l : List ℕ). l ++ b ∷ []) (take-suc-set out m a (omega arith)) in
    let rest = hex_text (drop (suc i) s) in
    rw (twice i, add-one m, add-one i, drop-cons s i 0 hs, front, ← p, ← q)
    (append_snoc (take m out ++ a ∷ []) b rest ∙ append_snoc (take m out) a (b ∷ rest))

-- what lies behind is as it was
pub kept-two : (out out₀ : List ℕ) (i a b : ℕ) → drop (2 * i) out ≡ drop (2 * i) out₀
    → drop (2 * (i + 1)) (set (set out (2 * i) a) (2 * i + 1) b) ≡ drop (2 * (i + 1)) out₀
kept-two out out₀ i a b e =
    let n : 2 * (i + 1) ≡ 2 * i + 2 = omega arith in
    rw (n, drop-set-lt (2 * i + 2) (set out (2 * i) a) (2 * i + 1) b (omega arith), drop-set-lt (2 * i + 2) out (2 * i) a (omega arith))
    (sym (drop-drop 2 (2 * i) out) ∙ ap (drop 2) e ∙ drop-drop 2 (2 * i) out₀)

-- ---- whether a text is whole pairs of digits

pub odd-not-hex : (s : List ℕ) → (length s % 2 ≡ 0 → ⊥) → is_hex s ≡ false
unfolding is_hex
odd-not-hex s h = rw (ne_eqb (length s % 2) 0 h)

pub other-not-hex : (s : List ℕ) → all_hex_digits s ≡ false → is_hex s ≡ false
unfolding is_hex
other-not-hex s e = and-false (eqb (length s % 2) 0) e

pub pairs-hex : (s : List ℕ) → length s % 2 ≡ 0 → all_hex_digits s ≡ true → is_hex s ≡ true
unfolding is_hex
pairs-hex s h e = rw (eq-eqb (length s % 2) 0 h, e)
