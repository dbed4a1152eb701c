-- A key's name. Assumes nothing.
use mathlib.Core.Path.{◌≡◌, refl, sym, ap, ◌∙◌}
use mathlib.Core.Bool.{cond}
use mathlib.Core.List.{List, [], ◌∷◌, ◌++◌, foldl}
use Prim.Native.Nat.{ℕ, zero, suc, ◌+◌, ◌-◌, ◌*◌, ◌/◌, ◌%◌, ◌^◌, ◌≤◌, ◌<◌}
use native.Mathlib.Nat.{pow-succ', div-one, div-div-eq-div-mul}
use native.Mathlib.Omega.{arith}
use borrow.Author.Tests.{le-leb, lt-leb, ltb-true, ltb-false}
use lib.Dec.{leb, ltb}
use lib.ListN.{length, get_or, get_or-append}
use lib.Seq.{get_or-append_seam}
use Rattle.spec.specs.Name.{hex_digit, hex_digits, key_name}
use Rattle.buffers.proofs.Split.{split}
use Rattle.spec.proofs.Name.{digits-length, key-name-valid}
use Rattle.keys.specs.Laws.{KeyNames}
use Rattle.keys.proofs.Digits.{table, digit-listed, key_length, name-digits, no_name, high-name}

-- digit j, counted from the last
digit_at : (k i j n : ℕ) → i + suc j ≡ k → get_or (hex_digits k n) i 0 ≡ hex_digit (n / 16 ^ j % 16)
digit_at zero i j n e = absurd (omega arith)
digit_at (suc k) i zero n e =
    let h : i ≡ length (hex_digits k (n / 16)) = omega (arith, digits-length k (n / 16)) in
    rw (h, div-one n) (get_or-append_seam (hex_digits k (n / 16)) (hex_digit (n % 16)) [] 0)
digit_at (suc k) i (suc j) n e =
    let z : n / 16 / 16 ^ j ≡ n / 16 ^ suc j = div-div-eq-div-mul n 16 (16 ^ j) ∙ ap (λ (x : ℕ). n / x) (sym (pow-succ' 16 j)) in
    get_or-append (hex_digits k (n / 16)) (hex_digit (n % 16) ∷ []) 0 i (omega (arith, digits-length k (n / 16)))
    ∙ digit_at k i j (n / 16) (omega arith) ∙ ap (λ (x : ℕ). hex_digit (x % 16)) z

name-digit : (id i : ℕ) → 1 ≤ id → id ≤ 0xfffeffff → i < 16 → get_or (key_name id) i 0 ≡ get_or table (id / 16 ^ (15 - i) % 16) 0
name-digit id i h k l =
    ap (λ (n : List ℕ). get_or n i 0) (name-digits id h k) ∙ digit_at 16 i (15 - i) id (omega arith) ∙ digit-listed (id / 16 ^ (15 - i) % 16) (omega arith)

-- ---- the number that the digits stand for

abbrev digit_value : ℕ → ℕ
digit_value b = cond (leb b 0x39) (b - 0x30) (b - 0x57)

abbrev number_of : List ℕ → ℕ
number_of digits = foldl (λ (v b : ℕ). 16 * v + digit_value b) 0 digits

digit_value_lem : (d : ℕ) → d < 16 → digit_value (hex_digit d) ≡ d
digit_value_lem d h = split (ltb d 10)
    (λ e. let k = ltb-true d 10 e in rw (e, le-leb (0x30 + d) 0x39 (omega arith)) (omega arith))
    (λ e. let k = ltb-false d 10 e in rw (e, lt-leb (0x57 + d) 0x39 (omega arith)) (omega arith))

number-from : (v : ℕ) (l : List ℕ) (b : ℕ)
    → foldl (λ (v b : ℕ). 16 * v + digit_value b) v (l ++ b ∷ []) ≡ 16 * foldl (λ (v b : ℕ). 16 * v + digit_value b) v l + digit_value b
number-from v [] b = refl
number-from v (x ∷ l) b = number-from (16 * v + digit_value x) l b

digits_number : (k n : ℕ) → n < 16 ^ k → number_of (hex_digits k n) ≡ n
digits_number zero n h = omega arith
digits_number (suc k) n h =
    let z : 16 ^ suc k ≡ 16 * 16 ^ k = omega arith in
    let a = digits_number k (n / 16) (omega arith) in
    let b = digit_value_lem (n % 16) (omega arith) in
    number-from 0 (hex_digits k (n / 16)) (hex_digit (n % 16)) ∙ rw (a, b) (omega arith)

name-number : (id : ℕ) → 1 ≤ id → id ≤ 0xfffeffff → number_of (key_name id) ≡ id
name-number id h k = ap number_of (name-digits id h k) ∙ digits_number 16 id (omega arith)

names-distinct : (i j : ℕ) → 1 ≤ i → i ≤ 0xfffeffff → 1 ≤ j → j ≤ 0xfffeffff → key_name i ≡ key_name j → i ≡ j
names-distinct i j a b c d e = sym (name-number i a b) ∙ ap number_of e ∙ name-number j c d

pub key-names : KeyNames
key-names = record {
  none_low = no_name 0 (omega arith);
  none_high = high-name;
  sixteen = key_length;
  digits = name-digit;
  valid = key-name-valid;
  distinct = names-distinct;
}
