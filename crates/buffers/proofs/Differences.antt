-- The number that a comparison hands back: written out, bit by bit, and its size.
use mathlib.Core.Path.{◌≡◌, refl, sym, ap, ◌∙◌}
use mathlib.Core.Logic.{◌≢◌}
use mathlib.Core.List.{List, zip_with}
use Rattle.std.specs.List.{fold}
use Prim.Native.Nat.{ℕ, zero, suc, ◌/◌, ◌%◌, ◌^◌, ◌≤◌, ◌<◌}
use native.Mathlib.Nat.{mod-lt, div-le_self, zero-lt-suc}
use native.Mathlib.Numerals.{add-one}
use native.Mathlib.Omega.{arith}
use borrow.Author.Tests.{eqb-true, eqb-false}
use lib.Bits.{bit_or, bit_xor, and_le_l, and_le_r, or_add_and, xor_add_and, or_shr, xor_shr, or_mod, xor_mod, or_lt, xor_lt}
use lib.Dec.{eqb}
use lib.ListN.{length, get_or, drop, drop_of_length-le}
use Rattle.buffers.specs.Compare.{or_all, diff_accumulate}
use Rattle.buffers.proofs.Split.{split}
use Rattle.buffers.proofs.Folds.{diff_step}

-- ---- written out

-- the exclusive ors of the first n pairs, joined
abbrev pub first_pairs : List ℕ → List ℕ → ℕ → ℕ
first_pairs a b zero = 0
first_pairs a b (suc n) = bit_or (first_pairs a b n) (bit_xor (get_or a n 0) (get_or b n 0))

pairs-left : (a b : List ℕ) (n : ℕ) → n ≤ length a → length a ≡ length b
    → fold bit_or (first_pairs a b n) (zip_with bit_xor (drop n a) (drop n b)) ≡ diff_accumulate a b
unfolding or_all diff_accumulate
pairs-left a b zero h e = refl
pairs-left a b (suc n) h e = rw (add-one n) at (diff_step a b (first_pairs a b n) n (omega arith) (omega arith)) ∙ pairs-left a b n (omega arith) e

pub all-pairs : (a b : List ℕ) → length a ≡ length b → diff_accumulate a b ≡ first_pairs a b (length a)
unfolding zip_with
all-pairs a b e =
    let done = drop_of_length-le a {i = length a} (omega arith) in
    sym (rw done at (pairs-left a b (length a) (omega arith) e))

-- ---- bit by bit

abbrev bit : ℕ → ℕ → ℕ
bit n k = n / 2 ^ k % 2

bit-small : (n k : ℕ) → bit n k < 2
bit-small n k = mod-lt (n / 2 ^ k) (zero-lt-suc 1)

zero_bit : (k : ℕ) → bit 0 k ≡ 0
zero_bit k = omega (arith, div-le_self 0 (2 ^ k))

bit-or : (a b k : ℕ) → bit (bit_or a b) k ≡ bit_or (bit a k) (bit b k)
bit-or a b k = ap (λ (x : ℕ). x % 2) (or_shr a b k) ∙ or_mod (a / 2 ^ k) (b / 2 ^ k) 1

bit-xor : (a b k : ℕ) → bit (bit_xor a b) k ≡ bit_xor (bit a k) (bit b k)
bit-xor a b k = ap (λ (x : ℕ). x % 2) (xor_shr a b k) ∙ xor_mod (a / 2 ^ k) (b / 2 ^ k) 1

or-bit : (a b k : ℕ) → bit (bit_or a b) k ≡ 1 → bit b k ≢ 1 → bit a k ≡ 1
or-bit a b k e h = omega (arith, sym (bit-or a b k) ∙ e, h, bit-small a k, bit-small b k, or_add_and (bit a k) (bit b k))

bit-left : (a b k : ℕ) → bit a k ≡ 1 → bit (bit_or a b) k ≡ 1
bit-left a b k e = omega (arith, e, bit-or a b k, bit-small (bit_or a b) k, or_add_and (bit a k) (bit b k), and_le_r (bit a k) (bit b k))

bit-right : (a b k : ℕ) → bit b k ≡ 1 → bit (bit_or a b) k ≡ 1
bit-right a b k e = omega (arith, e, bit-or a b k, bit-small (bit_or a b) k, or_add_and (bit a k) (bit b k), and_le_l (bit a k) (bit b k))

xor-bit : (a b k : ℕ) → bit (bit_xor a b) k ≡ 1 → bit a k ≢ bit b k
xor-bit a b k e z =
    absurd (omega (arith, e, z, bit-xor a b k, bit-small a k, xor_add_and (bit a k) (bit b k), and_le_l (bit a k) (bit b k)))

bit-differs : (a b k : ℕ) → bit a k ≢ bit b k → bit (bit_xor a b) k ≡ 1
bit-differs a b k h =
    omega
    (arith, h, bit-xor a b k, bit-small a k, bit-small b k, xor_add_and (bit a k) (bit b k), and_le_l (bit a k) (bit b k), and_le_r (bit a k) (bit b k))

abbrev Differs : List ℕ → List ℕ → ℕ → ℕ → Type 0
Differs a b k i = bit (get_or a i 0) k ≢ bit (get_or b i 0) k

pub first_bit : (a b : List ℕ) (k n : ℕ) → bit (first_pairs a b n) k ≡ 1 → (i : ℕ) × (i < n) × Differs a b k i
first_bit a b k zero e = absurd (omega (arith, e, zero_bit k))
first_bit a b k (suc n) e =
    let last = bit_xor (get_or a n 0) (get_or b n 0) in
    split (eqb (bit last k) 1)
    (λ p. (n, omega arith, xor-bit (get_or a n 0) (get_or b n 0) k (eqb-true (bit last k) 1 p)))
    (λ p. let r = first_bit a b k n (or-bit (first_pairs a b n) last k e (eqb-false (bit last k) 1 p)) in (r.0, omega (arith, r.1), r.2))

pub bit-first : (a b : List ℕ) (k n i : ℕ) → i < n → Differs a b k i → bit (first_pairs a b n) k ≡ 1
bit-first a b k zero i h d = absurd (omega arith)
bit-first a b k (suc n) i h d = split (eqb i n)
    (λ e. let p = eqb-true i n e in
    bit-right (first_pairs a b n) (bit_xor (get_or a n 0) (get_or b n 0)) k (bit-differs (get_or a n 0) (get_or b n 0) k (rw p at d)))
    (λ e. let p = eqb-false i n e in
    bit-left (first_pairs a b n) (bit_xor (get_or a n 0) (get_or b n 0)) k (bit-first a b k n i (omega (arith, p)) d))

-- ---- its size

pub first_byte : (a b : List ℕ) (n : ℕ) → ((i : ℕ) → (get_or a i 0 < 256) × (get_or b i 0 < 256)) → first_pairs a b n < 256
first_byte a b zero h = omega arith
first_byte a b (suc n) h =
    or_lt 8 (first_pairs a b n) (bit_xor (get_or a n 0) (get_or b n 0)) (first_byte a b n h) (xor_lt 8 (get_or a n 0) (get_or b n 0) (h n).0 (h n).1)
