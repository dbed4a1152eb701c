-- Laws of byte strings: the equality test, zeros, little-endian numbers.
use mathlib.Core.Path.{◌≡◌, refl, ap, ◌∙◌}
use mathlib.Core.Logic.{◌≢◌}
use mathlib.Core.Bool.{true, false}
use mathlib.Core.List.{List, [], ◌∷◌, ◌++◌, append_assoc}
use Prim.Native.Nat.{ℕ, zero, suc, ◌-◌, ◌*◌, ◌/◌, ◌^◌, ◌≤◌, ◌<◌}
use native.Mathlib.Omega.{arith}
use borrow.Author.Tests.{eqb-true, eq-eqb}
use lib.Dec.{eqb}
use lib.ListN.{length, take, drop, length-append, length-replicate}
use lib.Seq.{take-append_seam, drop-append_seam}
use Rattle.buffers.specs.Bytes.{bytes_eq, zeros, all_zero, zero_fill, le_bytes, le_value}
use Rattle.buffers.proofs.Split.{split, clash, both}

-- ---- the equality test

pub bytes_eq-eq : (a b : List ℕ) → bytes_eq a b ≡ true → a ≡ b
bytes_eq-eq [] [] e = refl
bytes_eq-eq [] (y ∷ ys) e = clash false e refl
bytes_eq-eq (x ∷ xs) [] e = clash false e refl
bytes_eq-eq (x ∷ xs) (y ∷ ys) e =
    let h = both (eqb x y) (bytes_eq xs ys) e in
    let p = eqb-true x y h.0 in
    let q = bytes_eq-eq xs ys h.1 in
    cc

pub bytes_eq-refl : (a : List ℕ) → bytes_eq a a ≡ true
bytes_eq-refl [] = refl
bytes_eq-refl (x ∷ xs) = rw (eq-eqb x x refl, bytes_eq-refl xs)

pub eq-bytes_eq : (a b : List ℕ) → a ≡ b → bytes_eq a b ≡ true
eq-bytes_eq a b e = rw e (bytes_eq-refl b)

pub bytes_eq-not : (a b : List ℕ) → a ≢ b → bytes_eq a b ≡ false
bytes_eq-not a b h = split (bytes_eq a b) (λ e. absurd (h (bytes_eq-eq a b e))) (λ e. e)

pub lengths_differ : (a b : List ℕ) → (length a ≡ length b → ⊥) → bytes_eq a b ≡ false
lengths_differ a b h = bytes_eq-not a b (λ e. h (ap length e))

-- ---- zeros

pub all_zero-zeros : (n : ℕ) → all_zero (zeros n) ≡ true
all_zero-zeros zero = refl
all_zero-zeros (suc n) = all_zero-zeros n

pub zeros_of : (l : List ℕ) → all_zero l ≡ true → l ≡ zeros (length l)
zeros_of [] h = refl
zeros_of (x ∷ l) h =
    let p = both (eqb x 0) (all_zero l) h in
    λ i. eqb-true x 0 p.0 i ∷ zeros_of l p.1 i

pub length-zeros : (n : ℕ) → length (zeros n) ≡ n
length-zeros n = length-replicate {A = ℕ} n 0

pub take-zeros : (j k : ℕ) → j ≤ k → take j (zeros k) ≡ zeros j
take-zeros zero k h = refl
take-zeros (suc j) zero h = absurd (omega arith)
take-zeros (suc j) (suc k) h = ap (λ (l : List ℕ). 0 ∷ l) (take-zeros j k (omega arith))

pub drop-zeros : (n k : ℕ) → drop k (zeros n) ≡ zeros (n - k)
drop-zeros zero zero = refl
drop-zeros zero (suc k) = let e : 0 - suc k ≡ 0 = omega arith in rw e
drop-zeros (suc n) zero = let e : suc n - 0 ≡ suc n = omega arith in rw e
drop-zeros (suc n) (suc k) = let e : suc n - suc k ≡ n - k = omega arith in rw e (drop-zeros n k)

pub length-zero_fill : (k : ℕ) (l : List ℕ) → length l ≤ k → length (zero_fill k l) ≡ k
length-zero_fill k l h = length-append l (zeros (k - length l)) ∙ rw (length-zeros (k - length l)) (omega arith)

pub take-zero_fill : (k : ℕ) (l m : List ℕ) → take (length l) (zero_fill k l ++ m) ≡ l
take-zero_fill k l m = rw append_assoc (take-append_seam l (zeros (k - length l) ++ m))

pub drop-zero_fill : (k : ℕ) (l m : List ℕ) → drop (length l) (zero_fill k l ++ m) ≡ zeros (k - length l) ++ m
drop-zero_fill k l m = rw append_assoc (drop-append_seam l (zeros (k - length l) ++ m))

-- ---- little-endian numbers

-- a number that k bytes can hold is read back from them
pub le-value : (k x : ℕ) → x < 256 ^ k → le_value (le_bytes k x) ≡ x
le-value zero x h = omega arith
le-value (suc k) x h =
    let e : 256 ^ suc k ≡ 256 * 256 ^ k = omega arith in
    rw (le-value k (x / 256) (omega arith)) (omega arith)

pub length-le_bytes : (k x : ℕ) → length (le_bytes k x) ≡ k
length-le_bytes zero x = refl
length-le_bytes (suc k) x = ap suc (length-le_bytes k (x / 256))
