-- Tests that join all bytes by or and exclusive or, and decide at the end. Assumes nothing.
use mathlib.Core.Path.{◌≡◌, refl, sym, ap, ap₂, ◌∙◌}
use mathlib.Core.Bool.{Bool, true, false, ◌&&◌, and_assoc}
use mathlib.Core.List.{List, [], ◌∷◌, zip_with}
use Rattle.std.specs.List.{fold, zip}
use Prim.Native.Nat.{ℕ, ◌+◌, ◌<◌}
use native.Mathlib.Numerals.{add-one}
use native.Mathlib.Omega.{arith}
use borrow.Author.Tests.{eqb-true, eqb-false, eq-eqb, ne_eqb}
use lib.Bits.{bit_or, bit_xor, and_le_l, and_le_r, or_add_and, xor_add_and, xor_self}
use lib.Dec.{eqb}
use lib.ListN.{length, get_or, drop}
use lib.Seq.{drop-cons}
use Rattle.buffers.specs.Bytes.{bytes_eq, all_zero}
use Rattle.buffers.specs.Compare.{or_all, diff_accumulate}
use Rattle.buffers.proofs.Split.{split}

pub and-true : (a : Bool) → (a && true) ≡ a
and-true true = refl
and-true false = refl

pub or-test : (a b : ℕ) → eqb (bit_or a b) 0 ≡ (eqb a 0 && eqb b 0)
or-test a b = split (eqb a 0)
    (λ e. split (eqb b 0)
    (λ f. let p = eqb-true a 0 e in let q = eqb-true b 0 f in rw (e, f) (eq-eqb (bit_or a b) 0 (omega (arith, or_add_and a b))))
    (λ f. rw (e, f) (ne_eqb (bit_or a b) 0 (λ z. eqb-false b 0 f (omega (arith, or_add_and a b, and_le_l a b))))))
    (λ e. rw e (ne_eqb (bit_or a b) 0 (λ z. eqb-false a 0 e (omega (arith, or_add_and a b, and_le_r a b)))))

xor-test : (a b : ℕ) → eqb (bit_xor a b) 0 ≡ eqb a b
xor-test a b = split (eqb a b)
    (λ e. rw e (eq-eqb (bit_xor a b) 0 (let p = eqb-true a b e in rw p (xor_self b))))
    (λ e. rw e (ne_eqb (bit_xor a b) 0 (λ z. eqb-false a b e (omega (arith, xor_add_and a b, and_le_l a b, and_le_r a b)))))

pub fold-test : (l : List ℕ) (acc : ℕ) → eqb (fold bit_or acc l) 0 ≡ (eqb acc 0 && all_zero l)
fold-test [] acc = split (eqb acc 0) (λ e. rw e) (λ e. rw e)
fold-test (x ∷ l) acc = fold-test l (bit_or acc x) ∙ rw (or-test acc x) (and_assoc (eqb acc 0) (eqb x 0) (all_zero l))

or-all-test : (l : List ℕ) → eqb (or_all l) 0 ≡ all_zero l
unfolding or_all
or-all-test l = fold-test l 0

bytes-xor : (a b : List ℕ) → length a ≡ length b → all_zero (zip_with bit_xor a b) ≡ bytes_eq a b
unfolding zip_with
bytes-xor [] [] e = refl
bytes-xor [] (y ∷ b) e = absurd (omega arith)
bytes-xor (x ∷ a) [] e = absurd (omega arith)
bytes-xor (x ∷ a) (y ∷ b) e = rw (xor-test x y, bytes-xor a b (omega arith))

-- the decision at the end
pub diff-test : (a b : List ℕ) → length a ≡ length b → eqb (diff_accumulate a b) 0 ≡ bytes_eq a b
unfolding diff_accumulate
diff-test a b e = or-all-test (zip_with bit_xor a b) ∙ bytes-xor a b e

-- the pairs of a chain, joined one by one
pub pairs-fold : (a b : List ℕ) (acc : ℕ) → fold (λ n p. bit_or n (bit_xor p.0 p.1)) acc (zip a b) ≡ fold bit_or acc (zip_with bit_xor a b)
unfolding zip_with
pairs-fold [] b acc = refl
pairs-fold (x ∷ a) [] acc = refl
pairs-fold (x ∷ a) (y ∷ b) acc = pairs-fold a b (bit_or acc (bit_xor x y))

pub diff_step : (a b : List ℕ) (acc i : ℕ) → i < length a → i < length b
    → fold bit_or (bit_or acc (bit_xor (get_or a i 0) (get_or b i 0))) (zip_with bit_xor (drop (i + 1) a) (drop (i + 1) b))
    ≡ fold bit_or acc (zip_with bit_xor (drop i a) (drop i b))
unfolding zip_with
diff_step a b acc i ha hb =
    rw add-one (sym (ap (fold bit_or acc) (ap₂ (zip_with bit_xor) (drop-cons a i 0 ha) (drop-cons b i 0 hb))))
