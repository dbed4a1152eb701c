-- The salt's two parts, each cut so that both together have at most 32 bytes. Assumes nothing.
use Rattle.std.proofs.Common.{◌≡◌, ℕ, zero, suc, ◌-◌, min, List, [], ◌∷◌, ◌++◌, length, take, sym, ap, ◌∙◌, ap₂, arith}
use native.Mathlib.Nat.{min-zero, suc-min-suc}
use lib.Seq.{take-nil}

take_min : (k : ℕ) (l : List ℕ) → take (min (length l) k) l ≡ take k l
take_min k [] = take-nil (min 0 k) ∙ sym (take-nil k)
take_min zero (x ∷ l) = rw min-zero
take_min (suc k) (x ∷ l) = rw suc-min-suc (ap (λ (t : List ℕ). x ∷ t) (take_min k l))

take-append : (k : ℕ) (a b : List ℕ) → take k (a ++ b) ≡ take k a ++ take (k - length a) b
take-append k [] b = let e : k - 0 ≡ k = omega arith in rw (e, take-nil k)
take-append zero (x ∷ a) b = let e : 0 - suc (length a) ≡ 0 = omega arith in rw e
take-append (suc k) (x ∷ a) b = let e : suc k - suc (length a) ≡ k - length a = omega arith in rw e (ap (λ (t : List ℕ). x ∷ t) (take-append k a b))

pub cut_parts : (k p n : ℕ) (a b : List ℕ) → p ≡ min (length a) k → n ≡ min (length b) (k - p) → take p a ++ take n b ≡ take k (a ++ b)
cut_parts k p n a b hp hn =
    let rest : k - p ≡ k - length a = omega arith in
    ap₂ (λ (s t : List ℕ). s ++ t) (ap (λ (i : ℕ). take i a) hp ∙ take_min k a)
    (ap (λ (i : ℕ). take i b) (hn ∙ ap (min (length b)) rest) ∙ take_min (k - length a) b)
    ∙ sym (take-append k a b)
