-- One turn of a loop over a list: what the element at the index decides, from there on.
use mathlib.Core.Path.{◌≡◌, ap, ◌∙◌}
use mathlib.Core.Bool.{Bool, true, false, cond}
use mathlib.Core.List.{List}
use Prim.Native.Nat.{ℕ, suc, ◌+◌, ◌≤◌, ◌<◌}
use native.Mathlib.Numerals.{add-one}
use native.Mathlib.Omega.{arith}
use lib.ListN.{length, get_or, drop, drop_of_length-le}
use lib.Seq.{drop-cons}
use Rattle.spec.specs.Slots.{first_index}

module _ {A : Type 0} (d : A) (t : A → Bool) (l : List A) (i : ℕ) (h : i < length l) where
  first-turn : first_index t (drop i l) ≡ cond (t (get_or l i d)) 0 (suc (first_index t (drop (i + 1) l)))
  first-turn = rw (add-one i, drop-cons l i d h)

  -- A search: what is found from i on is at n.
  module _ (n : ℕ) (inv : i + first_index t (drop i l) ≡ n) where
    pub first-here : t (get_or l i d) ≡ true → i ≡ n
    first-here e = let z : first_index t (drop i l) ≡ 0 = first-turn ∙ rw e in omega arith

    pub first-later : t (get_or l i d) ≡ false → i + 1 + first_index t (drop (i + 1) l) ≡ n
    first-later e = let z : first_index t (drop i l) ≡ suc (first_index t (drop (i + 1) l)) = first-turn ∙ rw e in omega arith

module _ {A : Type 0} (t : A → Bool) (l : List A) (i : ℕ) where
  pub first_past : (n : ℕ) → i + first_index t (drop i l) ≡ n → length l ≤ i → i ≡ n
  first_past n inv h = let z : first_index t (drop i l) ≡ 0 = ap (first_index t) (drop_of_length-le l {i = i} h) in omega arith
