-- Lists that a loop goes through: a test of every element, and what is written of each. Assumes nothing.
use mathlib.Core.Path.{◌≡◌, refl, sym, ap, ◌∙◌}
use mathlib.Core.Bool.{Bool, true, false, ◌&&◌}
use mathlib.Core.List.{List, [], ◌∷◌, ◌++◌, map, flatten, append-nil, append_assoc}
use Prim.Native.Nat.{ℕ, suc, ◌+◌, ◌<◌, ◌≤◌}
use lib.ListN.{length, get_or, drop, drop_of_length-le}
use lib.Seq.{drop-cons}
use Rattle.buffers.specs.Bytes.{every, put_at}
use Rattle.buffers.proofs.Lists.{put_next}
use Rattle.std.specs.List.{list_all}

-- an iterator's test of all elements
pub all_every : {A : Type 0} (t : A → Bool) (l : List A) → list_all t l ≡ every t l
all_every t [] = refl
all_every t (x ∷ l) = ap (λ (b : Bool). t x && b) (all_every t l)

module _ {A : Type 0} (t : A → Bool) (l : List A) (d : A) (i : ℕ) (h : i < length l) where
  pub every_here : t (get_or l i d) ≡ false → false ≡ every t (drop i l)
  every_here e = rw (drop-cons l i d h, e)

  pub every-next : t (get_or l i d) ≡ true → every t (drop (suc i) l) ≡ every t (drop i l)
  every-next e = rw (drop-cons l i d h, e)

pub every-end : {A : Type 0} (t : A → Bool) (l : List A) (i : ℕ) → length l ≤ i → true ≡ every t (drop i l)
every-end t l i h = rw (drop_of_length-le l h)

module _ {A : Type 0} (f : A → List ℕ) where
  pub flatten-snoc : (l : List A) (x : A) → flatten (map f (l ++ (x ∷ []))) ≡ flatten (map f l) ++ f x
  unfolding flatten
  flatten-snoc [] x = append-nil (f x)
  flatten-snoc (y ∷ l) x = ap (λ (m : List ℕ). f y ++ m) (flatten-snoc l x) ∙ sym (append_assoc (f y) (flatten (map f l)) (f x))

-- a buffer with a front f and the rest of d, and s put behind f
pub put-more : (d f s : List ℕ) (at k : ℕ) → length f ≡ at → at + length s ≡ k → put_at (f ++ drop at d) at s ≡ (f ++ s) ++ drop k d
put-more d f s at k h e = put_next d f s at h ∙ ap (λ (n : ℕ). (f ++ s) ++ drop n d) e
