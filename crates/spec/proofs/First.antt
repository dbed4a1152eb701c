-- The definitions on slots, as a loop over the flat buffer has them: an index, and the bytes from there.
use mathlib.Core.Path.{◌≡◌, refl, sym, ◌∙◌}
use mathlib.Core.Bool.{Bool, true, false}
use mathlib.Core.List.{List, [], ◌∷◌}
use Prim.Native.Nat.{ℕ, zero, suc, ◌<◌}
use native.Mathlib.Nat.{not-suc-le-zero, le_of_suc-le-suc}
use native.Mathlib.Omega.{arith}
use borrow.Author.Tests.{ltb-true}
use lib.Dec.{ltb, leb-suc-suc, leb-zero}
use lib.ListN.{length, get_or, get_elem?}
use Rattle.buffers.specs.Bytes.{any, every}
use Rattle.spec.specs.Slots.{first_index, find_first}
use Rattle.spec.specs.Area.{Format, slot_count, slots}
use Rattle.buffers.proofs.Split.{split, clash, both}
use Rattle.spec.proofs.Chunks.{slots_length}

module _ {S : Type 0} where
  pub any-first : (t : S → Bool) (ss : List S) → any t ss ≡ ltb (first_index t ss) (length ss)
  any-first t [] = refl
  any-first t (s ∷ ss) = split (t s) (λ e. rw (e, leb-suc-suc 0 (length ss), leb-zero)) (λ e. rw (e, leb-suc-suc) (any-first t ss))

  pub first_below : (t : S → Bool) (ss : List S) → any t ss ≡ true → first_index t ss < length ss
  first_below t ss h = ltb-true (first_index t ss) (length ss) (sym (any-first t ss) ∙ h)

  pub find_first_lem : (t : S → Bool) (ss : List S) → find_first t ss ≡ get_elem? ss (first_index t ss)
  find_first_lem t [] = refl
  find_first_lem t (s ∷ ss) = split (t s) (λ e. simp e) (λ e. simp (e, find_first_lem t ss))

  -- the element at that index passes, and those before it do not
  pub first_passes : (t : S → Bool) (ss : List S) (d : S) → any t ss ≡ true → t (get_or ss (first_index t ss) d) ≡ true
  first_passes t [] d h = clash false h refl
  first_passes t (s ∷ ss) d h = split (t s) (λ e. rw e e) (λ e. rw e (first_passes t ss d (rw e at h)))

  pub any_at : (t : S → Bool) (ss : List S) (d : S) (i : ℕ) → i < length ss → t (get_or ss i d) ≡ true → any t ss ≡ true
  any_at t [] d i h e = absurd (not-suc-le-zero h)
  any_at t (s ∷ ss) d zero h e = rw e
  any_at t (s ∷ ss) d (suc i) h e = split (t s) (λ k. rw k) (λ k. rw k (any_at t ss d i (le_of_suc-le-suc h) e))

  pub first-lowest : (t : S → Bool) (ss : List S) (d : S) (j : ℕ) → j < first_index t ss → t (get_or ss j d) ≡ false
  first-lowest t [] d j h = absurd (not-suc-le-zero h)
  first-lowest t (s ∷ ss) d zero h = split (t s) (λ e. absurd (not-suc-le-zero (rw e at h))) (λ e. e)
  first-lowest t (s ∷ ss) d (suc j) h = split (t s) (λ e. absurd (not-suc-le-zero (rw e at h))) (λ e. first-lowest t ss d j (le_of_suc-le-suc (rw e at h)))

  -- a test of every element, by index
  pub every-index : (t : S → Bool) (ss : List S) (d : S) → every t ss ≡ true → (i : ℕ) → i < length ss → t (get_or ss i d) ≡ true
  every-index t [] d h i k = absurd (not-suc-le-zero k)
  every-index t (s ∷ ss) d h zero k = (both (t s) (every t ss) h).0
  every-index t (s ∷ ss) d h (suc i) k = every-index t ss d (both (t s) (every t ss) h).1 i (le_of_suc-le-suc k)

  pub index-every : (t : S → Bool) (ss : List S) (d : S) → ((i : ℕ) → i < length ss → t (get_or ss i d) ≡ true) → every t ss ≡ true
  index-every t [] d h = refl
  index-every t (s ∷ ss) d h = rw (h 0 (omega arith), index-every t ss d (λ i k. h (suc i) (omega arith)))

-- a slot that passes is found within the area
pub first_in_range : (F : Format) (t : List ℕ → Bool) (l : List ℕ) → any t (slots F l) ≡ true → first_index t (slots F l) < slot_count F l
first_in_range F t l k = rw (slots_length F l) at (first_below t (slots F l) k)
