-- Slots in order: tested from neighbour to neighbour, and found by binary search.
use mathlib.Core.Path.{◌≡◌, refl, sym, ap, ◌∙◌}
use mathlib.Core.Bool.{Bool, true, false, ◌&&◌, and_assoc, and-false}
use mathlib.Core.List.{List, [], ◌∷◌, ◌++◌}
use mathlib.Core.Option.{Option}
use Prim.Native.Nat.{ℕ, suc, ◌+◌, ◌-◌, ◌*◌, ◌≤◌, ◌<◌}
use native.Mathlib.Omega.{arith}
use borrow.Author.Tests.{ltb-true, ltb-false, lt-ltb, le-ltb}
use lib.Dec.{eqb, ltb}
use lib.ListN.{length, get_or, take, drop, drop_of_length-le}
use lib.Seq.{drop-cons, get_or-take, get_or-drop}
use Rattle.buffers.specs.Bytes.{every, all_zero}
use Rattle.spec.specs.Name.{Name}
use Rattle.spec.specs.Slots.{join_slots, first_index, in_order, sorted_by}
use Rattle.spec.specs.Area.{Format, state_byte, slot_free, slot_used, slot_valid, slot_holder, slot_count, slots, sized, intact, has_space}
use Rattle.buffers.proofs.Split.{split, clash}
use Rattle.buffers.proofs.Lists.{rest_part}
use Rattle.spec.proofs.Chunks.{slots_length, slot-at}
use Rattle.spec.proofs.First.{any-first, first-lowest}
use Rattle.spec.proofs.Area.{sized-parts, sized-length, intact-sorted, free-holder, used-holder}
use Rattle.spec.proofs.Sorted.{front, front-trans, free-behind}
use Rattle.spec.proofs.SortedIndex.{not_before, fails-before, place-behind, join-drop}
use Rattle.slots.specs.Search.{FailsBefore}
use Rattle.slots.specs.Found.{slot_at, may_follow}
use Rattle.slots.proofs.SlotLaws.{valid-blank, taken-holder}

every_append : {A : Type 0} (t : A → Bool) (a b : List A) → every t (a ++ b) ≡ (every t a && every t b)
every_append t [] b = refl
every_append t (x ∷ a) b = rw (every_append t a b) (sym (and_assoc (t x) (every t a) (every t b)))

-- ---- neighbours

module _ {S : Type 0} (at : S → Option Name) (P : S → Bool) where
  abbrev pub chain : S → List S → Bool
  chain x [] = true
  chain x (y ∷ ss) = (P y && in_order (at x) (at y)) && chain y ss

  -- in order from neighbour to neighbour is in order
  chain-sorted : (x : S) (ss : List S) → (every P ss && (front at (at x) ss && sorted_by at ss)) ≡ chain x ss
  chain-sorted x [] = refl
  chain-sorted x (y ∷ ss) = split (P y)
      (λ p. split (in_order (at x) (at y))
      (λ o. rw (p, o) (sym (between o) ∙ chain-sorted y ss))
      (λ o. rw (p, o) (and-false (every P ss))))
      (λ p. rw p)
    where
      between : in_order (at x) (at y) ≡ true
          → (every P ss && (front at (at y) ss && sorted_by at ss)) ≡ (every P ss && (front at (at x) ss && (front at (at y) ss && sorted_by at ss)))
      between o = split (front at (at y) ss)
          (λ f. rw (f, front-trans at (at x) (at y) ss o f))
          (λ f. rw (f, and-false (front at (at x) ss)))

  all-chain : (x : S) (ss : List S) → (every P (x ∷ ss) && sorted_by at (x ∷ ss)) ≡ (P x && chain x ss)
  all-chain x ss =
      and_assoc (P x) (every P ss) (front at (at x) ss && sorted_by at ss) ∙ ap (λ (b : Bool). P x && b) (chain-sorted x ss)

-- behind a free slot all are free
module _ (F : Format) where
  free-chain : (x : List ℕ) (ss : List (List ℕ)) → slot_free x ≡ true → chain (slot_holder F) (slot_valid F) x ss ≡ every slot_free ss
  unfolding slot_valid
  free-chain x [] f = refl
  free-chain x (y ∷ ss) f = split (slot_free y)
      (λ e. rw (e, free-holder F y e) (free-chain y ss e))
      (λ e. rw (e, free-holder F x f, taken-holder F y e, and-false (slot_used F y)))

  -- a slot with no state is free, or not well shaped
  blank-chain : (x y : List ℕ) (ss : List (List ℕ)) → state_byte y ≡ 0 → chain (slot_holder F) (slot_valid F) x (y ∷ ss) ≡ every slot_free (y ∷ ss)
  blank-chain x y ss b = split (slot_free y)
      (λ e. rw (valid-blank F y b, e, free-holder F y e) (free-chain y ss e))
      (λ e. rw (valid-blank F y b, e))

all-free : (ss : List (List ℕ)) → every slot_free ss ≡ all_zero (join_slots ss)
unfolding slot_free
all-free [] = refl
all-free (s ∷ ss) = rw (all-free ss) (sym (every_append (λ b. eqb b 0) s (join_slots ss)))

module _ (F : Format) (l : List ℕ) where
  -- the slots behind slot i, up to the end
  abbrev pub chained : ℕ → Bool
  chained i = chain (slot_holder F) (slot_valid F) (slot_at F l i) (drop (suc i) (slots F l))

  pub intact-chain : sized F l ≡ true → intact F l ≡ (slot_valid F (slot_at F l 0) && chained 0)
  unfolding intact
  intact-chain s =
      let h = sized-parts F l s in
      let some = h.1 in
      let e : slots F l ≡ slot_at F l 0 ∷ drop 1 (slots F l) = drop-cons (slots F l) 0 [] (rw (slots_length F l) (omega arith)) in
      ap (λ (ss : List (List ℕ)). every (slot_valid F) ss && sorted_by (slot_holder F) ss) e
      ∙ all-chain (slot_holder F) (slot_valid F) (slot_at F l 0) (drop 1 (slots F l))

  -- one turn, at slot i: what the code has found of it
  module _ (i : ℕ) (z : 0 < i) (h : i < slot_count F l) (r : Bool) (e : r ≡ may_follow F (slot_at F l (i - 1)) (slot_at F l i)) where
    pub chain-turn : chained (i - 1) ≡ (r && chained i)
    chain-turn =
        let n : suc (i - 1) ≡ i = omega arith in
        rw (e, n, drop-cons (slots F l) i [] (rw (slots_length F l) h))

  -- the same where the slot has no state: what is left, as the code has it, is zero
  module _ (s : sized F l ≡ true) (i : ℕ) (z : 0 < i) (h : i < slot_count F l) (w : ℕ) (e : w ≡ F.slot_size) (p : 0 < w) where
    state-at : state_byte (slot_at F l i) ≡ get_or l (i * w) 0
    state-at =
        let o : i * w + 0 ≡ i * w = omega arith in
        rw (slot-at F l i h, ← e, get_or-take w (drop (i * w) l) 0 0 p, get_or-drop (i * w) l 0 0, o)

    pub chain-blank : get_or l (i * w) 0 ≡ 0 → chained (i - 1) ≡ all_zero (take (length l - i * w) (drop (i * w) l))
    chain-blank b =
        let left = drop-cons (slots F l) i [] (rw (slots_length F l) h) in
        let joined : join_slots (drop i (slots F l)) ≡ drop (i * w) l = rw e (join-drop F.slot_size (slot_count F l) i l (sized-length F l s) (omega arith)) in
        chain-turn i z h (may_follow F (slot_at F l (i - 1)) (slot_at F l i)) refl
        ∙ blank-chain F (slot_at F l (i - 1)) (slot_at F l i) (drop (suc i) (slots F l)) (state-at ∙ b)
        ∙ ap (every slot_free) (sym left)
        ∙ all-free (drop i (slots F l))
        ∙ rw (rest_part l (i * w), joined)

  pub chain-end : (i : ℕ) → slot_count F l ≤ suc i → chained i ≡ true
  chain-end i h = rw (drop_of_length-le (slots F l) {i = suc i} (rw (slots_length F l) h))

-- ---- halves

pub first-most : {S : Type 0} (t : S → Bool) (ss : List S) → first_index t ss ≤ length ss
first-most t [] = omega arith
first-most t (s ∷ ss) = split (t s) (λ e. rw e (omega arith)) (λ e. let r = first-most t ss in rw e (omega arith))

passes-after : {S : Type 0} (t : S → Bool) (ss : List S) (d : S) (j : ℕ) → t (get_or ss j d) ≡ true → first_index t ss ≤ j
passes-after t ss d j h = split (ltb j (first_index t ss))
    (λ e. clash (t (get_or ss j d)) h (first-lowest t ss d j (ltb-true j (first_index t ss) e)))
    (λ e. ltb-false j (first_index t ss) e)

module _ (F : Format) (l : List ℕ) (t : List ℕ → Bool) where
  pub first-at-most : first_index t (slots F l) ≤ slot_count F l
  first-at-most = rw (slots_length F l) at (first-most t (slots F l))

  -- a slot that passes is not before the first that does
  pub upper-half : (i : ℕ) (x : List ℕ) → x ≡ slot_at F l i → t x ≡ true → first_index t (slots F l) ≤ i
  upper-half i x e h = passes-after t (slots F l) [] i (ap t (sym e) ∙ h)

module _ (F : Format) (l : List ℕ) (g : intact F l ≡ true) where
  -- and one that fails is
  pub free-fails : FailsBefore slot_free (slots F l)
  free-fails i h e =
      fails-before (slot_holder F) slot_free (free-behind (slot_holder F) slot_free (free-holder F) (used-holder F)) (slots F l) [] i (intact-sorted F l g) h e

  pub place-fails : (n : Name) → FailsBefore (not_before (slot_holder F) n) (slots F l)
  place-fails n i h e = fails-before (slot_holder F) (not_before (slot_holder F) n) (place-behind (slot_holder F) n) (slots F l) [] i (intact-sorted F l g) h e

-- ---- whether one is free

pub space_first : (F : Format) (l : List ℕ) → has_space F l ≡ ltb (first_index slot_free (slots F l)) (slot_count F l)
unfolding has_space
space_first F l = any-first slot_free (slots F l) ∙ ap (ltb (first_index slot_free (slots F l))) (slots_length F l)

-- the last slot tells
module _ (F : Format) (l : List ℕ) (g : intact F l ≡ true) (i : ℕ) (h : i < slot_count F l) (last : slot_count F l ≤ suc i)
    (x : List ℕ) (e : x ≡ slot_at F l i) where
  pub last-free : slot_free x ≡ true → has_space F l ≡ true
  last-free r = space_first F l ∙ lt-ltb (first_index slot_free (slots F l)) (slot_count F l) (omega (arith, upper-half F l slot_free i x e r))

  pub last-used : slot_free x ≡ false → has_space F l ≡ false
  last-used r = space_first F l ∙ le-ltb (first_index slot_free (slots F l)) (slot_count F l) (omega (arith, free-fails F l g i (rw (slots_length F l) h) (ap slot_free (sym e) ∙ r)))
