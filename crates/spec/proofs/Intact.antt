-- An area without damage, and what it holds for a name, slot by slot.
use mathlib.Core.Path.{◌≡◌, refl, sym, ap, ◌∙◌}
use mathlib.Core.Logic.{◌⊎◌, inl, inr, ◌↔◌}
use mathlib.Core.Bool.{Bool, true, false, ◌||◌}
use mathlib.Core.List.{List, [], ◌∷◌}
use mathlib.Core.Option.{Option, none, some, some-injective}
use Prim.Native.Nat.{ℕ, zero, suc, ◌<◌}
use native.Mathlib.Nat.{not-suc-le-zero, le_of_suc-le-suc}
use native.Mathlib.Omega.{arith}
use lib.ListN.{length, get_or}
use Rattle.buffers.specs.Bytes.{any}
use Rattle.spec.specs.Name.{Name}
use Rattle.spec.specs.Slots.{find_first, in_order, sorted_by}
use Rattle.spec.specs.Area.{Format, slot_free, slot_valid, slot_holder, holds, slot_count, slots, intact, slot_of, lookup}
use Rattle.spec.specs.Shapes.{slot_at, NoDamage, Once, SlotHeld, LookupShape}
use Rattle.buffers.proofs.Split.{split, split_o, clash, clash_o}
use Rattle.spec.proofs.Slots.{held, held_at, at_held, find-any, Absent, Distinct}
use Rattle.spec.proofs.Sorted.{sorted-cons}
use Rattle.spec.proofs.Chunks.{slots_length, slot-at}
use Rattle.spec.proofs.First.{any_at, every-index, index-every}
use Rattle.spec.proofs.Area.{intact-valid, intact-sorted, intact-distinct, free-holder, used-holder}

module _ {S : Type 0} (d : S) where
  -- no element before the index passes
  abbrev Lowest : (S → Bool) → List S → ℕ → Type 0
  Lowest t ss i = (j : ℕ) → j < i → t (get_or ss j d) ≡ false

  -- what is found, and at which index
  abbrev Found : (S → Bool) → List S → S → Type 0
  Found t ss s = (i : ℕ) × (i < length ss) × (get_or ss i d ≡ s) × (t s ≡ true) × Lowest t ss i

  find-index : (t : S → Bool) (ss : List S) (s : S) → find_first t ss ≡ some s → Found t ss s
  find-index t [] s h = clash_o none refl h
  find-index t (x ∷ ss) s h = split (t x)
      (λ e. let z = some-injective x s (rw e at h) in (0, omega arith, z, rw z at e, λ j l. absurd (not-suc-le-zero l)))
      (λ e. let f = find-index t ss s (rw e at h) in (suc f.0, let k = f.1 in omega arith, f.2, f.3, below e f))
    where
      below : t x ≡ false → (f : Found t ss s) → Lowest t (x ∷ ss) (suc f.0)
      below e f zero l = e
      below e f (suc j) l = f.4 j (le_of_suc-le-suc l)

  index-find : (t : S → Bool) (ss : List S) (i : ℕ) → i < length ss → t (get_or ss i d) ≡ true → Lowest t ss i → find_first t ss ≡ some (get_or ss i d)
  index-find t [] i k e f = absurd (not-suc-le-zero k)
  index-find t (x ∷ ss) zero k e f = rw e
  index-find t (x ∷ ss) (suc i) k e f = rw (f 0 (omega arith)) (index-find t ss i (le_of_suc-le-suc k) e (λ j l. f (suc j) (omega arith)))

  module _ (at : S → Option Name) where
    -- a name that is not found is held nowhere
    not_at : (n : Name) (ss : List S) (j : ℕ) → Absent at n ss → j < length ss → at (get_or ss j d) ≡ some n → ⊥
    not_at n ss j h k e = clash (any (held at n) ss) (any_at (held at n) ss d j k (at_held at n (get_or ss j d) e)) (sym (find-any (held at n) ss) ∙ rw h)

    -- no name is at two indices
    Alone : List S → Type 0
    Alone ss = (i j : ℕ) (n : Name) → i < length ss → j < length ss → at (get_or ss i d) ≡ some n → at (get_or ss j d) ≡ some n → i ≡ j

    once-of : (ss : List S) → Distinct at ss → Alone ss
    unfolding Alone
    once-of [] h i j n k l e f = absurd (not-suc-le-zero k)
    once-of (s ∷ ss) h zero zero n k l e f = refl
    once-of (s ∷ ss) h zero (suc j) n k l e f = absurd (not_at n ss j (h.0 n (at_held at n s e)) (le_of_suc-le-suc l) f)
    once-of (s ∷ ss) h (suc i) zero n k l e f = absurd (not_at n ss i (h.0 n (at_held at n s f)) (le_of_suc-le-suc k) e)
    once-of (s ∷ ss) h (suc i) (suc j) n k l e f = ap suc (once-of ss h.1 i j n (le_of_suc-le-suc k) (le_of_suc-le-suc l) e f)

    -- in order, by index
    Ordered : List S → Type 0
    Ordered ss = (i j : ℕ) → i < j → j < length ss → in_order (at (get_or ss i d)) (at (get_or ss j d)) ≡ true

    ordered_of : (ss : List S) → sorted_by at ss ≡ true → Ordered ss
    unfolding Ordered
    ordered_of [] h i j l k = absurd (not-suc-le-zero k)
    ordered_of (s ∷ ss) h i zero l k = absurd (not-suc-le-zero l)
    ordered_of (s ∷ ss) h zero (suc j) l k = every-index (λ y. in_order (at s) (at y)) ss d (sorted-cons at s ss h).0 j (le_of_suc-le-suc k)
    ordered_of (s ∷ ss) h (suc i) (suc j) l k = ordered_of ss (sorted-cons at s ss h).1 i j (le_of_suc-le-suc l) (le_of_suc-le-suc k)

    of-ordered : (ss : List S) → Ordered ss → sorted_by at ss ≡ true
    unfolding Ordered
    of-ordered [] h = refl
    of-ordered (s ∷ ss) h =
        let first = index-every (λ y. in_order (at s) (at y)) ss d (λ j k. h 0 (suc j) (omega arith) (omega arith)) in
        rw (first, of-ordered ss (λ i j l k. h (suc i) (suc j) (omega arith) (omega arith)))

module _ (F : Format) (area : List ℕ) where
  at-is : (i : ℕ) → i < slot_count F area → get_or (slots F area) i [] ≡ slot_at F area i
  at-is = slot-at F area

  -- an index of the list of slots is one of the area, and the other way round
  listed : {i : ℕ} → i < slot_count F area → i < length (slots F area)
  listed k = rw (slots_length F area) k

  in_area : {i : ℕ} → i < length (slots F area) → i < slot_count F area
  in_area k = rw (slots_length F area) at k

  either-of : (a b : Bool) → (a || b) ≡ true → (a ≡ true) ⊎ (b ≡ true)
  either-of true b h = inl refl
  either-of false b h = inr h

  of_either : (a b : Bool) → (a ≡ true) ⊎ (b ≡ true) → (a || b) ≡ true
  of_either a b (inl h) = rw h
  of_either true b (inr h) = refl
  of_either false b (inr h) = h

  no-damage : intact F area ≡ true → NoDamage F area
  unfolding slot_valid Ordered slot_holder
  no-damage h =
      let valid = every-index (slot_valid F) (slots F area) [] (intact-valid F area h) in
      let order = ordered_of [] (slot_holder F) (slots F area) (intact-sorted F area h) in
      let at : (i j : ℕ) → i < j → j < slot_count F area → in_order (slot_holder F (slot_at F area i)) (slot_holder F (slot_at F area j)) ≡ true = λ i j l k.
      rw (← (at-is i (omega arith)), ← (at-is j k)) (order i j l (listed k)) in
      record {
        shaped = λ i k. either-of _ _ (rw (at-is i k) at (valid i (listed k)));
        front = λ i j l k e. split (slot_free (slot_at F area j)) (λ f. f) (λ f. clash false (rw (e, f) at (at i j l k)) refl);
        ordered = λ i j n m l k e f. rw (e, f) at (at i j l k);
      }

  undamaged : NoDamage F area → intact F area ≡ true
  unfolding intact slot_valid Ordered
  undamaged h =
      let valid = index-every (slot_valid F) (slots F area) [] (λ i k. rw (at-is i (in_area k)) (of_either _ _ (h.shaped i (in_area k)))) in
      let sorted = of-ordered [] (slot_holder F) (slots F area)
      (λ i j l k. rw (at-is i (omega (arith, in_area k)), at-is j (in_area k)) (in_order_lem i j l (in_area k))) in
      rw (valid, sorted)
    where
      in_order_lem : (i j : ℕ) → i < j → j < slot_count F area → in_order (slot_holder F (slot_at F area i)) (slot_holder F (slot_at F area j)) ≡ true
      in_order_lem i j l k = split_o (slot_holder F (slot_at F area j))
          (λ f. rw f)
          (λ m f. split_o (slot_holder F (slot_at F area i))
          (λ e. split (slot_free (slot_at F area i))
          (λ z. clash_o (slot_holder F (slot_at F area j)) (free-holder F (slot_at F area j) (h.front i j l k z)) f)
          (λ z. absurd (used-holder F (slot_at F area i) z e)))
          (λ n e. rw (e, f) (h.ordered i j n m l k e f)))

  pub no-name-twice : intact F area ≡ true → Once F area
  unfolding Alone
  no-name-twice h i j n k l e f =
      once-of [] (slot_holder F) (slots F area) (intact-distinct F area h) i j n (listed k) (listed l) (rw (at-is i k) e) (rw (at-is j l) f)

  -- ---- the slot of a name

  held_of : (name slot : List ℕ) → slot_of F area name ≡ some slot → SlotHeld F area name slot
  held_of name slot h =
      let f = find-index [] (holds F name) (slots F area) slot h in
      let k = in_area f.1 in
      let e : slot ≡ slot_at F area f.0 = sym f.2 ∙ at-is f.0 k in
      record {
        i = f.0;
        in_range = k;
        held = rw e at (held_at (slot_holder F) name slot f.3);
        lowest = λ j l z. clash _ (at_held (slot_holder F) name (slot_at F area j) z) (rw (at-is j (omega arith)) at (f.4 j l));
        slot_is = sym e;
      }

  slot-of : (name slot : List ℕ) → SlotHeld F area name slot → slot_of F area name ≡ some slot
  slot-of name slot h =
      let k = h.in_range in
      let e = at-is h.i k in
      let passes : holds F name (get_or (slots F area) h.i []) ≡ true = rw e (at_held (slot_holder F) name _ h.held) in
      let fails : (j : ℕ) → j < h.i → holds F name (slot_at F area j) ≡ false = λ j l.
      split (holds F name (slot_at F area j)) (λ z. absurd (h.lowest j l (held_at (slot_holder F) name _ z))) (λ z. z) in
      index-find [] (holds F name) (slots F area) h.i (listed k) passes (λ j l. rw (at-is j (omega arith)) (fails j l))
      ∙ rw e (ap some h.slot_is)

pub lookup-shape : (F : Format) (area name : List ℕ) → LookupShape F area name
unfolding lookup
lookup-shape F area name = record {
  slot = λ slot. (held_of F area name slot, slot-of F area name slot);
  payload = λ slot h. rw h;
  none_there = λ h. rw h;
}

pub intact-shape : (F : Format) (area : List ℕ) → (intact F area ≡ true) ↔ NoDamage F area
intact-shape F area = (no-damage F area, undamaged F area)
