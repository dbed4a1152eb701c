-- Where an insert and an erase leave what they find, in bytes.
use mathlib.Core.Path.{◌≡◌, sym, ap, ◌∙◌}
use mathlib.Core.Bool.{true}
use mathlib.Core.List.{List, [], ◌∷◌, ◌++◌, append_assoc, append-nil}
use mathlib.Core.Option.{none, some}
use Prim.Native.Nat.{ℕ, suc, ◌+◌, ◌*◌, ◌<◌}
use native.Mathlib.Nat.{suc-mul}
use native.Mathlib.Omega.{arith}
use lib.ListN.{length, take, drop, get_or}
use Rattle.buffers.specs.Bytes.{zeros}
use Rattle.spec.specs.Slots.{join_slots, first_index, drop_last}
use Rattle.spec.specs.Area.{Format, slot_free, slot_holder, make_slot, slot_count, slots, sized, lookup, has_space, insert_slot, erase_slot}
use Rattle.spec.specs.Demand2.{Stored, Cleared}
use Rattle.buffers.proofs.Split.{split_o}
use Rattle.spec.proofs.Slots.{held, held_at}
use Rattle.spec.proofs.Sorted.{close-absent}
use Rattle.spec.proofs.Chunks.{wide, slots_length, slots-wide, slots-joined, join-set}
use Rattle.spec.proofs.Slot.{FormatLaws}
use Rattle.spec.proofs.First.{first_below}
use Rattle.spec.proofs.Area.{Sound, sized-length, intact-sorted, blank-is, free-holder, used-holder, find-of-none, find-of-some, Good, HasRoom}
use Rattle.spec.proofs.Area.{slot-insert, slot-insert-other, slot-erase, slot-erase-other}
use Rattle.spec.proofs.SortedIndex.{place_of, find-passes, place-new, place-known, close-known, known_at, smaller-at, greater-at, room-place, last-free}
use Rattle.spec.proofs.SortedIndex.{join-append, join-take, join-drop}

module _ (F : Format) (area n : List ℕ) (s : Sound F area) where
  abbrev w : ℕ
  w = F.slot_size

  abbrev ss : List (List ℕ)
  ss = slots F area

  -- where the name stands, or would stand
  abbrev i : ℕ
  i = place_of (slot_holder F) n ss

  size : length area ≡ slot_count F area * w
  size = sized-length F area s.size

  front_bytes : i < slot_count F area → join_slots (take i ss) ≡ take (i * w) area
  front_bytes k = join-take w (slot_count F area) i area size (omega arith)

  in_area : i < length ss → i < slot_count F area
  in_area k = rw (slots_length F area) at k

  -- a known name
  module _ (p : List ℕ) (h : lookup F area n ≡ some p) where
    there : (i < length ss) × (slot_holder F (get_or ss i []) ≡ some n)
    there =
        let f = find-of-some F area n p h in
        let k = known_at (slot_holder F) n [] f.0 ss (intact-sorted F area s.good) f.1 in
        (k.0, rw k.1 (held_at (slot_holder F) n f.0 (find-passes (held (slot_holder F) n) ss f.0 f.1)))

    kept-bytes : (q : List ℕ) → insert_slot F area n q ≡ take (i * w) area ++ (make_slot F n q ++ drop (i * w + w) area)
    unfolding insert_slot
    kept-bytes q =
        let f = find-of-some F area n p h in
        ap join_slots (place-known (slot_holder F) n (make_slot F n q) f.0 ss (intact-sorted F area s.good) f.1)
        ∙ join-set w (slot_count F area) i area (make_slot F n q) size (in_area there.0)

    closed-bytes : erase_slot F area n ≡ take (i * w) area ++ (drop (i * w + w) area ++ zeros w)
    unfolding erase_slot
    closed-bytes =
        let f = find-of-some F area n p h in
        let k = in_area there.0 in
        let z : suc i * w ≡ i * w + w = suc-mul i w in
        ap join_slots (close-known (slot_holder F) n (zeros w) f.0 ss (intact-sorted F area s.good) f.1)
        ∙ join-append (take i ss) (drop (suc i) ss ++ zeros w ∷ [])
        ∙ rw (front_bytes k, join-append (drop (suc i) ss) (zeros w ∷ []), append-nil (zeros w), join-drop w (slot_count F area) (suc i) area size k, z)

  -- a new one
  module _ (h : lookup F area n ≡ none) (r : has_space F area ≡ true) where
    free : first_index slot_free ss < length ss
    unfolding has_space
    free = first_below slot_free ss r

    low : i < length ss
    low = let k = room-place (slot_holder F) slot_free (free-holder F) (used-holder F) n ss in omega (arith, free)

    moved-bytes : (q : List ℕ) → insert_slot F area n q ++ zeros w ≡ take (i * w) area ++ (make_slot F n q ++ drop (i * w) area)
    unfolding insert_slot
    moved-bytes q =
        let k = in_area low in
        let m = make_slot F n q in
        let last = last-free (slot_holder F) slot_free (free-holder F) (used-holder F) (wide w) (zeros w) (blank-is F) ss
        (slots-wide F area size) (intact-sorted F area s.good) i (room-place (slot_holder F) slot_free (free-holder F) (used-holder F) n ss) free in
        let tail : join_slots (drop_last (drop i ss)) ++ zeros w ≡ drop (i * w) area =
        ap (λ (l : List ℕ). join_slots (drop_last (drop i ss)) ++ l) (sym (append-nil (zeros w))) ∙ sym (join-append (drop_last (drop i ss)) (zeros w ∷ []))
        ∙ ap join_slots last ∙ join-drop w (slot_count F area) i area size (omega arith) in
        ap (λ (l : List (List ℕ)). join_slots l ++ zeros w) (place-new (slot_holder F) n m ss (find-of-none F area n h) low)
        ∙ ap (λ (l : List ℕ). l ++ zeros w) (join-append (take i ss) (m ∷ drop_last (drop i ss)))
        ∙ append_assoc (join_slots (take i ss)) (m ++ join_slots (drop_last (drop i ss))) (zeros w)
        ∙ rw (front_bytes k, append_assoc m (join_slots (drop_last (drop i ss))) (zeros w), tail)

  in_range : HasRoom F area n → i < slot_count F area
  in_range r = split_o (lookup F area n) (λ e. in_area (low e (r e))) (λ p e. in_area (there p e).0)

module _ (F : Format) (L : FormatLaws F) (area n : List ℕ) (s : Sound F area) where
  pub stored_in : (p : List ℕ) → Good F n p → HasRoom F area n → Stored F area n (make_slot F n p) (insert_slot F area n p)
  stored_in p g r = (
    record { own = slot-insert F L area n p s g r; others = slot-insert-other F L area n p s g r },
    record {
      i = i F area n s;
      in_range = in_range F area n s r;
      smaller = smaller-at (slot_holder F) n [] (slots F area);
      known = λ q e. ((there F area n s q e).1, kept-bytes F area n s q e p);
      new = λ e. (
        (λ other f. rw f at (greater-at (slot_holder F) n [] (slots F area) (find-of-none F area n e) (low F area n s e (r e)))),
        moved-bytes F area n s e (r e) p,
      );
    },
  )

  pub erased : (p : List ℕ) → lookup F area n ≡ some p → Cleared F area n (erase_slot F area n)
  erased p h = (
    record { own = slot-erase F L area n s; others = slot-erase-other F L area n s },
    record {
      i = i F area n s;
      in_range = in_area F area n s (there F area n s p h).0;
      held = (there F area n s p h).1;
      bytes = closed-bytes F area n s p h;
    },
  )

-- where the name is not held, there is nothing to close up
pub not-erased : (F : Format) (area n : List ℕ) → sized F area ≡ true → lookup F area n ≡ none → erase_slot F area n ≡ area
unfolding erase_slot
not-erased F area n z h =
    ap join_slots (close-absent (slot_holder F) n (zeros F.slot_size) (slots F area) (find-of-none F area n h)) ∙ slots-joined F area (sized-length F area z)
