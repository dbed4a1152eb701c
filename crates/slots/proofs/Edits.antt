-- What is found for a name, and what an edit of an area is, by the index that a search finds.
use mathlib.Core.Path.{◌≡◌, refl, sym, ap, ◌∙◌}
use mathlib.Core.Bool.{true, false}
use mathlib.Core.List.{List, [], ◌∷◌, ◌++◌}
use mathlib.Core.Option.{Option, none, some}
use Prim.Native.Nat.{ℕ, suc, ◌-◌, ◌*◌, ◌≤◌, ◌<◌}
use native.Mathlib.Omega.{arith}
use borrow.Author.Tests.{ltb-true}
use lib.ListN.{length, take, drop}
use lib.Seq.{set_split}
use Rattle.buffers.specs.Bytes.{is_some, zeros, every}
use Rattle.buffers.proofs.Split.{split, clash, not_some}
use Rattle.spec.specs.Name.{Name}
use Rattle.spec.specs.Slots.{join_slots, first_index, find_first, map_option}
use Rattle.spec.specs.Area.{Format, slot_free, slot_payload, slot_holder, holds, make_slot, slot_count, slots, sized, intact, lookup}
use Rattle.spec.specs.Area.{has_space, insert_slot, erase_slot}
use Rattle.spec.specs.Decisions.{record_of}
use Rattle.spec.proofs.Chunks.{wide, slots_length, slots-joined, slots-wide}
use Rattle.spec.proofs.Area.{sized-length, intact-valid, intact-sorted, find-of-none, free-holder, used-holder, blank-is, lookup-slot}
use Rattle.spec.proofs.Sorted.{close-absent}
use Rattle.spec.proofs.SortedIndex.{find-passes, place-new, place-known, close-known, known_at, held_place, absent-place, room-place, last_goes, free-last}
use Rattle.slots.specs.declared.areas.Found.{Found}
use Rattle.slots.specs.Found.{slot_for, found_in, slot_at, CanRead, CanInsert, payload_at, insert_end, insert_at, erase_at}
use Rattle.slots.proofs.AreaLaws.{slot-well}
use Rattle.slots.proofs.SlotLaws.{holds-used, used-not-free}
use Rattle.slots.proofs.Order.{space_first, first-at-most, free-fails}
use Rattle.slots.proofs.Blocks.{moved_on, moved_back}

is-there : {A : Type 0} (o : Option A) → is_some o ≡ true → (a : A) × (o ≡ some a)
is-there none h = clash false h refl
is-there (some a) h = (a, refl)

module _ (F : Format) (l : List ℕ) where
  -- ---- the finding

  module _ (n : Name) where
    is-some-slot : is_some (lookup F l n) ≡ is_some (find_first (holds F n) (slots F l))
    is-some-slot = ap is_some (lookup-slot F l n) ∙ mapped (find_first (holds F n) (slots F l))
      where
        mapped : (o : Option (List ℕ)) → is_some (map_option (slot_payload F) o) ≡ is_some o
        mapped none = refl
        mapped (some s) = refl

    pub found-held : (found_in F l n).held ≡ is_some (lookup F l n)
    unfolding found_in
    found-held = refl

    -- the name's own slot
    own-slot : is_some (lookup F l n) ≡ true → (s : List ℕ) × (find_first (holds F n) (slots F l) ≡ some s)
    own-slot h = is-there (find_first (holds F n) (slots F l)) (sym is-some-slot ∙ h)

  module _ (g : intact F l ≡ true) (n : Name) where
    -- the finding, by the index that a search gives
    pub found-known : (i : ℕ) → i ≡ slot_for F l n → i < slot_count F l → (x : List ℕ) → x ≡ slot_at F l i
        → record { at = i; held = holds F n x } ≡ found_in F l n
    unfolding found_in
    found-known i e h x z =
        let there : holds F n x ≡ is_some (lookup F l n) =
        ap (holds F n) z ∙ rw e (held_place (slot_holder F) n [] (slots F l) (intact-sorted F l g) (rw (slots_length F l) (rw e at h)))
        ∙ sym (is-some-slot n) in
        rw (there, e)

    pub found-behind : (i : ℕ) → i ≡ slot_for F l n → slot_count F l ≤ i → record { at = i; held = false } ≡ found_in F l n
    unfolding found_in
    found-behind i e h =
        let gone = is-some-slot n ∙ absent-place (slot_holder F) n (slots F l) (intact-sorted F l g) (rw (slots_length F l) (rw e at h)) in
        rw (gone, e)

    known : is_some (lookup F l n) ≡ true → (slot_for F l n < slot_count F l) × (holds F n (slot_at F l (slot_for F l n)) ≡ true)
    known h =
        let s = own-slot n h in
        let k = known_at (slot_holder F) n [] s.0 (slots F l) (intact-sorted F l g) s.1 in
        (rw (slots_length F l) at k.0, rw k.1 (find-passes (holds F n) (slots F l) s.0 s.1))

    held-there : is_some (lookup F l n) ≡ true → slot_for F l n < slot_count F l
    held-there h = (known h).0

    pub found-readable : sized F l ≡ true → CanRead F l (found_in F l n)
    unfolding found_in
    found-readable s h =
        let k = known h in
        let i = slot_for F l n in
        (k.0, holds-used F (slot_at F l i) n (slot-well F l s i k.0 (slot_at F l i) refl (intact-valid F l g)) k.1)

    pub found-payload : payload_at F l (found_in F l n) ≡ record_of (lookup F l n)
    unfolding found_in
    found-payload = split (is_some (lookup F l n))
        (λ h.
        let s = own-slot n h in
        let k = known_at (slot_holder F) n [] s.0 (slots F l) (intact-sorted F l g) s.1 in
        rw (h, k.1, lookup-slot F l n, s.1))
        (λ h. rw (h, not_some (lookup F l n) h))

    -- where the name is held or a slot is free, the slot is there
    module _ (room : lookup F l n ≡ none → has_space F l ≡ true) where
      pub can-insert : CanInsert F l (found_in F l n)
      unfolding found_in
      can-insert = split (is_some (lookup F l n))
          (λ h. (held-there h, λ e. clash (is_some (lookup F l n)) h e))
          (λ h.
          let u = first_index slot_free (slots F l) in
          let low = room-place (slot_holder F) slot_free (free-holder F) (used-holder F) n (slots F l) in
          let there : u < slot_count F l = ltb-true u (slot_count F l) (sym (space_first F l) ∙ room (not_some (lookup F l n) h)) in
          (omega arith, λ e. (low, there)))

      slot-there : slot_for F l n < slot_count F l
      unfolding found_in
      slot-there = can-insert.0

      -- ---- edits

      pub insert-found : (p : List ℕ) → insert_at F l (found_in F l n) n p ≡ insert_slot F l n p
      unfolding found_in insert_slot
      insert-found p = split (is_some (lookup F l n))
          (λ h. let s = own-slot n h in rw (h, place-known (slot_holder F) n (make_slot F n p) s.0 (slots F l) (intact-sorted F l g) s.1))
          (λ h.
          let gone = find-of-none F l n (not_some (lookup F l n) h) in
          rw (h, place-new (slot_holder F) n (make_slot F n p) (slots F l) gone (rw (slots_length F l) slot-there)))

    pub erase-found : is_some (lookup F l n) ≡ true → erase_at F l (found_in F l n) ≡ erase_slot F l n
    unfolding found_in erase_slot
    erase-found h =
        let s = own-slot n h in
        ap join_slots (sym (close-known (slot_holder F) n (zeros F.slot_size) s.0 (slots F l) (intact-sorted F l g) s.1))

  -- where the name is not held, there is nothing to take out
  pub erase-absent : (n : Name) → sized F l ≡ true → lookup F l n ≡ none → erase_slot F l n ≡ l
  unfolding erase_slot
  erase-absent n s e =
      ap join_slots (close-absent (slot_holder F) n (zeros F.slot_size) (slots F l) (find-of-none F l n e)) ∙ slots-joined F l (sized-length F l s)

  -- ---- edits in bytes

  module _ (s : sized F l ≡ true) (g : intact F l ≡ true) (found : Found) (w : ℕ) (ew : w ≡ F.slot_size) where
    wide-slots : every (wide F.slot_size) (slots F l) ≡ true
    wide-slots = slots-wide F l (sized-length F l s)

    pub insert-reach : CanInsert F l found → (e : ℕ) → e ≡ insert_end F l found → (found.at < e) × (e ≤ slot_count F l)
    insert-reach can e end =
        let in_range = can.0 in
        split found.held
        (λ h. let z : e ≡ suc found.at = rw h at end in (omega arith, omega arith))
        (λ h.
        let z : e ≡ suc (first_index slot_free (slots F l)) = rw h at end in
        let free = can.1 h in
        (omega arith, omega arith))

    pub insert-bytes : CanInsert F l found → (e : ℕ) → e ≡ insert_end F l found → (n p : List ℕ)
        → let i = found.at in
        let part = take (e * w - i * w) (drop (i * w) l) in
        take (i * w) l ++ ((make_slot F n p ++ take (length part - F.slot_size) part) ++ drop (e * w - i * w) (drop (i * w) l)) ≡ insert_at F l found n p
    insert-bytes can e end n p =
        let i = found.at in
        let ss = slots F l in
        let q = make_slot F n p in
        let u = first_index slot_free ss in
        let in_range = can.0 in
        rw ew (split found.held
        (λ h.
        let z : e ≡ suc i = rw h at end in
        moved_on F.slot_size (slot_count F l) l (sized-length F l s) i 0 e (omega arith) (omega arith) q
        ∙ rw (h, z) (ap join_slots (sym (set_split ss i q (rw (slots_length F l) in_range)))))
        (λ h.
        let z : e ≡ suc u = rw h at end in
        let low = (can.1 h).0 in
        let there = (can.1 h).1 in
        let last =
        last_goes (slot_holder F) slot_free (free-holder F) (used-holder F) (wide F.slot_size) (zeros F.slot_size) (blank-is F) ss wide-slots
        (intact-sorted F l g) i low (rw (slots_length F l) there) in
        moved_on F.slot_size (slot_count F l) l (sized-length F l s) i (u - i) e (omega arith) (omega arith) q
        ∙ rw (h, z) (ap (λ (t : List (List ℕ)). join_slots (take i ss ++ q ∷ t)) (sym last))))

    pub erase-bytes : (u : ℕ) → u ≡ first_index slot_free (slots F l) → found.at < u
        → let i = found.at in
        let part = take (u * w - i * w) (drop (i * w) l) in
        take (i * w) l ++ ((drop F.slot_size part ++ zeros F.slot_size) ++ drop (u * w - i * w) (drop (i * w) l)) ≡ erase_at F l found
    erase-bytes u e below =
        let i = found.at in
        let ss = slots F l in
        let most = first-at-most F l slot_free in
        let low : suc i ≤ first_index slot_free ss = rw e at below in
        let closed =
        free-last (slot_holder F) slot_free (free-holder F) (used-holder F) (wide F.slot_size) (zeros F.slot_size) (blank-is F) ss wide-slots
        (intact-sorted F l g) (suc i) low in
        rw ew (moved_back F.slot_size (slot_count F l) l (sized-length F l s) i (u - suc i) u (omega arith) (omega arith) (zeros F.slot_size)
        ∙ rw e (ap (λ (t : List (List ℕ)). join_slots (take i ss ++ t)) (sym closed)))

    -- the slot of a finding that can be read is in use
    pub held-used : found.held ≡ true → CanRead F l found → found.at < first_index slot_free (slots F l)
    held-used h can =
        let k = can h in
        free-fails F l g found.at (rw (slots_length F l) k.0) (used-not-free F (slot_at F l found.at) k.1)
