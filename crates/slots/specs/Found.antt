-- Where a name's slot stands in an area, and what is read and written there.
--   slot_for                        the first slot that does not stand before the name, in byte order: its own, or the one that it would take
--   found_in                        what a search for a name finds
--   may_follow                      a slot that is well shaped, and may stand behind another
--   CanRead, CanInsert             a finding that can be read: a slot that is held is there, and in use; or be written
--   insert_end                      how far an insert writes
--   payload, payload_at, insert_at, erase_at   the slot that was found read, written, and taken out
use Rattle.std.specs.Prelude.{◌≡◌, Bool, true, false, not, cond, ◌&&◌, List, [], ◌∷◌, ◌++◌, ℕ, suc, ◌≤◌, ◌<◌, get_or, set, take, drop}
use Rattle.std.specs.Prelude.{Option, Some, None}
use Rattle.std.proofs.Math.Option.{some}
use Rattle.buffers.specs.Bytes.{is_some, zeros}
use Rattle.spec.specs.Name.{Name}
use Rattle.spec.specs.Slots.{join_slots, first_index, in_order, drop_last}
use Rattle.spec.specs.Area.{Format, slot_free, slot_used, slot_valid, slot_holder, slot_payload, make_slot, slot_count, slots, lookup}
use Rattle.slots.specs.declared.areas.Found.{Found}

-- a slot that is well shaped, and may stand behind another
abbrev pub may_follow : Format → List ℕ → List ℕ → Bool
may_follow F before slot = slot_valid F slot && in_order (slot_holder F before) (slot_holder F slot)

module _ (F : Format) (area : List ℕ) where
  abbrev pub slot_for : Name → ℕ
  slot_for name = first_index (λ s. not (in_order (slot_holder F s) (some name))) (slots F area)

  unfoldable pub found_in : Name → Found
  found_in name = record { at = slot_for name; held = is_some (lookup F area name) }

  abbrev pub slot_at : ℕ → List ℕ
  slot_at i = get_or (slots F area) i []

  abbrev pub CanRead : Found → Type 0
  CanRead found = found.held ≡ true → (found.at < slot_count F area) × (slot_used F (slot_at found.at) ≡ true)

  -- a slot that is not held is not behind the first free one, which is there
  abbrev pub CanInsert : Found → Type 0
  CanInsert found =
      (found.at < slot_count F area)
      × (found.held ≡ false → (found.at ≤ first_index slot_free (slots F area)) × (first_index slot_free (slots F area) < slot_count F area))

  -- what it holds for the name, where the name is held
  abbrev pub payload : Found → Option (List ℕ)
  payload found = cond found.held (Some (slot_payload F (slot_at found.at))) None

  -- nothing, where the name is not held
  abbrev pub payload_at : Found → List ℕ
  payload_at found = cond found.held (slot_payload F (slot_at found.at)) []

  -- the slot behind the last that is written: the one that is held, or the first free one
  abbrev pub insert_end : Found → ℕ
  insert_end found = cond found.held (suc found.at) (suc (first_index slot_free (slots F area)))

  -- a slot that is not held is put in front, and the last one goes
  abbrev pub insert_at : Found → Name → List ℕ → List ℕ
  insert_at found name payload =
      let ss = slots F area in
      let q = make_slot F name payload in
      join_slots (cond found.held (set ss found.at q) (take found.at ss ++ q ∷ drop_last (drop found.at ss)))

  -- a free one is the last
  abbrev pub erase_at : Found → List ℕ
  erase_at found = join_slots (take found.at (slots F area) ++ (drop (suc found.at) (slots F area) ++ zeros F.slot_size ∷ []))
