-- A remove: from its judgement to what it answers and leaves. Assumes nothing.
use mathlib.Core.Path.{◌≡◌, refl, sym, ap, ◌∙◌}
use mathlib.Core.Logic.{◌≢◌}
use mathlib.Core.Bool.{Bool, true, false, cond, not, ◌&&◌}
use mathlib.Core.List.{List, [], ◌∷◌, ◌++◌}
use Prim.Native.Nat.{ℕ}
use Rattle.buffers.specs.Bytes.{is_some}
use Rattle.buffers.proofs.Split.{not_some, is-some}
use Rattle.spec.specs.Status.{ok, Test, ◌when◌, refuse_if, first_of}
use Rattle.spec.specs.Name.{valid_name}
use Rattle.spec.specs.Record.{require_replay_protection, flags_of}
use Rattle.spec.specs.Area.{kv_format, rbp_format, lookup, keep, clear, erase_slot, edit_area}
use Rattle.spec.specs.Request.{Request}
use Rattle.spec.specs.Decisions.{record_of, remove_held, remove_effect, remove_request}
use Rattle.spec.specs.Calls.{Areas, areas, store_world, store_remove}
use Rattle.spec.specs.Demand2.{Undamaged, Removable}
use Rattle.spec.proofs.World.{run-done, run-refused, accepted}
use Rattle.spec.proofs.Remove.{remove_exact}
use Rattle.slots.specs.Found.{found_in, CanRead, erase_at}
use Rattle.slots.proofs.Edits.{erase-found, erase-absent}
use Rattle.store.specs.Parts.{Judgement, early, remove_early, judged, record_erased}
use Rattle.store.proofs.Judged.{Left, held-is, readable, all-passed, kv_found, rbp_found}

module _ (kv rbp name : List ℕ) where
  abbrev first : List Test
  first = remove_early kv rbp name

  abbrev rest : List Test
  rest = remove_held (lookup kv_format kv name)

  abbrev request : Request
  request = remove_request require_replay_protection name

  -- a remove has no length besides those of the areas
  pub early_is : (named : Bool) → named ≡ valid_name name → first_of (early kv rbp ((1 when not true) ∷ []) ((3 when not named) ∷ [])) ≡ first_of first
  unfolding refuse_if
  early_is named e = ap (λ (x : Bool). first_of (early kv rbp [] ((3 when not x) ∷ []))) e

  pub remove-sane : first_of first ≡ ok → Undamaged kv rbp
  remove-sane h = (accepted (areas kv rbp) [] ((3 when not (valid_name name)) ∷ []) refl h).undamaged

  module _ (j : Judgement) (e : j ≡ judged kv rbp name first rest) where
    pub remove-refused : j.status ≢ ok → Left j.status (areas kv rbp) ≡ store_remove kv rbp name
    unfolding store_remove
    remove-refused h =
        let z = ap (λ (x : Judgement). x.status) e in
        ap (λ (s : ℕ). Left s (areas kv rbp)) z ∙ sym (run-refused store_world (areas kv rbp) request (λ k. h (z ∙ k)))

    -- what a judgement without refusal says, and what the call then is
    pub record RemoveAccepted : Type 0 where
      pub undamaged : Undamaged kv rbp
      pub held : j.found.held ≡ true
      pub kv_found : CanRead kv_format kv j.found
      pub rbp_found : CanRead rbp_format rbp j.entry
      pub done : (flags : ℕ) → flags ≡ flags_of (record_of (lookup kv_format kv name))
          → (after : Areas) → after ≡ record_erased kv rbp j.found j.entry flags → Left ok after ≡ store_remove kv rbp name

    module _ (h : j.status ≡ ok) where
      passed : first_of (first ++ rest) ≡ ok
      passed = all-passed kv rbp name first rest j e h

      removable : Removable kv rbp name
      unfolding store_remove
      removable = (remove_exact kv rbp name).condition.0 passed

      abbrev stored : List ℕ
      stored = record_of (lookup kv_format kv name)

      is_held : is_some (lookup kv_format kv name) ≡ true
      is_held = is-some (lookup kv_format kv name) removable.r removable.found

      record_found : j.found ≡ found_in kv_format kv name
      unfolding remove_held
      record_found = kv_found kv rbp name first rest j e h refl

      entry_found : j.entry ≡ found_in rbp_format rbp name
      unfolding remove_held
      entry_found = rbp_found kv rbp name first rest j e h refl

      entry_held : j.entry.held ≡ is_some (lookup rbp_format rbp name)
      entry_held = held-is rbp_format rbp name j.entry entry_found

      -- an entry that is not there is not taken out, which is the same
      held_erased : (held : Bool) → is_some (lookup rbp_format rbp name) ≡ held
          → cond held (erase_at rbp_format rbp (found_in rbp_format rbp name)) rbp ≡ erase_slot rbp_format rbp name
      held_erased true p = erase-found rbp_format rbp removable.undamaged.rbp_intact name p
      held_erased false p = sym (erase-absent rbp_format rbp name removable.undamaged.rbp_sized (not_some (lookup rbp_format rbp name) p))

      tag_erased : (flagged : Bool) → cond (flagged && is_some (lookup rbp_format rbp name)) (erase_at rbp_format rbp (found_in rbp_format rbp name)) rbp
          ≡ edit_area rbp_format rbp name (cond flagged clear keep)
      tag_erased false = refl
      tag_erased true = held_erased (is_some (lookup rbp_format rbp name)) refl

      erased : (flags : ℕ) → flags ≡ flags_of stored
          → (after : Areas) → after ≡ record_erased kv rbp j.found j.entry flags → Left ok after ≡ store_remove kv rbp name
      unfolding store_remove remove_effect
      erased flags g after w =
          let known = erase-found kv_format kv removable.undamaged.kv_intact name is_held in
          let tag = tag_erased (require_replay_protection (flags_of stored)) in
          ap (Left ok) w
          ∙ (λ i. Left ok (areas (erase_at kv_format kv (record_found i))
          (cond (require_replay_protection (g i) && entry_held i) (erase_at rbp_format rbp (entry_found i)) rbp)))
          ∙ (λ i. Left ok (areas (known i) (tag i)))
          ∙ sym (run-done store_world (areas kv rbp) request passed)

      pub remove_accepted : RemoveAccepted
      remove_accepted =
          let u = removable.undamaged in
          record {
            undamaged = u;
            held = held-is kv_format kv name j.found record_found ∙ is_held;
            kv_found = readable kv_format kv name j.found record_found u.kv_sized u.kv_intact;
            rbp_found = readable rbp_format rbp name j.entry entry_found u.rbp_sized u.rbp_intact;
            done = erased;
          }
