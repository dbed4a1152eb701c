-- A set: from its judgement to what it answers and leaves. Assumes nothing.
use mathlib.Core.Path.{◌≡◌, refl, sym, ap, ◌∙◌}
use mathlib.Core.Logic.{◌≢◌}
use mathlib.Core.Bool.{true, cond, not}
use mathlib.Core.List.{List, [], ◌∷◌, ◌++◌}
use Prim.Native.Nat.{ℕ}
use lib.ListN.{length}
use Rattle.buffers.proofs.Split.{split}
use Rattle.spec.specs.Status.{ok, Test, ◌when◌, first_of}
use Rattle.spec.specs.Name.{valid_name}
use Rattle.spec.specs.Record.{require_replay_protection, seal_record, tag_of, Sealable}
use Rattle.spec.specs.Area.{kv_format, rbp_format, keep, write, edit_area}
use Rattle.spec.specs.Request.{Binding, Request}
use Rattle.spec.specs.Decisions.{key_sized, iv_sized, set_held, space_tests, set_effect, set_request}
use Rattle.spec.specs.Calls.{Areas, areas, binding_of, room_of, store_world, store_set}
use Rattle.spec.specs.Demand2.{Undamaged}
use Rattle.spec.proofs.World.{run-done, run-refused, accepted}
use Rattle.spec.proofs.Set.{Ready, ready_of}
use Rattle.slots.specs.Found.{found_in, CanInsert, insert_at}
use Rattle.slots.proofs.Edits.{insert-found, can-insert}
use Rattle.store.specs.Parts.{Judgement, set_arguments, set_early, judged, record_written}
use Rattle.store.proofs.Judged.{Left, all-passed, kv_found, rbp_found}

module _ (kv rbp key name : List ℕ) (flags : ℕ) (iv value : List ℕ) where
  abbrev first : List Test
  first = set_early kv rbp key name flags iv value

  abbrev b : Binding
  b = binding_of kv rbp name

  abbrev pub set_rest : List Test
  set_rest = set_held require_replay_protection flags b ++ space_tests require_replay_protection flags b (room_of kv rbp)

  abbrev request : Request
  request = set_request require_replay_protection key name flags iv value

  pub set-sane : first_of first ≡ ok → Undamaged kv rbp
  set-sane h = (accepted (areas kv rbp) ((1 when not (key_sized key)) ∷ (1 when not (iv_sized iv)) ∷ []) (set_arguments name flags value) refl h).undamaged

  -- ---- once it is judged

  module _ (j : Judgement) (e : j ≡ judged kv rbp name first set_rest) where
    pub set-refused : j.status ≢ ok → Left j.status (areas kv rbp) ≡ store_set kv rbp key name flags iv value
    unfolding store_set
    set-refused h =
        let z = ap (λ (x : Judgement). x.status) e in
        ap (λ (s : ℕ). Left s (areas kv rbp)) z ∙ sym (run-refused store_world (areas kv rbp) request (λ k. h (z ∙ k)))

    -- what a judgement without refusal says, and what the call then is
    pub record SetAccepted : Type 0 where
      pub key_is_sized : length key ≡ 16
      pub iv_is_sized : length iv ≡ 8
      pub undamaged : Undamaged kv rbp
      pub kv_slot : CanInsert kv_format kv j.found
      pub rbp_slot : require_replay_protection flags ≡ true → CanInsert rbp_format rbp j.entry
      pub name_valid : valid_name name ≡ true
      pub sealable : Sealable flags iv value
      pub done : (after : Areas) → after ≡ record_written kv rbp j.found j.entry key name flags iv value
          → Left ok after ≡ store_set kv rbp key name flags iv value

    module _ (h : j.status ≡ ok) where
      passed : first_of (first ++ set_rest) ≡ ok
      passed = all-passed kv rbp name first set_rest j e h

      ready : Ready kv rbp key name flags iv value
      ready = ready_of kv rbp key name flags iv value passed

      record_found : j.found ≡ found_in kv_format kv name
      unfolding set_held
      record_found = kv_found kv rbp name first set_rest j e h refl

      entry_found : j.entry ≡ found_in rbp_format rbp name
      unfolding set_held
      entry_found = rbp_found kv rbp name first set_rest j e h refl

      sane : Undamaged kv rbp
      sane = record {
        kv_sized = ready.kv_sound.size;
        rbp_sized = ready.rbp_sound.size;
        kv_intact = ready.kv_sound.good;
        rbp_intact = ready.rbp_sound.good;
      }

      abbrev r : List ℕ
      r = seal_record key name flags iv value

      tag_written : cond (require_replay_protection flags) (insert_at rbp_format rbp (found_in rbp_format rbp name) name (tag_of r)) rbp
          ≡ edit_area rbp_format rbp name (cond (require_replay_protection flags) (write (tag_of r)) keep)
      tag_written = split (require_replay_protection flags)
          (λ p. rw p (insert-found rbp_format rbp ready.rbp_sound.good name (ready.choice.rbp_room p) (tag_of r)))
          (λ p. rw p)

      record_is_written : insert_at kv_format kv (found_in kv_format kv name) name r ≡ edit_area kv_format kv name (write r)
      record_is_written = insert-found kv_format kv ready.kv_sound.good name ready.choice.kv_room r

      written : (after : Areas) → after ≡ record_written kv rbp j.found j.entry key name flags iv value
          → Left ok after ≡ store_set kv rbp key name flags iv value
      unfolding store_set set_effect
      written after w =
          ap (Left ok) w
          ∙ (λ i. Left ok (record_written kv rbp (record_found i) (entry_found i) key name flags iv value))
          ∙ (λ i. Left ok (areas (record_is_written i) (tag_written i)))
          ∙ sym (run-done store_world (areas kv rbp) request passed)

      pub set_accepted : SetAccepted
      set_accepted = record {
        key_is_sized = ready.key_is_sized;
        iv_is_sized = ready.iv_is_sized;
        undamaged = sane;
        kv_slot = rw record_found (can-insert kv_format kv ready.kv_sound.good name ready.choice.kv_room);
        rbp_slot = λ p. rw entry_found (can-insert rbp_format rbp ready.rbp_sound.good name (ready.choice.rbp_room p));
        name_valid = ready.choice.name_valid;
        sealable = ready.sealable;
        done = written;
      }
