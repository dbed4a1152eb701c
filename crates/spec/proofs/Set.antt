-- Demand 2, the exact condition for a set's 0, the round trip, and what an accepted set stores.
use mathlib.Core.Path.{◌≡◌, refl, ap, ◌∙◌}
use mathlib.Core.Bool.{true, false, cond, not, ◌||◌}
use mathlib.Core.List.{List, [], ◌∷◌, ◌++◌, append-nil}
use mathlib.Core.Option.{some}
use Prim.Native.Nat.{ℕ, ◌-◌, ◌≤◌, ◌<◌, zero-le, min}
use native.Mathlib.Omega.{arith}
use borrow.Author.Tests.{eqb-true, eq-eqb, lt-ltb}
use lib.Dec.{ltb}
use lib.ListN.{length, drop}
use lib.Seq.{take-length}
use Rattle.spec.specs.Status.{ok, Test, ◌when◌}
use Rattle.spec.specs.Record.{require_integrity, require_replay_protection, valid_flags, metadata, data_size_of, tag_of}
use Rattle.spec.specs.Record.{enc_key, auth_key, crypt, record_cmac, sealed_iv, sealed_data, sealed_tag, seal_record, plaintext, Sealable}
use Rattle.spec.specs.Slots.{first_index}
use Rattle.spec.specs.Area.{Format, kv_format, rbp_format, slot_free, make_slot, slots, lookup, has_space, insert_slot}
use Rattle.spec.specs.Area.{Edit, keep, write, edit_area}
use Rattle.spec.specs.Layout.{place_bytes, entry_bytes}
use Rattle.spec.specs.Request.{status_of}
use Rattle.spec.specs.Decisions.{key_sized, iv_sized, set_held, set_tests, set_effect, set_request}
use Rattle.spec.specs.Calls.{Areas, areas, binding_of, room_of, store_world, store_set, store_get}
use Rattle.spec.specs.Demand2.{done, Readable, FreeSlot, Settable, SetExact, RoundTrip, record_made, tag_made, Stores}
use Rattle.buffers.proofs.Split.{split, both, not-false-is}
use Rattle.spec.proofs.Chunks.{slots_length}
use Rattle.spec.proofs.Slot.{kv-laws, rbp-laws}
use Rattle.spec.proofs.Area.{Sound, Good, insert-sound, lookup-insert}
use Rattle.spec.proofs.Placed.{stored_in}
use Rattle.spec.proofs.First.{first_in_range, any_at, first_passes}
use Rattle.spec.proofs.Record.{valid-flags-small, sealed_data-size, sealed-flags, sealed-tag}
use Rattle.spec.proofs.Record.{sealed-tag-length, sealed-valid, sealed_mac, sealed-plaintext}
use Rattle.spec.proofs.World.{run-done, kv-sound-of, rbp-sound-of, both-sound, accepted, acceptable}
use Rattle.spec.proofs.Decision.{Decided, decided, decided-sealable, decided-passed, sealed-kv-good, sealed-rbp-good}
use Rattle.spec.proofs.Get.{mac_eq, get_exact}

-- ---- what is stored, byte for byte

module _ (key name : List ℕ) (flags : ℕ) (iv value : List ℕ) where
  pub sealed-bytes : seal_record key name flags iv value ≡ record_made key name flags iv value
  unfolding seal_record metadata sealed_iv sealed_data sealed_tag record_cmac auth_key crypt enc_key
  sealed-bytes = refl

  pub tag-bytes : Sealable flags iv value → tag_of (seal_record key name flags iv value) ≡ tag_made key name flags iv value
  unfolding metadata sealed_iv sealed_data sealed_tag record_cmac auth_key crypt enc_key
  tag-bytes ready = sealed-tag key name flags iv value ready

-- ---- an accepted set

module _ (kv rbp key name : List ℕ) (flags : ℕ) (iv value : List ℕ) where
  abbrev early : List Test
  early = (1 when not (key_sized key)) ∷ (1 when not (iv_sized iv)) ∷ []

  abbrev tests : List Test
  tests = set_tests require_replay_protection name flags value (binding_of kv rbp name) (room_of kv rbp)

  abbrev pub set_status : ℕ
  set_status = status_of store_world (areas kv rbp) (set_request require_replay_protection key name flags iv value)

  abbrev sealed : List ℕ
  sealed = seal_record key name flags iv value

  pub record Ready : Type 0 where
    pub kv_sound : Sound kv_format kv
    pub rbp_sound : Sound rbp_format rbp
    pub key_is_sized : length key ≡ 16
    pub iv_is_sized : length iv ≡ 8
    pub choice : Decided require_replay_protection name flags value (binding_of kv rbp name) (room_of kv rbp)
    pub sealable : Sealable flags iv value

  pub ready_of : set_status ≡ ok → Ready
  unfolding set_held
  ready_of h =
      let a = accepted (areas kv rbp) early tests refl h in
      let u = a.undamaged in
      let i = eqb-true (length iv) 8 (not-false-is _ a.lengths.1.0) in
      let d = decided require_replay_protection name flags value (binding_of kv rbp name) (room_of kv rbp) a.rest in
      record {
        kv_sound = kv-sound-of u;
        rbp_sound = rbp-sound-of u;
        key_is_sized = eqb-true (length key) 16 (not-false-is _ a.lengths.0);
        iv_is_sized = i;
        choice = d;
        sealable = decided-sealable require_replay_protection name flags value _ _ iv d i;
      }

  module _ (h : set_status ≡ ok) where
    abbrev a : Ready
    a = ready_of h

    abbrev after : Areas
    after = (store_set kv rbp key name flags iv value).after

    -- what is done to the chip
    abbrev rbp-edit : Edit
    rbp-edit = cond (require_replay_protection flags) (write (tag_of sealed)) keep

    kv_good : Good kv_format name sealed
    kv_good = sealed-kv-good key name flags iv value a.choice.name_valid a.sealable

    rbp_good : Good rbp_format name (tag_of sealed)
    rbp_good = sealed-rbp-good key name flags iv value a.choice.name_valid a.sealable

    -- the areas after it
    set-done : store_set kv rbp key name flags iv value
        ≡ done (areas (insert_slot kv_format kv name sealed) (edit_area rbp_format rbp name rbp-edit)) [] []
    unfolding store_set set_effect
    set-done = run-done store_world (areas kv rbp) (set_request require_replay_protection key name flags iv value) h

    kv-after : after.kv ≡ insert_slot kv_format kv name sealed
    kv-after = ap (λ o. o.after.kv) set-done

    rbp-written : require_replay_protection flags ≡ true → after.rbp ≡ insert_slot rbp_format rbp name (tag_of sealed)
    rbp-written e = ap (λ o. o.after.rbp) set-done ∙ rw e

    rbp-unchanged : require_replay_protection flags ≡ false → after.rbp ≡ rbp
    rbp-unchanged e = ap (λ o. o.after.rbp) set-done ∙ rw e

    kv-sound-after : Sound kv_format after.kv
    kv-sound-after = rw kv-after (insert-sound kv_format kv-laws kv name sealed a.kv_sound kv_good)

    rbp-sound-after : Sound rbp_format after.rbp
    rbp-sound-after = split (require_replay_protection flags)
        (λ e. rw (rbp-written e) (insert-sound rbp_format rbp-laws rbp name (tag_of sealed) a.rbp_sound rbp_good))
        (λ e. rw (rbp-unchanged e) a.rbp_sound)

    -- the chip then holds that record's CMAC
    entry-sealed : require_replay_protection flags ≡ true → lookup rbp_format after.rbp name ≡ some (tag_of sealed)
    entry-sealed e = rw (rbp-written e)
        (lookup-insert rbp_format rbp-laws rbp name (tag_of sealed) a.rbp_sound rbp_good (a.choice.rbp_room e))

    pub entry-after : require_replay_protection flags ≡ true → lookup rbp_format after.rbp name ≡ some (tag_made key name flags iv value)
    entry-after e = entry-sealed e ∙ ap some (tag-bytes key name flags iv value a.sealable)

    -- ---- the round trip

    readable : Readable after.kv after.rbp key name 0
    readable =
        let f = sealed-flags key name flags iv value a.sealable in
        record {
          undamaged = both-sound kv-sound-after rbp-sound-after;
          key_is_sized = a.key_is_sized;
          name_valid = a.choice.name_valid;
          r = sealed;
          found = rw kv-after (lookup-insert kv_format kv-laws kv name sealed a.kv_sound kv_good a.choice.kv_room);
          valid = sealed-valid key name flags iv value a.sealable;
          authentic = λ e. mac_eq key name sealed (sealed_mac key name flags iv value a.sealable (rw f at e));
          fresh = λ e. entry-sealed (rw f at e);
          not_downgraded = λ t e. rw f (split (require_replay_protection flags)
              (λ w. w)
              (λ w. a.choice.not_downgraded t (rw (rbp-unchanged w) at e)));
          in_range = zero-le;
        }

    pub read_back : (output : List ℕ) → length value ≤ length output → let o = store_set kv rbp key name flags iv value in
        store_get o.after.kv o.after.rbp key name 0 output ≡ done o.after (length value ∷ []) (value ++ drop (length value) output)
    unfolding plaintext crypt enc_key readable
    read_back output k =
        let d = sealed_data-size key name flags iv value a.sealable in
        let p = sealed-plaintext key name flags iv value a.sealable in
        let c : min (length output) (data_size_of sealed - 0) ≡ length value = rw d (omega arith) in
        (get_exact _ _ key name 0 output).gives readable ∙ rw (c, p, take-length value)

    -- ---- the slots that are written

    slot-bytes : make_slot kv_format name sealed ≡ place_bytes name (record_made key name flags iv value)
    unfolding make_slot
    slot-bytes = rw (sealed-bytes key name flags iv value)

    rbp-slot-bytes : make_slot rbp_format name (tag_of sealed) ≡ entry_bytes name (tag_made key name flags iv value)
    unfolding make_slot
    rbp-slot-bytes =
        let z = sealed-tag-length key name flags iv value a.sealable in
        rw (z, append-nil (tag_of sealed), tag-bytes key name flags iv value a.sealable)

    pub stores : Stores kv rbp key name flags iv value (store_set kv rbp key name flags iv value)
    stores = record {
      answer = rw set-done;
      slot = rw (kv-after, ← slot-bytes) (stored_in kv_format kv-laws kv name a.kv_sound sealed kv_good a.choice.kv_room);
      rbp_slot = λ e. rw (rbp-written e, ← rbp-slot-bytes)
          (stored_in rbp_format rbp-laws rbp name a.rbp_sound (tag_of sealed) rbp_good (a.choice.rbp_room e));
      rbp_kept = rbp-unchanged;
    }

-- ---- the exact condition

pub free-slot : (F : Format) (area : List ℕ) → has_space F area ≡ true → FreeSlot F area
unfolding has_space
free-slot F area h = record {
  i = first_index slot_free (slots F area);
  in_range = first_in_range F slot_free area h;
  free = first_passes slot_free (slots F area) [] h;
}

pub has_space_lem : (F : Format) (area : List ℕ) → FreeSlot F area → has_space F area ≡ true
unfolding has_space
has_space_lem F area f = any_at slot_free (slots F area) [] f.i (rw (slots_length F area) f.in_range) f.free

pub flags-split : (flags : ℕ) → valid_flags flags ≡ true → require_replay_protection flags ≡ true → require_integrity flags ≡ true
unfolding valid_flags
flags-split flags h e = rw e at (both (ltb flags 16) (not (require_replay_protection flags) || require_integrity flags) h).1

pub flags-join : (flags : ℕ) → flags < 16 → (require_replay_protection flags ≡ true → require_integrity flags ≡ true) → valid_flags flags ≡ true
unfolding valid_flags
flags-join flags s w = rw (lt-ltb flags 16 s) (split (require_replay_protection flags) (λ e. rw (e, w e)) (λ e. rw e))

module _ (kv rbp key name : List ℕ) (flags : ℕ) (iv value : List ℕ) where
  settable : set_status kv rbp key name flags iv value ≡ ok → Settable kv rbp key name flags iv value
  settable h =
      let a = ready_of kv rbp key name flags iv value h in
      let d = a.choice in
      record {
        undamaged = both-sound a.kv_sound a.rbp_sound;
        key_is_sized = a.key_is_sized;
        iv_is_sized = a.iv_is_sized;
        name_valid = d.name_valid;
        flags_known = valid-flags-small flags d.flags_valid;
        flags_whole = flags-split flags d.flags_valid;
        value_sized = d.value_sized;
        known = d.known;
        new = d.new;
        not_downgraded = d.not_downgraded;
        kv_room = λ e. free-slot kv_format kv (d.kv_room e);
        rbp_room = λ f e. free-slot rbp_format rbp (d.rbp_room f e);
      }

  settable-ok : Settable kv rbp key name flags iv value → set_status kv rbp key name flags iv value ≡ ok
  settable-ok h =
      acceptable (areas kv rbp) (early kv rbp key name flags iv value) (tests kv rbp key name flags iv value) (record {
        undamaged = h.undamaged;
        lengths = (rw (eq-eqb (length key) 16 h.key_is_sized), (rw (eq-eqb (length iv) 8 h.iv_is_sized), tt));
        rest = decided-passed require_replay_protection name flags value (binding_of kv rbp name) (room_of kv rbp) (record {
          name_valid = h.name_valid;
          flags_valid = flags-join flags h.flags_known h.flags_whole;
          value_sized = h.value_sized;
          known = h.known;
          new = h.new;
          not_downgraded = h.not_downgraded;
          kv_room = λ e. has_space_lem kv_format kv (h.kv_room e);
          rbp_room = λ f e. has_space_lem rbp_format rbp (h.rbp_room f e);
        });
      })

pub set_exact : SetExact
unfolding store_set
set_exact kv rbp key name flags iv value = record {
  condition = (settable kv rbp key name flags iv value, settable-ok kv rbp key name flags iv value);
  gives = λ h. stores kv rbp key name flags iv value (settable-ok kv rbp key name flags iv value h);
}

pub round_trip : RoundTrip
unfolding store_set
round_trip kv rbp key name flags iv value output h k = read_back kv rbp key name flags iv value h output k
