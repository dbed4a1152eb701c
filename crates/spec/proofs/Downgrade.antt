-- 02, No. 4: what the chip's entry of a name gives, from the exact conditions of get and set.
use mathlib.Core.Path.{◌≡◌, refl, sym, ap, ◌∙◌}
use mathlib.Core.Logic.{◌≢◌}
use mathlib.Core.Bool.{Bool, true, false, cond, not}
use mathlib.Core.List.{List, [], ◌∷◌, Memᴰ}
use mathlib.Core.Option.{none, some, some-injective}
use Prim.Native.Nat.{ℕ}
use borrow.Author.Tests.{eq-eqb}
use lib.ListN.{length}
use Rattle.buffers.specs.Bytes.{bytes_eq}
use Rattle.spec.specs.Status.{ok, ◌when◌, refuse_if, on_ok, Answer}
use Rattle.spec.specs.Name.{valid_name_byte, valid_name}
use Rattle.spec.specs.Record.{require_replay_protection, valid_flags, metadata, flags_of, tag_of, well_formed}
use Rattle.spec.specs.Record.{sealed_iv, sealed_data, sealed_tag, seal_record, mac_ok, plaintext}
use Rattle.spec.specs.Area.{kv_format, rbp_format, slot_free, slot_used, slot_valid, slot_holder, make_slot, sized, intact, lookup, has_space}
use Rattle.spec.specs.Area.{insert_slot, erase_slot, Edit, keep, write, clear}
use Rattle.spec.specs.Interleaving.{Outcome, final}
use Rattle.spec.specs.Request.{Binding, status_of}
use Rattle.spec.specs.Decisions.{key_sized, set_held, set_effect, get_held, get_tests, read_count, read_output, remove_held, remove_effect}
use Rattle.spec.specs.Calls.{areas, binding_of, store_world, store_set, store_get, store_get_info, store_remove}
use Rattle.spec.specs.Model.{Call, set_call, get_call, get_info_call, remove_call, finalize_call, request_of, call_name, store_step}
use Rattle.spec.specs.Incremental.{handle_name, staged_data}
use Rattle.spec.specs.Demand2.{Undamaged, Readable}
use Rattle.spec.specs.Demand3.{is_set}
use Rattle.spec.specs.Downgrade.{Vouched, OldCardRefused, OldCardLater, EntryKept, EntryLost, Planted, Downgrade}
use Rattle.buffers.proofs.Split.{split, clash, clash_o}
use Rattle.buffers.proofs.Bytes.{bytes_eq-eq}
use Rattle.spec.proofs.NameLists.{other_name}
use Rattle.spec.proofs.Slot.{kv-laws}
use Rattle.spec.proofs.Area.{erase-sound, lookup-erase, edit_option}
use Rattle.spec.proofs.Record.{valid-record}
use Rattle.spec.proofs.Status.{by-status}
use Rattle.spec.proofs.World.{after-done, after-refused, kv-sound-of, rbp-sound-of, both-sound, own-tests}
use Rattle.spec.proofs.Get.{get_exact, info_exact}
use Rattle.spec.proofs.Set.{flags-split, entry-after}
use Rattle.spec.proofs.Remove.{remove_exact, remove-done}
use Rattle.spec.proofs.Lawful.{lawful}
use Rattle.spec.proofs.StoreSteps.{applied, own-binding, other-binding}

-- from the exact condition for a get's or an info's 0
vouched : (kv rbp key name entry : List ℕ) (offset : ℕ) → lookup rbp_format rbp name ≡ some entry → Readable kv rbp key name offset → Vouched kv key name entry
vouched kv rbp key name entry offset e p =
    let f = p.not_downgraded entry e in
    record {
      r = p.r;
      found = p.found;
      valid = p.valid;
      flagged = f;
      authentic = p.authentic (flags-split (flags_of p.r) (valid-record p.r p.valid).flags f);
      fresh = some-injective _ _ (sym (p.fresh f) ∙ e);
    }

old_card_refused : OldCardRefused
old_card_refused rbp name entry e kv key = (
  λ offset output h. vouched kv rbp key name entry offset e ((get_exact kv rbp key name offset output).condition.0 h),
  λ h. vouched kv rbp key name entry 0 e ((info_exact kv rbp key name).condition.0 h),
)

-- a call on another name leaves the entry, whatever card it is made on
entry-stays : (name kv rbp : List ℕ) (c : Call) → name ≢ call_name c → lookup rbp_format (store_step (areas kv rbp) c).after.rbp name ≡ lookup rbp_format rbp name
entry-stays name kv rbp c n =
    let s = areas kv rbp in
    let q = request_of c in
    by-status (status_of store_world s q)
    (λ h. rw (after-done store_world s q h) (ap (λ (b : Binding). b.tag) (other-binding s q (lawful c) (applied s q (lawful c) h) name n)))
    (λ h. rw (after-refused store_world s q h))

-- the chip after a call, where a done one leaves it
chip-stays : (kv rbp : List ℕ) (c : Call) → let s = areas kv rbp in
    let q = request_of c in
    (status_of store_world s q ≡ ok → (store_world.edit s q.name (q.effect (binding_of kv rbp q.name))).rbp ≡ rbp) → (store_step s c).after.rbp ≡ rbp
chip-stays kv rbp c f =
    let s = areas kv rbp in
    let q = request_of c in
    by-status (status_of store_world s q) (λ h. rw (after-done store_world s q h) (f h)) (λ h. rw (after-refused store_world s q h))

-- a set that is done has a good name
set-done : {P : Type 0} (kv rbp : List ℕ) (c : Call) (r : List ℕ) → ((request_of c).effect (binding_of kv rbp (call_name c))).kv ≡ write r → is_set c ≡ false
    → status_of store_world (areas kv rbp) (request_of c) ≡ ok → P
set-done kv rbp c r w n h = clash (is_set c) (rw w at (applied (areas kv rbp) (request_of c) (lawful c) h).kv_needs).0 n

-- a call that neither sets nor removes its name leaves the whole chip
reads-stay : (kv rbp : List ℕ) (c : Call) → is_set c ≡ false → c ≢ remove_call (call_name c) → (store_step (areas kv rbp) c).after.rbp ≡ rbp
unfolding set_effect
reads-stay kv rbp (set_call key name flags iv value) n m =
    let c = set_call key name flags iv value in
    chip-stays kv rbp c (set-done kv rbp c _ refl n)
reads-stay kv rbp (get_call key name offset output) n m = chip-stays kv rbp (get_call key name offset output) (λ h. refl)
reads-stay kv rbp (get_info_call key name) n m = chip-stays kv rbp (get_info_call key name) (λ h. refl)
reads-stay kv rbp (remove_call name) n m = absurd (m refl)
reads-stay kv rbp (finalize_call key h staging) n m =
    let c = finalize_call key h staging in
    chip-stays kv rbp c (set-done kv rbp c _ refl n)

-- a call that neither sets nor removes the name leaves its entry
entry-left : (name kv rbp : List ℕ) (c : Call) → (name ≡ call_name c → (is_set c ≡ false) × (c ≢ remove_call name))
    → lookup rbp_format (store_step (areas kv rbp) c).after.rbp name ≡ lookup rbp_format rbp name
entry-left name kv rbp c n = split (bytes_eq name (call_name c))
    (λ z.
    let e = bytes_eq-eq name (call_name c) z in
    rw (reads-stay kv rbp c (n e).0 (rw e at (n e).1)))
    (λ z. entry-stays name kv rbp c (other_name name (call_name c) z))

abbrev box_step : List ℕ → List ℕ × Call → Outcome (List ℕ) Answer
box_step chip x = let p = store_step (areas x.0 chip) x.1 in record { answer = p.answer; after = p.after.rbp }

entry_remains : (name rbp : List ℕ) (calls : List (List ℕ × Call))
    → ((x : List ℕ × Call) → Memᴰ x calls → name ≡ call_name x.1 → (is_set x.1 ≡ false) × (x.1 ≢ remove_call name))
    → lookup rbp_format (final box_step rbp calls) name ≡ lookup rbp_format rbp name
entry_remains name rbp [] n = refl
entry_remains name rbp (x ∷ calls) n =
    entry_remains name (box_step rbp x).after calls (λ y m. n y (Memᴰ.tail m)) ∙ entry-left name x.0 rbp x.1 (n x (Memᴰ.head refl))

old_card_later : OldCardLater
unfolding store_set
old_card_later kv rbp key name flags iv value h f calls n card key' offset output =
    (old_card_refused _ name _ (entry_remains name _ calls n ∙ entry-after kv rbp key name flags iv value h f) card key').0 offset output

-- a name that the chip holds and the card lacks
absent-status : (kv rbp key name entry : List ℕ) (offset : ℕ) (output : List ℕ)
    → Undamaged kv rbp → length key ≡ 16 → valid_name name ≡ true → lookup kv_format kv name ≡ none → lookup rbp_format rbp name ≡ some entry
    → (store_get kv rbp key name offset output).answer.status ≡ 12
unfolding store_get get_held refuse_if
absent-status kv rbp key name entry offset output u k v a e =
    own-tests (areas kv rbp) ((1 when not (key_sized key)) ∷ []) (get_tests require_replay_protection key name offset (binding_of kv rbp name)) u
    ∙ rw (eq-eqb (length key) 16 k, v, a, e)

module _ (kv rbp name r entry : List ℕ) (found : lookup kv_format kv name ≡ some r) (f : require_replay_protection (flags_of r) ≡ false) where
  entry_kept : lookup rbp_format rbp name ≡ some entry → (store_remove kv rbp name).answer.status ≡ 0 → EntryKept kv rbp name
  entry_kept e h =
      let p = (remove_exact kv rbp name).condition.0 h in
      let same : p.r ≡ r = some-injective _ _ (sym p.found ∙ found) in
      let g = (remove_exact kv rbp name).gives p in
      let kept = g.rbp_kept (rw same f) in
      let u = p.undamaged in
      let gone : (store_remove kv rbp name).after.kv ≡ erase_slot kv_format kv name = rw (remove-done kv rbp name p) in
      let s = kv-sound-of u in
      record {
        slot = g.slot;
        entry = kept;
        then_get = λ key offset output k. rw (gone, kept) (absent-status (erase_slot kv_format kv name) rbp key name entry offset output
            (both-sound (erase-sound kv_format kv-laws kv name s) (rbp-sound-of u)) k p.name_valid (lookup-erase kv_format kv-laws kv name s) e);
      }

-- ---- what takes an entry away

abbrev is_clear : Edit → Bool
is_clear keep = false
is_clear (write p) = false
is_clear clear = true

clears : (x : Edit) (t : List ℕ) → edit_option x (some t) ≡ none → is_clear x ≡ true
clears keep t e = clash_o (some t) e refl
clears (write p) t e = clash_o (some p) e refl
clears clear t e = refl

-- a call whose name lost its entry is done, and its effect on the chip is to clear
cleared : (kv rbp entry : List ℕ) (c : Call) → lookup rbp_format rbp (call_name c) ≡ some entry
    → lookup rbp_format (store_step (areas kv rbp) c).after.rbp (call_name c) ≡ none
    → (status_of store_world (areas kv rbp) (request_of c) ≡ ok) × (is_clear ((request_of c).effect (binding_of kv rbp (call_name c))).rbp ≡ true)
cleared kv rbp entry c h e =
    let s = areas kv rbp in
    let q = request_of c in
    by-status (status_of store_world s q)
    (λ d.
    let own = ap (λ (b : Binding). b.tag) (own-binding s q (lawful c) (applied s q (lawful c) d)) in
    (d, clears (q.effect (binding_of kv rbp q.name)).rbp entry (rw h at (sym own ∙ (rw (after-done store_world s q d) at e)))))
    (λ d. clash_o (lookup rbp_format rbp q.name) (rw (after-refused store_world s q d) at e) h)

set-clears-none : {P : Type 0} (b : Bool) (p : List ℕ) → is_clear (cond b (write p) keep) ≡ true → P
set-clears-none true p h = clash false h refl
set-clears-none false p h = clash false h refl

remove-clears : (b : Bool) → is_clear (cond b clear keep) ≡ true → b ≡ true
remove-clears true h = refl
remove-clears false h = clash false h refl

own-lost : (kv rbp entry : List ℕ) (c : Call) → lookup rbp_format rbp (call_name c) ≡ some entry
    → lookup rbp_format (store_step (areas kv rbp) c).after.rbp (call_name c) ≡ none → EntryLost kv (call_name c) c
unfolding set_effect remove_effect store_remove
own-lost kv rbp entry (set_call key name flags iv value) h e =
    set-clears-none (require_replay_protection flags) (tag_of (seal_record key name flags iv value)) (cleared kv rbp entry (set_call key name flags iv value) h e).1
own-lost kv rbp entry (get_call key name offset output) h e = clash false (cleared kv rbp entry (get_call key name offset output) h e).1 refl
own-lost kv rbp entry (get_info_call key name) h e = clash false (cleared kv rbp entry (get_info_call key name) h e).1 refl
own-lost kv rbp entry (remove_call name) h e =
    let k = cleared kv rbp entry (remove_call name) h e in
    let p = (remove_exact kv rbp name).condition.0 k.0 in
    record { call = refl; r = p.r; found = p.found; flagged = remove-clears _ (rw p.found at k.1) }
own-lost kv rbp entry (finalize_call key h staging) i e =
    set-clears-none (require_replay_protection h.flags) (tag_of (seal_record key (handle_name h) h.flags h.iv (staged_data h staging)))
    (cleared kv rbp entry (finalize_call key h staging) i e).1

entry_lost : (kv rbp name entry : List ℕ) (c : Call) → lookup rbp_format rbp name ≡ some entry
    → lookup rbp_format (store_step (areas kv rbp) c).after.rbp name ≡ none → EntryLost kv name c
entry_lost kv rbp name entry c h e = split (bytes_eq name (call_name c))
    (λ z. let n = bytes_eq-eq name (call_name c) z in rw n (own-lost kv rbp entry c (rw n at h) (rw n at e)))
    (λ z. clash_o (lookup rbp_format rbp name)
    (sym (entry-stays name kv rbp c (other_name name (call_name c) z)) ∙ e) h)

-- ---- the bench's plant, by computation

planted-holds : Planted
unfolding refuse_if on_ok valid_name_byte valid_name valid_flags metadata well_formed sealed_iv sealed_data sealed_tag seal_record mac_ok plaintext
    slot_free slot_used slot_valid slot_holder make_slot sized intact lookup has_space insert_slot erase_slot
    set_held set_effect get_held read_count read_output remove_held remove_effect store_set store_get store_get_info store_remove
planted-holds = record { numbers = refl; removed = refl }

pub downgrade : Downgrade
downgrade = record {
  old_card_refused = old_card_refused;
  old_card_later = old_card_later;
  entry_kept = entry_kept;
  entry_lost = entry_lost;
  planted = planted-holds;
}
