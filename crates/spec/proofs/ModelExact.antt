-- The steps of demand 3 are the calls; and the reference model keeps demand 2's rules.
use mathlib.Core.Path.{◌≡◌, refl, sym, ap, ◌∙◌}
use mathlib.Core.Logic.{◌≢◌}
use mathlib.Core.Bool.{true, cond, not}
use mathlib.Core.List.{List, [], ◌∷◌, ◌++◌}
use mathlib.Core.Option.{none, some}
use Prim.Native.Nat.{ℕ}
use native.Mathlib.Omega.{arith}
use borrow.Author.Tests.{eqb-true, eq-eqb, le-leb}
use lib.Dec.{eqb, leb}
use lib.ListN.{length}
use Rattle.spec.specs.Status.{ok, ◌when◌, refuse_if, first_of}
use Rattle.spec.specs.Name.{Name}
use Rattle.spec.specs.Record.{require_replay_protection, flags_of, tag_of, enc_key, crypt, seal_record, plaintext, Sealable}
use Rattle.spec.specs.Area.{kv_format, rbp_format, keep, write, clear}
use Rattle.spec.specs.Request.{Effect, status_of, run}
use Rattle.spec.specs.Decisions.{key_sized, iv_sized, record_of, set_held, set_tests, set_effect, read_count, read_output, remove_effect}
use Rattle.spec.specs.Calls.{areas, binding_of, room_of, store_world, store_set, store_get, store_get_info, store_remove}
use Rattle.spec.specs.Model.{Call, set_call, get_call, get_info_call, remove_call, finalize_call, request_of, call_name}
use Rattle.spec.specs.Model.{Model, model_binding, model_edit, model_world}
use Rattle.spec.specs.Incremental.{handle_name, staged_data, staging_sized, name_fits, store_set_finalize}
use Rattle.spec.specs.declared.incremental.IncSetHandle.{IncSetHandle}
use Rattle.spec.specs.Demand2.{Undamaged, FreeSlot, record_made}
use Rattle.spec.specs.Demand3.{StepIsCall, after, reply, ModelSets, ModelRemoves, ModelExact}
use Rattle.buffers.proofs.Split.{not-false-is}
use Rattle.spec.proofs.Area.{edit_option}
use Rattle.spec.proofs.Status.{all-passed, by-status}
use Rattle.spec.proofs.World.{own-tests, run-done, run-refused, after-done, after-refused}
use Rattle.spec.proofs.Decision.{decided, decided-sealable}
use Rattle.spec.proofs.Set.{sealed-bytes, tag-bytes, has_space_lem}
use Rattle.spec.proofs.Model.{table_same, table-other, model-start}
use Rattle.spec.proofs.Lawful.{enough}
use Rattle.spec.proofs.IncrementalSet.{finalize-run, in_order_lem}

pub step-is-call : (kv rbp key name : List ℕ) (flags offset : ℕ) (iv value output : List ℕ) (h : IncSetHandle) (staging : List ℕ)
    → StepIsCall kv rbp key name flags offset iv value output h staging
unfolding store_set store_get store_get_info store_remove store_set_finalize
step-is-call kv rbp key name flags offset iv value output h staging = record {
  of_set = refl;
  of_get = refl;
  of_get_info = refl;
  of_remove = refl;
  of_finalize = refl;
  each = (refl, refl, refl);
  finalize_sets = (refl, refl, refl);
}

edit-other : (m : Model) (n name : Name) (x : Effect) → n ≢ name → model_binding (model_edit m name x) n ≡ model_binding m n
edit-other m n name x h = rw (table-other m.records n name x.kv h, table-other m.tags n name x.rbp h)

others : (m : Model) (c : Call) (n : Name) → n ≢ call_name c → after m c n ≡ model_binding m n
others m c n h = by-status (status_of model_world m (request_of c))
    (λ e. rw (after-done model_world m (request_of c) e) (edit-other m n (call_name c) ((request_of c).effect (model_binding m (call_name c))) h))
    (λ e. rw (after-refused model_world m (request_of c) e))

-- a store with room, that has the same of the name
as_store : (m : Model) (c : Call) (kv rbp : List ℕ) → Undamaged kv rbp → FreeSlot kv_format kv → FreeSlot rbp_format rbp
    → binding_of kv rbp (call_name c) ≡ model_binding m (call_name c) → reply m c ≡ (run store_world (areas kv rbp) (request_of c)).answer
as_store m c kv rbp u f g e =
    let q = request_of c in
    let s = areas kv rbp in
    let tests = q.tests (binding_of kv rbp (call_name c)) (room_of kv rbp) in
    let own : status_of store_world s q ≡ first_of (q.early ++ tests) = own-tests s q.early tests u in
    let same : status_of model_world m q ≡ status_of store_world s q = sym (own ∙ rw (has_space_lem kv_format kv f, has_space_lem rbp_format rbp g, e)) in
    rw (same, e)

-- ---- what is done

module _ (m : Model) (key name : List ℕ) (flags : ℕ) (iv value : List ℕ) (h : (reply m (set_call key name flags iv value)).status ≡ ok) where
  abbrev c : Call
  c = set_call key name flags iv value

  abbrev sealed : List ℕ
  sealed = seal_record key name flags iv value

  ready : Sealable flags iv value
  unfolding set_held
  ready =
      let b = model_binding m name in
      let p = all-passed ((request_of c).early ++ (request_of c).tests b enough) refl h in
      let i = eqb-true (length iv) 8 (not-false-is _ p.1.0) in
      decided-sealable require_replay_protection name flags value b enough iv (decided require_replay_protection name flags value b enough p.1.1) i

  stored_in : (after m c name).stored ≡ some (record_made key name flags iv value)
  unfolding set_effect
  stored_in = ap (λ (x : Model). (model_binding x name).stored) (after-done model_world m (request_of c) h)
      ∙ table_same m.records name (write sealed) ∙ ap some (sealed-bytes key name flags iv value)

  tag-edit : (after m c name).tag ≡ edit_option (cond (require_replay_protection flags) (write (tag_of sealed)) keep) (model_binding m name).tag
  unfolding set_effect
  tag-edit = ap (λ (x : Model). (model_binding x name).tag) (after-done model_world m (request_of c) h)
      ∙ table_same m.tags name (cond (require_replay_protection flags) (write (tag_of sealed)) keep)

  sets : ModelSets m key name flags iv value (after m c name)
  sets = record { stored = stored_in; tag = λ e. tag-edit ∙ rw e (ap some (tag-bytes key name flags iv value ready)); tag_kept = λ e. tag-edit ∙ rw e }

module _ (m : Model) (name r : List ℕ) (h : (reply m (remove_call name)).status ≡ ok) (held : (model_binding m name).stored ≡ some r) where
  stored-out : (after m (remove_call name) name).stored ≡ none
  unfolding remove_effect
  stored-out = ap (λ (x : Model). (model_binding x name).stored) (after-done model_world m (request_of (remove_call name)) h) ∙ table_same m.records name clear

  tag-out : (after m (remove_call name) name).tag ≡ edit_option (cond (require_replay_protection (flags_of r)) clear keep) (model_binding m name).tag
  unfolding remove_effect
  tag-out = ap (λ (x : Model). (model_binding x name).tag) (after-done model_world m (request_of (remove_call name)) h)
      ∙ table_same m.tags name (cond (require_replay_protection (flags_of (record_of (model_binding m name).stored))) clear keep) ∙ rw held

  removes : ModelRemoves m name r (after m (remove_call name) name)
  removes = record { stored = stored-out; tag = λ e. tag-out ∙ rw e; tag_kept = λ e. tag-out ∙ rw e }

-- a finalize's own tests, then a set's
finalize_number : (m : Model) (key : List ℕ) (h : IncSetHandle) (staging : List ℕ) → length h.iv ≡ 8
    → let set = set_call key (handle_name h) h.flags h.iv (staged_data h staging) in
    (reply m (finalize_call key h staging)).status
    ≡ first_of ((1 when not (eqb (length key) 16)) ∷ (1 when not (eqb (length staging) 480)) ∷ (19 when not (leb h.name_len 64))
    ∷ (19 when not (leb h.final_data_size 480)) ∷ (19 when not (eqb h.offset h.final_data_size)) ∷ ((reply m set).status when true) ∷ [])
unfolding refuse_if
finalize_number m key h staging i =
    let name = handle_name h in
    in_order_lem true true (key_sized key) (iv_sized h.iv) (staging_sized staging) (name_fits h) (leb h.final_data_size 480)
    (leb h.offset h.final_data_size) (eqb h.offset h.final_data_size)
    (first_of (set_tests require_replay_protection name h.flags (staged_data h staging) (model_binding m name) enough))
    (eq-eqb (length h.iv) 8 i)
    (λ e. let z = eqb-true h.offset h.final_data_size e in le-leb h.offset h.final_data_size (omega arith))

pub model-exact : ModelExact
unfolding read_count read_output plaintext crypt enc_key
model-exact = record {
  starts = λ kv rbp name. sym (model-start kv rbp name);
  answers_as = as_store;
  refused = λ m c h. after-refused model_world m (request_of c) h;
  refused_info = λ m key name h. ap (λ o. o.answer) (run-refused model_world m (request_of (get_info_call key name)) h);
  refused_get = λ m key name offset output h. ap (λ o. o.answer) (run-refused model_world m (request_of (get_call key name offset output)) h);
  others = others;
  sets = sets;
  removes = removes;
  gets = λ m key name offset output r h held. run-done model_world m (request_of (get_call key name offset output)) h ∙ rw held;
  finalizes = λ m key h staging c. finalize-run model_world m require_replay_protection key h staging c;
  finalize_number = finalize_number;
  infos = λ m key name r h held. run-done model_world m (request_of (get_info_call key name)) h ∙ rw held;
}
