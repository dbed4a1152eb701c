-- Demand 3: two clients that share no name do not see each other, and how their calls are merged makes no difference to card and chip. One claim about whole
-- lists.
--   Names, names_where, RoomFor, IsolationPremise   what is asked of the start and of the two lists
--   Isolated, ClientIsolation                       the claim
--   StepIsCall, ModelExact                          the steps are the calls; the reference model keeps demand 2's rules
--   Instance                                        two merges that meet the premise, and what is answered and left
use Rattle.std.specs.Prelude.{◌≡◌, ◌≢◌, Bool, true, false, cond, not, ◌&&◌, ℕ, ◌-◌, ◌≤◌, min, eqb, leb, length, take, drop, replicate}
use mathlib.Core.List.{List, [], ◌∷◌, ◌++◌, map, flatten, Memᴰ}
use Rattle.std.proofs.Math.Option.{none, some}
use Rattle.spec.specs.Status.{◌when◌, first_of, Answer}
use Rattle.spec.specs.Name.{Name, valid_name}
use Rattle.spec.specs.Record.{require_replay_protection, data_size_of, flags_of}
use Rattle.spec.specs.Slots.{dedup}
use Rattle.spec.specs.Area.{Format, kv_format, rbp_format, slot_count, names}
use Rattle.spec.specs.Request.{Binding}
use Rattle.spec.specs.Calls.{Areas, areas, binding_of, store_set, store_get, store_get_info, store_remove}
use Rattle.spec.specs.Interleaving.{left, right, Tagged, by, Interleaving, lefts, rights, answers, final, shared_step}
use Rattle.spec.specs.Model.{Call, set_call, get_call, get_info_call, remove_call, finalize_call, request_of, call_name}
use Rattle.spec.specs.Model.{Model, model_of, model_binding, model_step, store_step}
use Rattle.spec.specs.Incremental.{store_set_finalize}
use Rattle.spec.specs.Demand2.{Undamaged, FreeSlot, opened, record_made, tag_made}
use Rattle.spec.specs.IncrementalExact.{Complete}
use Rattle.spec.specs.declared.incremental.IncSetHandle.{IncSetHandle}

-- a byte string is given as a name, good or bad, by a call of the list
abbrev pub Names : List Call → Name → Type 0
Names cs name = Memᴰ name (map call_name cs)

-- the names of those calls that pass a test
abbrev pub names_where : (Call → Bool) → List Call → List Name
names_where t cs = flatten (map (λ c. cond (t c) (call_name c ∷ []) []) cs)

-- the names that an area holds and those to be put there, equal names once, are no more than its slots
abbrev pub RoomFor : Format → List ℕ → List Name → Type 0
RoomFor F area new = length (dedup (names F area ++ new)) ≤ slot_count F area

-- a call that sets its name; and with replay protection
abbrev pub is_set : Call → Bool
is_set c = (request_of c).puts.kv

abbrev pub is_protected_set : Call → Bool
is_protected_set c = (request_of c).puts.rbp

pub record IsolationPremise (kv rbp : List ℕ) (ls rs : List Call) : Type 0 where
  pub undamaged : Undamaged kv rbp
  pub no_shared_name : (name : Name) → Names ls name → Names rs name → ⊥
  pub kv_room : RoomFor kv_format kv (names_where is_set ls ++ names_where is_set rs)
  pub rbp_room : RoomFor rbp_format rbp (names_where is_protected_set ls ++ names_where is_protected_set rs)

module _ (kv rbp : List ℕ) (ls rs : List Call) (l : List (Tagged Call)) where
  abbrev pub at_end : Areas
  at_end = final (shared_step store_step) (areas kv rbp) l

  pub record Isolated : Type 0 where
    -- each client's answers are those of the model fed that client's list alone
    pub left_answers : lefts (answers (shared_step store_step) (areas kv rbp) l) ≡ answers model_step (model_of kv rbp) ls
    pub right_answers : rights (answers (shared_step store_step) (areas kv rbp) l) ≡ answers model_step (model_of kv rbp) rs
    -- each client's names have at the end what its own list leaves in the model; any other name has what it had
    pub left_contents : (name : Name) → Names ls name → binding_of at_end.kv at_end.rbp name ≡ model_binding (final model_step (model_of kv rbp) ls) name
    pub right_contents : (name : Name) → Names rs name → binding_of at_end.kv at_end.rbp name ≡ model_binding (final model_step (model_of kv rbp) rs) name
    pub other_contents : (name : Name) → ¬ Names ls name → ¬ Names rs name → binding_of at_end.kv at_end.rbp name ≡ binding_of kv rbp name
    -- card and chip are undamaged at the end, and as long as before
    pub undamaged : Undamaged at_end.kv at_end.rbp
    pub kv_length : length at_end.kv ≡ length kv
    pub rbp_length : length at_end.rbp ≡ length rbp
    -- 02, No. 7: "any two merges of the same two lists from the same start [..] end with equal bytes on card and chip"
    pub same_bytes : (l' : List (Tagged Call)) → Interleaving ls rs l' → final (shared_step store_step) (areas kv rbp) l' ≡ at_end

abbrev pub ClientIsolation : Type 0
ClientIsolation = (kv rbp : List ℕ) (ls rs : List Call) (l : List (Tagged Call)) → Interleaving ls rs l → IsolationPremise kv rbp ls rs → Isolated kv rbp ls rs l

-- the store's step is the calls themselves; each call's name; "a name set is a good one that a set call of either list gives, accepted or refused"
pub record StepIsCall (kv rbp key name : List ℕ) (flags offset : ℕ) (iv value output : List ℕ) (h : IncSetHandle) (staging : List ℕ) : Type 0 where
  pub of_set : store_step (areas kv rbp) (set_call key name flags iv value) ≡ store_set kv rbp key name flags iv value
  pub of_get : store_step (areas kv rbp) (get_call key name offset output) ≡ store_get kv rbp key name offset output
  pub of_get_info : store_step (areas kv rbp) (get_info_call key name) ≡ store_get_info kv rbp key name
  pub of_remove : store_step (areas kv rbp) (remove_call name) ≡ store_remove kv rbp name
  pub of_finalize : store_step (areas kv rbp) (finalize_call key h staging) ≡ store_set_finalize kv rbp key h staging
  pub each : let cs = set_call key name flags iv value ∷ get_call key name offset output ∷ get_info_call key name ∷ remove_call name ∷ [] in
      (map call_name cs ≡ name ∷ name ∷ name ∷ name ∷ []) × (map is_set cs ≡ valid_name name ∷ false ∷ false ∷ false ∷ [])
      × (map is_protected_set cs ≡ (valid_name name && require_replay_protection flags) ∷ false ∷ false ∷ false ∷ [])
  -- "Demand 3 counts the finish as a set": of the handle's name, whose length is not over 64
  pub finalize_sets : let c = finalize_call key h staging in
      let held = take h.name_len h.name in
      (call_name c ≡ held) × (is_set c ≡ (leb h.name_len 64 && valid_name held))
      × (is_protected_set c ≡ (leb h.name_len 64 && (valid_name held && require_replay_protection h.flags)))

-- ---- the reference model

-- what a name has after a call
abbrev pub after : Model → Call → Name → Binding
after m c name = model_binding (model_step m c).after name

abbrev pub reply : Model → Call → Answer
reply m c = (model_step m c).answer

-- "A done set puts in the record made from its arguments, and with flag 8 that record's CMAC."
pub record ModelSets (m : Model) (key name : List ℕ) (flags : ℕ) (iv value : List ℕ) (b : Binding) : Type 0 where
  pub stored : b.stored ≡ some (record_made key name flags iv value)
  pub tag : require_replay_protection flags ≡ true → b.tag ≡ some (tag_made key name flags iv value)
  pub tag_kept : require_replay_protection flags ≡ false → b.tag ≡ (model_binding m name).tag

-- "A done remove takes out the record, and with flag 8 the CMAC, where there is one."
pub record ModelRemoves (m : Model) (name r : List ℕ) (b : Binding) : Type 0 where
  pub stored : b.stored ≡ none
  pub tag : require_replay_protection (flags_of r) ≡ true → b.tag ≡ none
  pub tag_kept : require_replay_protection (flags_of r) ≡ false → b.tag ≡ (model_binding m name).tag

pub record ModelExact : Type 0 where
  -- "It starts with what the start's used places and used entries hold."
  pub starts : (kv rbp : List ℕ) (name : Name) → model_binding (model_of kv rbp) name ≡ binding_of kv rbp name
  -- "Each step makes the call's tests in the order given above, as later requests change it. [..] 2, 10, and 1 for card or chip don't occur": it answers
  -- as the call does on any undamaged card and chip with room that have the same of the name
  pub answers_as : (m : Model) (c : Call) (kv rbp : List ℕ) → Undamaged kv rbp → FreeSlot kv_format kv → FreeSlot rbp_format rbp
      → binding_of kv rbp (call_name c) ≡ model_binding m (call_name c) → reply m c ≡ (store_step (areas kv rbp) c).answer
  -- "A refusal leaves the book as it was", and gives 0 for every other number; no call touches another name
  pub refused : (m : Model) (c : Call) → (reply m c).status ≢ 0 → (model_step m c).after ≡ m
  pub refused_info : (m : Model) (key name : List ℕ) → let c = get_info_call key name in
      (reply m c).status ≢ 0 → reply m c ≡ record { status = (reply m c).status; numbers = 0 ∷ 0 ∷ []; output = [] }
  pub refused_get : (m : Model) (key name : List ℕ) (offset : ℕ) (output : List ℕ) → let c = get_call key name offset output in
      (reply m c).status ≢ 0 → reply m c ≡ record { status = (reply m c).status; numbers = 0 ∷ []; output = output }
  pub others : (m : Model) (c : Call) (name : Name) → name ≢ call_name c → after m c name ≡ model_binding m name
  pub sets : (m : Model) (key name : List ℕ) (flags : ℕ) (iv value : List ℕ) → let c = set_call key name flags iv value in
      (reply m c).status ≡ 0 → ModelSets m key name flags iv value (after m c name)
  pub removes : (m : Model) (name r : List ℕ) → (reply m (remove_call name)).status ≡ 0 → (model_binding m name).stored ≡ some r
      → ModelRemoves m name r (after m (remove_call name) name)
  -- "A done get or info changes nothing."
  pub gets : (m : Model) (key name : List ℕ) (offset : ℕ) (output r : List ℕ) → let c = get_call key name offset output in
      (reply m c).status ≡ 0 → (model_binding m name).stored ≡ some r → let count = min (length output) (data_size_of r - offset) in
      model_step m c ≡ record { answer = record { status = 0; numbers = count ∷ []; output = take count (drop offset (opened key name r)) ++ drop count output }; after = m }
  -- "Demand 3 counts the finish as a set lent just the bytes then held; the book [..] makes their tests for 1 and 19."
  pub finalizes : (m : Model) (key : List ℕ) (h : IncSetHandle) (staging : List ℕ) → Complete h staging
      → model_step m (finalize_call key h staging) ≡ model_step m (set_call key (take h.name_len h.name) h.flags h.iv (take h.offset staging))
  pub finalize_number : (m : Model) (key : List ℕ) (h : IncSetHandle) (staging : List ℕ) → length h.iv ≡ 8 → let c = finalize_call key h staging in
      let set = set_call key (take h.name_len h.name) h.flags h.iv (take h.offset staging) in
      (reply m c).status ≡ first_of ((1 when not (eqb (length key) 16)) ∷ (1 when not (eqb (length staging) 480)) ∷ (19 when not (leb h.name_len 64))
      ∷ (19 when not (leb h.final_data_size 480)) ∷ (19 when not (eqb h.offset h.final_data_size)) ∷ ((reply m set).status when true) ∷ [])
  pub infos : (m : Model) (key name r : List ℕ) → let c = get_info_call key name in
      (reply m c).status ≡ 0 → (model_binding m name).stored ≡ some r
      → model_step m c ≡ record { answer = record { status = 0; numbers = data_size_of r ∷ flags_of r ∷ []; output = [] }; after = m }

-- ---- the premises can be met: two blank slots of each kind, two clients, one of whose sets asks for replay protection

-- a handle of "a", of whose two bytes n are held
abbrev pub two_bytes : ℕ → IncSetHandle
two_bytes n = record { name = 0x61 ∷ replicate 63 0; name_len = 1; flags = 0; iv = replicate 8 0; final_data_size = 2; offset = n }

-- "a" is set, set again in chunks, of which one is missing at first, and read; "b" is set with integrity and replay protection, and "c" is not there
abbrev pub calls : List (Tagged Call)
calls =
    by right (set_call (replicate 16 0) (0x62 ∷ []) 12 (replicate 8 0) (7 ∷ []))
    ∷ by left (set_call (replicate 16 0) (0x61 ∷ []) 0 (replicate 8 0) (4 ∷ 5 ∷ []))
    ∷ by left (finalize_call (replicate 16 0) (two_bytes 1) (replicate 480 6))
    ∷ by right (remove_call (0x63 ∷ []))
    ∷ by left (finalize_call (replicate 16 0) (two_bytes 2) (replicate 480 6))
    ∷ by left (get_call (replicate 16 0) (0x61 ∷ []) 1 (9 ∷ 9 ∷ 9 ∷ []))
    ∷ []

abbrev pub status : ℕ → Answer
status n = record { status = n; numbers = []; output = [] }

-- the same two lists one after the other
abbrev pub in_turn : List (Tagged Call)
in_turn = map (by left) (lefts calls) ++ map (by right) (rights calls)

pub record Instance : Type 0 where
  pub premise : IsolationPremise (replicate 1168 0) (replicate 164 0) (lefts calls) (rights calls)
  pub left_replies : lefts (answers (shared_step store_step) (areas (replicate 1168 0) (replicate 164 0)) calls)
      ≡ status 0 ∷ status 19 ∷ status 0 ∷ record { status = 0; numbers = 1 ∷ []; output = 6 ∷ 9 ∷ 9 ∷ [] } ∷ []
  pub right_replies : rights (answers (shared_step store_step) (areas (replicate 1168 0) (replicate 164 0)) calls) ≡ status 0 ∷ status 6 ∷ []
  -- two merges of them, and equal bytes after both
  pub merged : Interleaving (lefts calls) (rights calls) calls × Interleaving (lefts calls) (rights calls) in_turn
  pub same_bytes : final (shared_step store_step) (areas (replicate 1168 0) (replicate 164 0)) in_turn
      ≡ final (shared_step store_step) (areas (replicate 1168 0) (replicate 164 0)) calls
