-- 01, "The book of demand 3": the reference model. It has no slots and no room: for each name a record or none, and a CMAC or none, in two finite
-- tables. Its steps run the same requests as the store's calls; of areas they know nothing.
--   Call, request_of, call_name      a call on a name, as a request, and its name
--   Item, table_lookup, table_edit   a finite table
--   Model, model_of, model_world     two tables; those of a card and a chip; what keeps the names
--   model_step, store_step           a call on the model; a call on card and chip
use Rattle.std.specs.Prelude.{true, cond, List, [], ◌∷◌, ℕ}
use Rattle.std.proofs.Math.Option.{Option, none, some}
use Rattle.buffers.specs.Bytes.{bytes_eq}
use Rattle.spec.specs.Status.{Answer}
use Rattle.spec.specs.Name.{Name}
use Rattle.spec.specs.Record.{require_replay_protection}
use Rattle.spec.specs.Area.{Format, kv_format, rbp_format, slots, slot_holder, slot_payload, Edit, keep, write, clear}
use Rattle.spec.specs.Interleaving.{Outcome}
use Rattle.spec.specs.Request.{Binding, Effect, Request, World, run}
use Rattle.spec.specs.Decisions.{set_request, get_request, get_info_request, remove_request}
use Rattle.spec.specs.Calls.{Areas, store_world}
use Rattle.spec.specs.Incremental.{finalize_request}
use Rattle.spec.specs.declared.incremental.IncSetHandle.{IncSetHandle}

-- A call on a name, "each call's arguments except card and chip".
pub data Call : Type 0 where
  -- device key, name, flags, IV, data
  set_call : List ℕ → Name → ℕ → List ℕ → List ℕ → Call
  -- device key, name, offset, output as lent
  get_call : List ℕ → Name → ℕ → List ℕ → Call
  -- device key, name
  get_info_call : List ℕ → Name → Call
  -- name
  remove_call : Name → Call
  -- device key, handle, staging buffer: "the book sees its running state and holding buffer too"
  finalize_call : List ℕ → IncSetHandle → List ℕ → Call

abbrev pub request_of : Call → Request
request_of (set_call key name flags iv value) = set_request require_replay_protection key name flags iv value
request_of (get_call key name offset output) = get_request require_replay_protection key name offset output
request_of (get_info_call key name) = get_info_request require_replay_protection key name
request_of (remove_call name) = remove_request require_replay_protection name
request_of (finalize_call key h staging) = finalize_request require_replay_protection key h staging

abbrev pub call_name : Call → Name
call_name c = (request_of c).name

-- ---- a finite table

pub record Item : Type 0 where
  pub name : Name
  pub payload : List ℕ

abbrev pub table_lookup : List Item → Name → Option (List ℕ)
table_lookup [] name = none
table_lookup (i ∷ t) name = cond (bytes_eq name i.name) (some i.payload) (table_lookup t name)

abbrev pub table_remove : List Item → Name → List Item
table_remove [] name = []
table_remove (i ∷ t) name = cond (bytes_eq name i.name) (table_remove t name) (i ∷ table_remove t name)

abbrev pub table_edit : List Item → Name → Edit → List Item
table_edit t name keep = t
table_edit t name (write payload) = record { name = name; payload = payload } ∷ table_remove t name
table_edit t name clear = table_remove t name

abbrev pub cons_item : Option Name → List ℕ → List Item → List Item
cons_item none payload t = t
cons_item (some name) payload t = record { name = name; payload = payload } ∷ t

-- what the slots of an area hold that are not all zero, which in an intact area are the used ones
abbrev pub items_of : Format → List (List ℕ) → List Item
items_of F [] = []
items_of F (s ∷ ss) = cons_item (slot_holder F s) (slot_payload F s) (items_of F ss)

-- ---- the model

pub record Model : Type 0 where
  pub records : List Item
  pub tags : List Item

-- "It starts with what the start's used places (the bytes that the record length counts) and used entries hold."
abbrev pub model_of : List ℕ → List ℕ → Model
model_of kv rbp = record { records = items_of kv_format (slots kv_format kv); tags = items_of rbp_format (slots rbp_format rbp) }

abbrev pub model_binding : Model → Name → Binding
model_binding m name = record { stored = table_lookup m.records name; tag = table_lookup m.tags name }

abbrev pub model_edit : Model → Name → Effect → Model
model_edit m name effect = record { records = table_edit m.records name effect.kv; tags = table_edit m.tags name effect.rbp }

-- "2, 10, and 1 for card or chip don't occur."
abbrev pub model_world : World Model
model_world = record { lengths = λ m. []; damage = λ m. []; binding = model_binding; room = λ m. record { kv = true; rbp = true }; edit = model_edit }

-- "Each step makes the call's tests in the order given above, as later requests change it."
abbrev pub model_step : Model → Call → Outcome Model Answer
model_step m c = run model_world m (request_of c)

-- the store's step: the calls themselves
abbrev pub store_step : Areas → Call → Outcome Areas Answer
store_step s c = run store_world s (request_of c)
