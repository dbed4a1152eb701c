-- The words in which the statements are put, each pinned by a law in the library's own words: a word given another meaning breaks its law here, even
-- where every statement that uses it would still hold. Notion by notion:
--   statuses: `is_listed`, `first_of` (those of bytes and numbers have theirs in crate `buffers`);
--   names: `dedup`; areas: `areas`, `binding_of`, `slot_size`, `slot_count`, `slots`, `names`; sets in chunks: `staged`, `zero_handle`;
--   runs: `answers`, `final`, `shared_step`; merges: `lefts`, `rights`, `Interleaving`.
use Rattle.std.specs.Prelude.{◌≡◌, ◌⊎◌, ◌↔◌, true, false, ℕ, ◌*◌, ◌/◌, ◌≤◌, ◌<◌, length, get_or, take, drop, replicate}
use mathlib.Core.List.{List, [], ◌∷◌, flatten, Memᴰ}
use Rattle.std.proofs.Math.Option.{some}
use Rattle.spec.specs.Status.{is_listed, Test, ◌when◌, first_of}
use Rattle.spec.specs.Name.{Name}
use Rattle.spec.specs.Slots.{dedup}
use Rattle.spec.specs.Area.{Format, kv_format, rbp_format, slot_holder, slot_count, slots, names, lookup}
use Rattle.spec.specs.Calls.{areas, binding_of}
use Rattle.spec.specs.Incremental.{zero_handle, staged}
use Rattle.spec.specs.declared.incremental.IncSetHandle.{IncSetHandle}
use Rattle.spec.specs.Interleaving.{Side, left, right, Tagged, by, lefts, rights, Interleaving, Outcome, answers, final, shared_step}

pub record TestLaws : Type 0 where
  pub listed : (s : ℕ) → (is_listed s ≡ true) ↔ ((s ≤ 14) ⊎ ((19 ≤ s) × (s ≤ 21)))
  -- of tests in order, the first that says so decides
  pub none_says : first_of [] ≡ 0
  pub says : (n : ℕ) (rest : List Test) → first_of ((n when true) ∷ rest) ≡ n
  pub passes : (n : ℕ) (rest : List Test) → first_of ((n when false) ∷ rest) ≡ first_of rest

-- equal names once: the same names, and none at two places
pub record DedupLaws (l : List Name) : Type 0 where
  pub same : (name : Name) → Memᴰ name (dedup l) ↔ Memᴰ name l
  pub once : (i j : ℕ) → i < length (dedup l) → j < length (dedup l) → get_or (dedup l) i [] ≡ get_or (dedup l) j [] → i ≡ j

-- an area of slots of w bytes
pub record SlotLaws (F : Format) (w : ℕ) : Type 0 where
  pub size : F.slot_size ≡ w
  -- as many as fit in its length
  pub count : (area : List ℕ) → slot_count F area ≡ length area / w
  pub all : (area : List ℕ) → length (slots F area) ≡ slot_count F area
  -- slot i is the w bytes from i * w on
  pub bytes : (area : List ℕ) (i : ℕ) → i < slot_count F area → get_or (slots F area) i [] ≡ take w (drop (i * w) area)
  -- where no byte is besides, the slots joined are the area
  pub joined : (area : List ℕ) (k : ℕ) → length area ≡ k * w → flatten (slots F area) ≡ area
  -- the names held are those of the slots
  pub held : (area : List ℕ) (name : Name)
      → Memᴰ name (names F area) ↔ ((i : ℕ) × (i < slot_count F area) × (slot_holder F (take w (drop (i * w) area)) ≡ some name))

module _ {State Call Answer : Type 0} (step : State → Call → Outcome State Answer) where
  pub record RunLaws : Type 0 where
    -- each call is answered, on the state that those before it leave
    pub no_answer : (s : State) → answers step s [] ≡ []
    pub next_answer : (s : State) (c : Call) (cs : List Call) → answers step s (c ∷ cs) ≡ (step s c).answer ∷ answers step (step s c).after cs
    -- the state that the last call leaves
    pub no_change : (s : State) → final step s [] ≡ s
    pub next_state : (s : State) (c : Call) (cs : List Call) → final step s (c ∷ cs) ≡ final step (step s c).after cs
    -- a shared step answers the client that called, and leaves what the step leaves
    pub shared_answer : (s : State) (d : Side) (c : Call) → (shared_step step s (by d c)).answer ≡ by d (step s c).answer
    pub shared_state : (s : State) (d : Side) (c : Call) → (shared_step step s (by d c)).after ≡ (step s c).after

-- each client's part of a tagged list, in its order; and every tagged list merges its two parts, and no others. So there are merges of every length
-- and order: `by left a ∷ l` merges `a ∷ ls` and rs where l merges ls and rs.
pub record MergeLaws (A : Type 0) : Type 0 where
  pub lefts_none : ◌≡◌ {A = List A} (lefts []) []
  pub lefts_left : (a : A) (l : List (Tagged A)) → lefts (by left a ∷ l) ≡ a ∷ lefts l
  pub lefts_right : (a : A) (l : List (Tagged A)) → lefts (by right a ∷ l) ≡ lefts l
  pub rights_none : ◌≡◌ {A = List A} (rights []) []
  pub rights_left : (a : A) (l : List (Tagged A)) → rights (by left a ∷ l) ≡ rights l
  pub rights_right : (a : A) (l : List (Tagged A)) → rights (by right a ∷ l) ≡ a ∷ rights l
  pub merged : (ls rs : List A) (l : List (Tagged A)) → Interleaving ls rs l ↔ ((lefts l ≡ ls) × (rights l ≡ rs))

pub record Vocabulary : Type 1 where
  pub statuses : TestLaws
  pub distinct_names : (l : List Name) → DedupLaws l
  -- card and chip, and what a name has there
  pub both : (kv rbp : List ℕ) → areas kv rbp ≡ record { kv = kv; rbp = rbp }
  pub contents : (kv rbp : List ℕ) (name : Name) → binding_of kv rbp name ≡ record { stored = lookup kv_format kv name; tag = lookup rbp_format rbp name }
  -- handle and staging buffer; 02, No. 2: "an all-zero state"
  pub chunked : (h : IncSetHandle) (staging : List ℕ) → staged h staging ≡ record { handle = h; staging = staging }
  pub is_all_zero : zero_handle
      ≡ record { name = replicate 64 0; name_len = 0; flags = 0; iv = replicate 8 0; final_data_size = 0; offset = 0 }
  pub kv_slots : SlotLaws kv_format 584
  pub rbp_slots : SlotLaws rbp_format 82
  pub runs : {State Call Answer : Type 0} (step : State → Call → Outcome State Answer) → RunLaws step
  pub merges : (A : Type 0) → MergeLaws A
