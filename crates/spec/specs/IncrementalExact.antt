-- Demand 2 for a set that arrives in chunks, and that it makes no difference how the data were divided.
--   Startable, StartExact                      begin
--   Addable, AddExact                          feed
--   Complete, Finalizable, FinalizeExact       finish
--   add_step, taken, Divided, HoweverDivided   any chunks, one after another, then a finish
--   HandleFits, HandleLayout, HandleNumerals   a handle's bytes
use Rattle.std.specs.Prelude.{◌≡◌, ◌≢◌, true, cond, not, ℕ, ◌+◌, ◌-◌, ◌^◌, ◌≤◌, ◌<◌, eqb, leb, length, take, drop, replicate}
use mathlib.Core.List.{List, [], ◌∷◌, ◌++◌, flatten}
use Rattle.buffers.specs.Bytes.{le_bytes}
use Rattle.spec.specs.Status.{is_ok, ◌when◌, first_of, Answer}
use Rattle.spec.specs.Name.{Name}
use Rattle.spec.specs.Area.{kv_format, rbp_format, sized}
use Rattle.spec.specs.Interleaving.{Outcome, final}
use Rattle.spec.specs.Calls.{Areas, store_set}
use Rattle.spec.specs.Incremental.{zero_handle, set_start, Staged, staged, set_add_data, store_set_finalize, handle_bytes, handle_of}
use Rattle.spec.specs.Demand2.{Exact, done, Settable}
use Rattle.spec.specs.Shapes.{AreBytes}
use Rattle.spec.specs.declared.incremental.IncSetHandle.{IncSetHandle}

-- ---- begin

pub record Startable (name iv : List ℕ) (size : ℕ) : Type 0 where
  pub iv_is_sized : length iv ≡ 8
  pub name_short : length name ≤ 64
  pub size_small : size ≤ 480

-- a handle of these parts, of which n bytes are held
abbrev pub handle : Name → ℕ → List ℕ → ℕ → ℕ → IncSetHandle
handle name flags iv size n = record {
  name = name ++ replicate (64 - length name) 0;
  name_len = length name;
  flags = flags;
  iv = iv;
  final_data_size = size;
  offset = n;
}

pub record StartExact (name : Name) (flags : ℕ) (iv : List ℕ) (size : ℕ) : Type 0 where
  -- the name's bytes and the flags are not judged here
  pub exact : let o = set_start name flags iv size in Exact o (Startable name iv size) (λ h. o ≡ done (handle name flags iv size 0) [] [])
  -- "Begin gives 3 for a name over 64 bytes, then 5 for a declared size over 480"; where no order is given, "1 comes first"
  pub number : (set_start name flags iv size).answer.status
      ≡ first_of ((1 when not (eqb (length iv) 8)) ∷ (3 when not (leb (length name) 64)) ∷ (5 when not (leb size 480)) ∷ [])

-- ---- feed

pub record Addable (h : IncSetHandle) (staging chunk : List ℕ) : Type 0 where
  pub staging_is_sized : length staging ≡ 480
  pub name_short : h.name_len ≤ 64
  pub size_small : h.final_data_size ≤ 480
  pub in_range : h.offset + length chunk ≤ h.final_data_size

-- "the packet straight after the bytes held, the rest as before; the count grows by its length"
abbrev pub extended : IncSetHandle → List ℕ → List ℕ → Staged
extended h staging chunk = record {
  handle = record {
    name = h.name;
    name_len = h.name_len;
    flags = h.flags;
    iv = h.iv;
    final_data_size = h.final_data_size;
    offset = h.offset + length chunk;
  };
  staging = take h.offset staging ++ (chunk ++ drop (h.offset + length chunk) staging);
}

pub record AddExact (h : IncSetHandle) (staging chunk : List ℕ) : Type 0 where
  pub exact : let o = set_add_data h staging chunk in Exact o (Addable h staging chunk) (λ a. o ≡ done (extended h staging chunk) [] [])
  pub length_first : length staging ≢ 480 → (set_add_data h staging chunk).answer.status ≡ 1
  pub else_19 : length staging ≡ 480 → (set_add_data h staging chunk).answer.status ≢ 0 → (set_add_data h staging chunk).answer.status ≡ 19

-- ---- finish

-- neither 1 for the staging buffer nor 19 is to be given: the handle is not broken, and all that was declared is held
pub record Complete (h : IncSetHandle) (staging : List ℕ) : Type 0 where
  pub staging_is_sized : length staging ≡ 480
  pub name_short : h.name_len ≤ 64
  pub size_small : h.final_data_size ≤ 480
  pub all_held : h.offset ≡ h.final_data_size

module _ (kv rbp key : List ℕ) (h : IncSetHandle) (staging : List ℕ) where
  -- "one set of the bytes then held [..], on the card as it then is"
  abbrev pub one_set : Outcome Areas Answer
  one_set = store_set kv rbp key (take h.name_len h.name) h.flags h.iv (take h.offset staging)

  pub record Finalizable : Type 0 where
    pub complete : Complete h staging
    pub settable : Settable kv rbp key (take h.name_len h.name) h.flags h.iv (take h.offset staging)

  pub record FinalizeExact : Type 0 where
    pub exact : Exact (store_set_finalize kv rbp key h staging) Finalizable (λ f. store_set_finalize kv rbp key h staging ≡ one_set)
    -- refusals too: where the buffer and the handle are in order, it is that set
    pub as_set : Complete h staging → store_set_finalize kv rbp key h staging ≡ one_set
    -- "At the finish 19 stands straight after 1", before 2 and all else that a set answers; every handle's IV has 8 bytes
    pub number : length h.iv ≡ 8 → (store_set_finalize kv rbp key h staging).answer.status
        ≡ first_of ((1 when not (sized kv_format kv)) ∷ (1 when not (sized rbp_format rbp)) ∷ (1 when not (eqb (length key) 16))
        ∷ (1 when not (eqb (length staging) 480)) ∷ (19 when not (leb h.name_len 64)) ∷ (19 when not (leb h.final_data_size 480))
        ∷ (19 when not (eqb h.offset h.final_data_size)) ∷ (one_set.answer.status when true) ∷ [])

-- ---- "however the data were divided"

abbrev pub add_step : Staged → List ℕ → Outcome Staged Answer
add_step s chunk = set_add_data s.handle s.staging chunk

-- the bytes of those chunks that are done, in order
abbrev pub taken : Staged → List (List ℕ) → List ℕ
taken s [] = []
taken s (chunk ∷ chunks) = cond (is_ok (add_step s chunk).answer.status) chunk [] ++ taken (add_step s chunk).after chunks

-- from a done begin, any list of chunks
module _ (name : Name) (flags : ℕ) (iv : List ℕ) (size : ℕ) (staging : List ℕ) (chunks : List (List ℕ)) where
  abbrev pub begun : Staged
  begun = staged (set_start name flags iv size).after staging

  abbrev pub fed : Staged
  fed = final add_step begun chunks

  abbrev pub value : List ℕ
  value = taken begun chunks

  pub record Divided : Type 0 where
    -- what is then held, and that chunks that do not go past the declared size are all done
    pub held : fed ≡ staged (handle name flags iv size (length value)) (value ++ drop (length value) staging)
    pub all_taken : length (flatten chunks) ≤ size → value ≡ flatten chunks
    -- "it answers and stores what one set of the bytes then held would", whatever card, chip and device key are at the finish
    pub as_one_set : length value ≡ size → (kv rbp key : List ℕ)
        → store_set_finalize kv rbp key fed.handle fed.staging ≡ store_set kv rbp key name flags iv value

abbrev pub HoweverDivided : Type 0
HoweverDivided = (name : Name) (flags : ℕ) (iv : List ℕ) (size : ℕ) (staging : List ℕ) (chunks : List (List ℕ))
    → (set_start name flags iv size).answer.status ≡ 0 → length staging ≡ 480 → Divided name flags iv size staging chunks

-- ---- a handle in bytes

-- what every value of the struct has
pub record HandleFits (h : IncSetHandle) : Type 0 where
  pub name : length h.name ≡ 64
  pub name_len : h.name_len < 2 ^ 32
  pub flags : h.flags < 2 ^ 32
  pub iv : length h.iv ≡ 8
  pub final_data_size : h.final_data_size < 2 ^ 32
  pub offset : h.offset < 2 ^ 32

pub record HandleLayout : Type 0 where
  -- name (64), name length (4), flags (4), IV (8), declared size (4), count (4)
  pub bytes : (h : IncSetHandle) → handle_bytes h
      ≡ h.name ++ (le_bytes 4 h.name_len ++ (le_bytes 4 h.flags ++ (h.iv ++ (le_bytes 4 h.final_data_size ++ le_bytes 4 h.offset))))
  -- no handle is lost in its bytes, and any 88 bytes are some handle's
  pub read_back : (h : IncSetHandle) → HandleFits h → handle_of (handle_bytes h) ≡ h
  pub written_back : (b : List ℕ) → length b ≡ 88 → AreBytes b → handle_bytes (handle_of b) ≡ b

pub record HandleNumerals : Type 0 where
  -- "all-zero"
  pub zero : handle_bytes zero_handle ≡ replicate 88 0
  -- one handle in numerals that are all unlike
  pub one : handle_bytes (handle (0x61 ∷ 0x62 ∷ []) 0x04030201 (0x31 ∷ 0x32 ∷ 0x33 ∷ 0x34 ∷ 0x35 ∷ 0x36 ∷ 0x37 ∷ 0x38 ∷ []) 0x14131211 0x24232221)
      ≡ 0x61 ∷ 0x62 ∷ (replicate 62 0 ++ 0x02 ∷ 0x00 ∷ 0x00 ∷ 0x00 ∷ 0x01 ∷ 0x02 ∷ 0x03 ∷ 0x04
      ∷ 0x31 ∷ 0x32 ∷ 0x33 ∷ 0x34 ∷ 0x35 ∷ 0x36 ∷ 0x37 ∷ 0x38 ∷ 0x11 ∷ 0x12 ∷ 0x13 ∷ 0x14 ∷ 0x21 ∷ 0x22 ∷ 0x23 ∷ 0x24 ∷ [])

pub record Incremental : Type 0 where
  pub start : (name : Name) (flags : ℕ) (iv : List ℕ) (size : ℕ) → StartExact name flags iv size
  pub add : (h : IncSetHandle) (staging chunk : List ℕ) → AddExact h staging chunk
  pub finalize : (kv rbp key : List ℕ) (h : IncSetHandle) (staging : List ℕ) → FinalizeExact kv rbp key h staging
  pub divided : HoweverDivided
  pub layout : HandleLayout
  pub numerals : HandleNumerals
