-- 02, No. 2: a set that arrives in chunks ("packets"). A handle ("running state") and a staging buffer ("holding buffer") keep what has come.
--   handle_name, staged_data                               the name that a handle gives, and the data that are held
--   staging_sized, name_fits, handle_tests                 the tests of the staging buffer's length, and of a handle
--   zero_handle, start_tests, new_handle, set_start        02: "begin"
--   Staged, staged, add_tests, advanced, set_add_data      02: "feed"; handle and staging buffer after it
--   finalize_tests, finalize_request, store_set_finalize   02: "finish"
--   handle_bytes, handle_of                                a handle in 88 bytes, and read from them
use Rattle.std.specs.Prelude.{Bool, not, ◌&&◌, List, [], ◌∷◌, ◌++◌, ℕ, ◌+◌, eqb, leb, length, take, drop}
use Rattle.buffers.specs.Bytes.{zeros, zero_fill, le_bytes, u32_at, put_at}
use Rattle.spec.specs.Status.{Test, ◌when◌, first_of, on_ok, Answer, answer_of}
use Rattle.spec.specs.Name.{Name}
use Rattle.spec.specs.Record.{require_replay_protection, max_data_size}
use Rattle.spec.specs.Interleaving.{Outcome}
use Rattle.spec.specs.Request.{Request, run}
use Rattle.spec.specs.Decisions.{iv_sized, changing, set_request}
use Rattle.spec.specs.Calls.{Areas, areas, store_world}
use Rattle.spec.specs.declared.incremental.IncSetHandle.{IncSetHandle}

abbrev pub handle_name : IncSetHandle → Name
handle_name h = take h.name_len h.name

-- "the bytes then held"
abbrev pub staged_data : IncSetHandle → List ℕ → List ℕ
staged_data h staging = take h.offset staging

-- "a lent holding buffer of 480 bytes"
abbrev pub staging_sized : List ℕ → Bool
staging_sized staging = eqb (length staging) 480

abbrev pub name_fits : IncSetHandle → Bool
name_fits h = leb h.name_len 64

-- "19 for a running state whose name length is over 64, whose declared size is over 480 or whose count is past it"
abbrev pub handle_tests : IncSetHandle → List Test
handle_tests h =
    (19 when not (name_fits h))
    ∷ (19 when not (leb h.final_data_size max_data_size))
    ∷ (19 when not (leb h.offset h.final_data_size))
    ∷ []

-- ---- begin

-- "an all-zero state"
abbrev pub zero_handle : IncSetHandle
zero_handle = record { name = zeros 64; name_len = 0; flags = 0; iv = zeros 8; final_data_size = 0; offset = 0 }

-- "1 comes first"; "3 for a name over 64 bytes, then 5 for a declared size over 480"
abbrev pub start_tests : Name → List ℕ → ℕ → List Test
start_tests name iv size = (1 when not (iv_sized iv)) ∷ (3 when not (leb (length name) 64)) ∷ (5 when not (leb size max_data_size)) ∷ []

-- "begun with name, flags, IV and declared size"
abbrev pub new_handle : Name → ℕ → List ℕ → ℕ → IncSetHandle
new_handle name flags iv size =
    record { name = zero_fill 64 name; name_len = length name; flags = flags; iv = iv; final_data_size = size; offset = 0 }

-- "refused, it returns an all-zero state"
unfoldable pub set_start : Name → ℕ → List ℕ → ℕ → Outcome IncSetHandle Answer
set_start name flags iv size =
    let status = first_of (start_tests name iv size) in
    record { answer = answer_of status [] [] []; after = on_ok status (new_handle name flags iv size) zero_handle }

-- ---- feed

pub record Staged : Type 0 where
  pub handle : IncSetHandle
  pub staging : List ℕ

abbrev pub staged : IncSetHandle → List ℕ → Staged
staged h staging = record { handle = h; staging = staging }

-- "A packet past the declared size [..] gives 19."
abbrev pub add_tests : IncSetHandle → List ℕ → List ℕ → List Test
add_tests h staging chunk = (1 when not (staging_sized staging)) ∷ (handle_tests h ++ (19 when not (leb (h.offset + length chunk) h.final_data_size)) ∷ [])

-- the handle with n bytes more held
abbrev pub advanced : IncSetHandle → ℕ → IncSetHandle
advanced h n = record {
  name = h.name;
  name_len = h.name_len;
  flags = h.flags;
  iv = h.iv;
  final_data_size = h.final_data_size;
  offset = h.offset + n;
}

-- "the packet straight after the bytes held, the rest as before; the count grows by its length"
unfoldable pub set_add_data : IncSetHandle → List ℕ → List ℕ → Outcome Staged Answer
set_add_data h staging chunk =
    let status = first_of (add_tests h staging chunk) in
    let held = staged (advanced h (length chunk)) (put_at staging h.offset chunk) in
    record { answer = answer_of status [] [] []; after = on_ok status held (staged h staging) }

-- ---- finish

-- "a finish short of it [gives 19]"
abbrev pub finalize_tests : IncSetHandle → List ℕ → List Test
finalize_tests h staging = (1 when not (staging_sized staging)) ∷ (handle_tests h ++ (19 when not (eqb h.offset h.final_data_size)) ∷ [])

-- "19 stands straight after 1; then [..] it answers and stores what one set of the bytes then held would". A name that is longer than a handle's 64
-- bytes is no good one.
abbrev pub finalize_request : (ℕ → Bool) → List ℕ → IncSetHandle → List ℕ → Request
finalize_request protected key h staging =
    let set = set_request protected key (handle_name h) h.flags h.iv (staged_data h staging) in
    changing set.name (set.early ++ finalize_tests h staging) set.tests set.effect
    (record { kv = name_fits h && set.puts.kv; rbp = name_fits h && set.puts.rbp })

unfoldable pub store_set_finalize : List ℕ → List ℕ → List ℕ → IncSetHandle → List ℕ → Outcome Areas Answer
store_set_finalize kv rbp key h staging = run store_world (areas kv rbp) (finalize_request require_replay_protection key h staging)

-- ---- a handle in bytes

-- name (64), name length (4), flags (4), IV (8), declared size (4), count (4)
unfoldable pub handle_bytes : IncSetHandle → List ℕ
handle_bytes h =
    h.name ++ (le_bytes 4 h.name_len ++ (le_bytes 4 h.flags ++ (h.iv ++ (le_bytes 4 h.final_data_size ++ le_bytes 4 h.offset))))

unfoldable pub handle_of : List ℕ → IncSetHandle
handle_of b = record {
  name = take 64 b;
  name_len = u32_at b 64;
  flags = u32_at b 68;
  iv = take 8 (drop 72 b);
  final_data_size = u32_at b 80;
  offset = u32_at b 84;
}
