-- 01, "Key files": writing, keeping and loading, as total functions of what is lent: the answer and, of keeping, card and chip after it.
--   format_tests, write_key_file              writing
--   save_key                                01: "keeping"
--   key_record, load_tests, load_key          01: "loading"
use Rattle.std.specs.Prelude.{cond, not, List, [], ◌∷◌, ℕ, leb, length}
use Rattle.buffers.specs.Bytes.{zeros}
use Rattle.spec.specs.Status.{is_ok, Test, ◌when◌, first_of, Answer, buffer_answer, bytes_given}
use Rattle.spec.specs.Name.{key_name}
use Rattle.spec.specs.Interleaving.{Outcome}
use Rattle.spec.specs.Calls.{Areas, areas, store_set, store_get}
use Rattle.keys.specs.KeyFile.{max_material, max_key_file, format_key_file, key_file_valid}
use Rattle.keys.specs.declared.key_file.KeyAttributes.{KeyAttributes}

-- "Writing a file into a key buffer: 1, then 13"
unfoldable pub format_tests : List ℕ → List ℕ → List Test
format_tests material key_buf = (1 when not (leb max_key_file (length key_buf))) ∷ (13 when not (leb (length material) max_material)) ∷ []

-- "done writes the file at its front, the count is the file's length, the rest is as before"
unfoldable pub write_key_file : KeyAttributes → List ℕ → List ℕ → Answer
write_key_file a material key_buf = buffer_answer (first_of (format_tests material key_buf)) (format_key_file a material) key_buf

-- "Keeping: 13 for the material, then as set." A bad identifier has the empty name, which set refuses where 3 stands.
unfoldable pub save_key : List ℕ → List ℕ → List ℕ → ℕ → KeyAttributes → List ℕ → ℕ → List ℕ → Outcome Areas Answer
save_key kv rbp key id a material flags iv =
    cond (leb (length material) max_material)
    (store_set kv rbp key (key_name id) flags iv (format_key_file a material))
    (record { answer = record { status = 13; numbers = []; output = [] }; after = areas kv rbp })

-- what a get at offset 0 gives of a key's record; no record has more than 480 bytes of data
unfoldable pub key_record : List ℕ → List ℕ → List ℕ → ℕ → Answer
key_record kv rbp key id = (store_get kv rbp key (key_name id) 0 (zeros max_key_file)).answer

-- "Loading: as get (identifier in the name's place), then 13"; a key buffer under 480 is a wrong length, 1, with the get's own
unfoldable pub load_tests : List ℕ → List ℕ → List ℕ → ℕ → List ℕ → List Test
load_tests kv rbp key id key_buf =
    let g = key_record kv rbp key id in
    (1 when not (leb max_key_file (length key_buf)))
    ∷ (g.status when not (is_ok g.status))
    ∷ (13 when not (key_file_valid (bytes_given g)))
    ∷ []

unfoldable pub load_key : List ℕ → List ℕ → List ℕ → ℕ → List ℕ → Answer
load_key kv rbp key id key_buf = buffer_answer (first_of (load_tests kv rbp key id key_buf)) (bytes_given (key_record kv rbp key id)) key_buf
