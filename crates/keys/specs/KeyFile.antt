-- 01, "Key files": the later layout of 004, as a function from attributes and material to bytes, and back.
--   mark, key_file_header, format_key_file   a file as it is written
--   key_file_valid, parse_key_file           which bytes are a file, and what it says
--   file_answer                              what parsing answers, in numbers
use Rattle.std.specs.Prelude.{Bool, cond, ◌&&◌, List, [], ◌∷◌, ◌++◌, ℕ, ◌+◌, eqb, leb, length, take, Result, Ok, Err}
use Rattle.buffers.specs.Bytes.{bytes_eq, le_bytes, u32_at}
use Rattle.store.specs.Answers.{status_of, value_or}
use Rattle.store.specs.declared.status.Refusal.{Refusal}
use Rattle.store.specs.declared.status.Refusal.TheVariants.{InvalidKeyFile}
use Rattle.keys.specs.declared.key_file.KeyAttributes.{KeyAttributes}
use Rattle.keys.specs.declared.key_file.KeyFile.{KeyFile}

-- "PSA\0KEY\0"
abbrev pub mark : List ℕ
mark = 0x50 ∷ 0x53 ∷ 0x41 ∷ 0x00 ∷ 0x4b ∷ 0x45 ∷ 0x59 ∷ 0x00 ∷ []

-- 01: "36 bytes and at most 444 of material; a file is at most 480"
abbrev pub header_size : ℕ
header_size = 36

abbrev pub max_material : ℕ
max_material = 444

abbrev pub max_key_file : ℕ
max_key_file = 480

-- "then 4 bytes each: version 0, lifetime, type, usage flags, algorithm, enrollment algorithm, material length"
unfoldable pub key_file_header : KeyAttributes → ℕ → List ℕ
key_file_header a n =
    mark ++ (le_bytes 4 0 ++ (le_bytes 4 a.lifetime ++ (le_bytes 4 a.key_type ++ (le_bytes 4 a.usage ++ (le_bytes 4 a.alg
    ++ (le_bytes 4 a.enrollment_alg ++ le_bytes 4 n))))))

-- "then the material"
unfoldable pub format_key_file : KeyAttributes → List ℕ → List ℕ
format_key_file a material = key_file_header a (length material) ++ material

-- the fields of a file
abbrev pub version_of : List ℕ → ℕ
version_of f = u32_at f 8

abbrev pub attributes_of : List ℕ → KeyAttributes
attributes_of f =
    record { lifetime = u32_at f 12; key_type = u32_at f 16; usage = u32_at f 20; alg = u32_at f 24; enrollment_alg = u32_at f 28 }

abbrev pub material_length_of : List ℕ → ℕ
material_length_of f = u32_at f 32

-- "Wrong magic, other version, short header, trailing or missing bytes, or more material: 13. Type and policy numbers are carried and not judged."
unfoldable pub key_file_valid : List ℕ → Bool
key_file_valid f =
    leb header_size (length f) && (bytes_eq (take 8 f) mark && (eqb (version_of f) 0 && (leb (material_length_of f) max_material
    && eqb (length f) (header_size + material_length_of f))))

-- the attributes and how many bytes of material stand behind the header
unfoldable pub parse_key_file : List ℕ → Result KeyFile Refusal
parse_key_file f = cond (key_file_valid f) (Ok (record { attributes = attributes_of f; material_len = material_length_of f })) (Err InvalidKeyFile)

-- the same in numbers: "Every refusal returns 0 for [..] every other returned number but its own"
pub record FileAnswer : Type 0 where
  pub status : ℕ
  pub attributes : KeyAttributes
  pub material_len : ℕ

abbrev pub no_file : KeyFile
no_file = record { attributes = record { lifetime = 0; key_type = 0; usage = 0; alg = 0; enrollment_alg = 0 }; material_len = 0 }

abbrev pub file_answer : Result KeyFile Refusal → FileAnswer
file_answer r = let file = value_or no_file r in record { status = status_of r; attributes = file.attributes; material_len = file.material_len }
