-- What holds of key files and of the calls on them, as statements. They are proved in `proofs/`.
--   FileLayout, ParseExact                                    a file's bytes; which are accepted, and what is read
--   ReaderExact, StepsExact                                   the reader, step by step
--   KeyNames                                                  the name of a key, digit by digit
--   KeyCallsWell, KeyRefusals                                 demand 1; which number is given
--   FormatGives, LoadReady, LoadExact, SaveExact, SaveLoads   what a done call gives, and when it is done
use Rattle.std.specs.Prelude.{◌≡◌, ◌≢◌, ◌↔◌, true, List, [], ◌∷◌, ◌++◌, ℕ, ◌+◌, ◌-◌, ◌/◌, ◌%◌, ◌^◌, ◌≤◌, ◌<◌, length, get_or, take, drop, replicate, Ok, Err, IsOk}
use Rattle.std.specs.Borrow.{Bor}
use Rattle.buffers.specs.Bytes.{le_bytes, u32_at}
use Rattle.spec.specs.Status.{Answer}
use Rattle.spec.specs.Name.{valid_name, key_name}
use Rattle.spec.specs.Calls.{Areas, areas, store_set, store_get}
use Rattle.spec.specs.Demand1.{Well}
use Rattle.spec.specs.Demand2.{Readable, opened, Stores}
use Rattle.spec.specs.Shapes.{AreBytes}
use Rattle.store.specs.declared.status.Refusal.TheVariants.{InvalidKeyFile}
use Rattle.keys.specs.KeyFile.{mark, format_key_file, parse_key_file, file_answer}
use Rattle.keys.specs.Reader.{Taken, mark_at, field_at, part_at, read_header, read_material, read_on}
use Rattle.keys.specs.declared.reader.KeyFileReader.{KeyFileReader}
use Rattle.keys.specs.Calls.{write_key_file, save_key, load_key}
use Rattle.keys.specs.declared.key_file.KeyAttributes.{KeyAttributes}

-- attributes that a file's fields can hold, as every `u32` can
pub record Fits (a : KeyAttributes) : Type 0 where
  pub lifetime : a.lifetime < 2 ^ 32
  pub key_type : a.key_type < 2 ^ 32
  pub usage : a.usage < 2 ^ 32
  pub alg : a.alg < 2 ^ 32
  pub enrollment_alg : a.enrollment_alg < 2 ^ 32

-- 01's rules for a file, one by one: the version stands at 8, the material's length at 32
pub record WellFormed (f : List ℕ) : Type 0 where
  pub header : 36 ≤ length f
  pub marked : take 8 f ≡ mark
  pub version_0 : u32_at f 8 ≡ 0
  pub material_short : u32_at f 32 ≤ 444
  pub whole : length f ≡ 36 + u32_at f 32

-- a file as it is written
pub record WrittenFile (f : List ℕ) : Type 0 where
  pub attributes : KeyAttributes
  pub material : List ℕ
  pub fits : Fits attributes
  pub short : length material ≤ 444
  pub bytes : f ≡ format_key_file attributes material

-- ---- a file, and what it says

-- the bytes of a file in order, of any attributes and material; and one file in numerals
pub record FileLayout : Type 0 where
  pub bytes : (a : KeyAttributes) (material : List ℕ) → format_key_file a material
      ≡ 0x50 ∷ 0x53 ∷ 0x41 ∷ 0x00 ∷ 0x4b ∷ 0x45 ∷ 0x59 ∷ 0x00 ∷ 0x00 ∷ 0x00 ∷ 0x00 ∷ 0x00
      ∷ (le_bytes 4 a.lifetime ++ (le_bytes 4 a.key_type ++ (le_bytes 4 a.usage ++ (le_bytes 4 a.alg ++ (le_bytes 4 a.enrollment_alg
      ++ (le_bytes 4 (length material) ++ material))))))
  pub one : format_key_file (record { lifetime = 0x04030201; key_type = 0x14131211; usage = 0x24232221; alg = 0x34333231; enrollment_alg = 0x44434241 })
      (0x6d ∷ 0x6e ∷ [])
      ≡ 0x50 ∷ 0x53 ∷ 0x41 ∷ 0x00 ∷ 0x4b ∷ 0x45 ∷ 0x59 ∷ 0x00 ∷ 0x00 ∷ 0x00 ∷ 0x00 ∷ 0x00 ∷ 0x01 ∷ 0x02 ∷ 0x03 ∷ 0x04 ∷ 0x11 ∷ 0x12 ∷ 0x13 ∷ 0x14
      ∷ 0x21 ∷ 0x22 ∷ 0x23 ∷ 0x24 ∷ 0x31 ∷ 0x32 ∷ 0x33 ∷ 0x34 ∷ 0x41 ∷ 0x42 ∷ 0x43 ∷ 0x44 ∷ 0x02 ∷ 0x00 ∷ 0x00 ∷ 0x00 ∷ 0x6d ∷ 0x6e ∷ []

pub record ParseExact : Type 0 where
  -- bytes are accepted exactly where they are a file as it is written, and nothing else is
  pub condition : (f : List ℕ) → AreBytes f → (IsOk (parse_key_file f)) ↔ WrittenFile f
  pub rules : (f : List ℕ) → (IsOk (parse_key_file f)) ↔ WellFormed f
  -- what was written is given back
  pub gives : (a : KeyAttributes) (material : List ℕ) → Fits a → length material ≤ 444
      → parse_key_file (format_key_file a material) ≡ Ok (record { attributes = a; material_len = length material })
  -- 13 is the only refusal, and has 0 for every number
  pub refusal : (f : List ℕ) → (¬ WellFormed f) → parse_key_file f ≡ Err InvalidKeyFile
  pub refusal_numbers : (f : List ℕ) → (¬ WellFormed f) → file_answer (parse_key_file f)
      ≡ record { status = 13; attributes = record { lifetime = 0; key_type = 0; usage = 0; alg = 0; enrollment_alg = 0 }; material_len = 0 }

-- who reads the header one field after the other comes to place 36 exactly where there is a header, has then read its fields, and takes the material
-- behind it; where there is none, the reading is refused
pub record ReaderExact : Type 0 where
  pub condition : (file : Bor (List ℕ)) → ((read_header file).after.pos ≡ 36) ↔ ((36 ≤ length file.now) × (take 8 file.now ≡ mark))
  pub fields : (file : Bor (List ℕ)) → (read_header file).after.pos ≡ 36 → let f = file.now in read_header file
      ≡ record {
        answer = Ok (record {
          version = u32_at f 8;
          attributes = record { lifetime = u32_at f 12; key_type = u32_at f 16; usage = u32_at f 20; alg = u32_at f 24; enrollment_alg = u32_at f 28 };
          material_len = u32_at f 32;
        });
        after = record { file = file; pos = 36 };
      }
  pub material : (file : Bor (List ℕ)) → (read_header file).after.pos ≡ 36
      → read_material file ≡ part_at (record { file = file; pos = 36 }) (u32_at file.now 32)
  pub refused : (file : Bor (List ℕ)) → (¬ ((36 ≤ length file.now) × (take 8 file.now ≡ mark))) → (read_header file).answer ≡ Err InvalidKeyFile
  -- who reads on after a refused step comes to place 36 in just the same files
  pub read_on : (file : Bor (List ℕ)) → ((read_on file).pos ≡ 36) ↔ ((36 ≤ length file.now) × (take 8 file.now ≡ mark))

-- a step that takes n bytes: done where its fact holds, with its value and the reader behind them; else 13, no value, and the reader as it was
pub record Step {A : Type 0} (r : KeyFileReader) (n : ℕ) (value : A) (fact : Type 0) (t : Taken A) : Type 0 where
  pub done : fact → t ≡ record { answer = Ok value; after = record { file = r.file; pos = r.pos + n } }
  pub refused : (¬ fact) → t ≡ record { answer = Err InvalidKeyFile; after = r }

pub record StepsExact : Type 0 where
  pub of_mark : (r : KeyFileReader) → Step r 8 tt ((r.pos + 8 ≤ length r.file.now) × (take 8 (drop r.pos r.file.now) ≡ mark)) (mark_at r)
  pub of_field : (r : KeyFileReader) → Step r 4 (u32_at r.file.now r.pos) (r.pos + 4 ≤ length r.file.now) (field_at r)
  -- the part begins at its place in the lent file
  pub of_part : (r : KeyFileReader) (n : ℕ)
      → Step r n (record { ref_ptr = (r.file.ref_ptr.0, r.file.ref_ptr.1 + r.pos); now = take n (drop r.pos r.file.now) }) (r.pos + n ≤ length r.file.now)
      (part_at r n)
  -- the number at a place is the one whose four bytes stand there
  pub number : (before rest : List ℕ) (n : ℕ) → n < 2 ^ 32 → u32_at (before ++ (le_bytes 4 n ++ rest)) (length before) ≡ n
  -- the material of a file is the part behind its header
  pub material : (a : KeyAttributes) (material : List ℕ) (r : KeyFileReader) → r.file.now ≡ format_key_file a material → r.pos ≡ 36
      → (part_at r (length material)).answer ≡ Ok (record { ref_ptr = (r.file.ref_ptr.0, r.file.ref_ptr.1 + 36); now = material })

-- ---- the name of a key

pub record KeyNames : Type 0 where
  pub none_low : key_name 0 ≡ []
  pub none_high : (id : ℕ) → 0xfffeffff < id → key_name id ≡ []
  pub sixteen : (id : ℕ) → 1 ≤ id → id ≤ 0xfffeffff → length (key_name id) ≡ 16
  -- the highest first, each one of "0123456789abcdef"
  pub digits : (id i : ℕ) → 1 ≤ id → id ≤ 0xfffeffff → i < 16
      → get_or (key_name id) i 0
      ≡ get_or (0x30 ∷ 0x31 ∷ 0x32 ∷ 0x33 ∷ 0x34 ∷ 0x35 ∷ 0x36 ∷ 0x37 ∷ 0x38 ∷ 0x39 ∷ 0x61 ∷ 0x62 ∷ 0x63 ∷ 0x64 ∷ 0x65 ∷ 0x66 ∷ []) (id / 16 ^ (15 - i) % 16) 0
  -- so it is a good name, and no two keys have one name
  pub valid : (id : ℕ) → 1 ≤ id → id ≤ 0xfffeffff → valid_name (key_name id) ≡ true
  pub distinct : (i j : ℕ) → 1 ≤ i → i ≤ 0xfffeffff → 1 ≤ j → j ≤ 0xfffeffff → key_name i ≡ key_name j → i ≡ j

-- ---- the calls

-- demand 1: a status of the table; a refusal gives 0 and changes nothing lent. Writing is lent neither card nor chip, loading only reads them.
pub record KeyCallsWell : Type 0 where
  pub of_format : (s : Areas) (a : KeyAttributes) (material buf : List ℕ) → Well 1 buf s (record { answer = write_key_file a material buf; after = s })
  pub of_save : (kv rbp key : List ℕ) (id : ℕ) (a : KeyAttributes) (material : List ℕ) (flags : ℕ) (iv : List ℕ)
      → Well 0 [] (areas kv rbp) (save_key kv rbp key id a material flags iv)
  pub of_load : (kv rbp key : List ℕ) (id : ℕ) (buf : List ℕ) → Well 1 buf (areas kv rbp) (record { answer = load_key kv rbp key id buf; after = areas kv rbp })

-- "Writing: 1, then 13"; "Keeping: 13 for the material, then as set" (SaveExact); "Loading: as get, then 13", with 1 for the key buffer
pub record KeyRefusals : Type 0 where
  pub format_length : (a : KeyAttributes) (material buf : List ℕ) → length buf < 480 → (write_key_file a material buf).status ≡ 1
  pub format_material : (a : KeyAttributes) (material buf : List ℕ) → 480 ≤ length buf → 444 < length material → (write_key_file a material buf).status ≡ 13
  pub save_material : (kv rbp key : List ℕ) (id : ℕ) (a : KeyAttributes) (material : List ℕ) (flags : ℕ) (iv : List ℕ) → 444 < length material
      → save_key kv rbp key id a material flags iv ≡ record { answer = record { status = 13; numbers = []; output = [] }; after = areas kv rbp }
  pub load_length : (kv rbp key : List ℕ) (id : ℕ) (buf : List ℕ) → length buf < 480 → (load_key kv rbp key id buf).status ≡ 1
  pub load_get : (kv rbp key : List ℕ) (id : ℕ) (buf : List ℕ) → 480 ≤ length buf
      → let status = (store_get kv rbp key (key_name id) 0 (replicate 480 0)).answer.status in status ≢ 0 → (load_key kv rbp key id buf).status ≡ status
  pub load_file : (kv rbp key : List ℕ) (id : ℕ) (buf : List ℕ) → 480 ≤ length buf → (h : Readable kv rbp key (key_name id) 0)
      → ¬ WellFormed (opened key (key_name id) h.r) → (load_key kv rbp key id buf).status ≡ 13

-- a file at the front of the key buffer, its length as the count, the rest as before
abbrev pub holding : List ℕ → List ℕ → Answer
holding buf file = record { status = 0; numbers = length file ∷ []; output = file ++ drop (length file) buf }

-- what a done call gives
abbrev pub FormatGives : Type 0
FormatGives = (a : KeyAttributes) (material buf : List ℕ) → 480 ≤ length buf → length material ≤ 444
    → write_key_file a material buf ≡ holding buf (format_key_file a material)

-- what a load's 0 asks for
pub record LoadReady (kv rbp key : List ℕ) (id : ℕ) (buf : List ℕ) : Type 0 where
  pub room : 480 ≤ length buf
  pub readable : Readable kv rbp key (key_name id) 0
  pub is_well_formed : WellFormed (opened key (key_name id) readable.r)

pub record LoadExact : Type 0 where
  pub condition : (kv rbp key : List ℕ) (id : ℕ) (buf : List ℕ) → ((load_key kv rbp key id buf).status ≡ 0) ↔ LoadReady kv rbp key id buf
  pub gives : (kv rbp key : List ℕ) (id : ℕ) (buf : List ℕ) (h : LoadReady kv rbp key id buf)
      → load_key kv rbp key id buf ≡ holding buf (opened key (key_name id) h.readable.r)

-- a save that is not refused for its material is the set of its file; so a done save stores that record under the key's name, byte for byte, and
-- changes nothing else
pub record SaveExact : Type 0 where
  pub is_set : (kv rbp key : List ℕ) (id : ℕ) (a : KeyAttributes) (material : List ℕ) (flags : ℕ) (iv : List ℕ) → length material ≤ 444
      → save_key kv rbp key id a material flags iv ≡ store_set kv rbp key (key_name id) flags iv (format_key_file a material)
  pub stores : (kv rbp key : List ℕ) (id : ℕ) (a : KeyAttributes) (material : List ℕ) (flags : ℕ) (iv : List ℕ)
      → (save_key kv rbp key id a material flags iv).answer.status ≡ 0
      → Stores kv rbp key (key_name id) flags iv (format_key_file a material) (save_key kv rbp key id a material flags iv)

-- a key that was saved is loaded with the same device key
abbrev pub SaveLoads : Type 0
SaveLoads = (kv rbp key : List ℕ) (id : ℕ) (a : KeyAttributes) (material : List ℕ) (flags : ℕ) (iv buf : List ℕ)
    → let o = save_key kv rbp key id a material flags iv in
    o.answer.status ≡ 0 → 480 ≤ length buf → load_key o.after.kv o.after.rbp key id buf ≡ holding buf (format_key_file a material)
