-- 01: "The file reader keeps the lent file and a place in it, and takes one field at a time; the material is handed back as part of those bytes. A
-- place that leaves too few bytes for the field, or lies past the end, gives 13."
use Rattle.std.specs.Prelude.{Bool, true, false, ◌&&◌, List, ℕ, ◌+◌, ◌-◌, leb, length, take, drop, Result, Ok, Err}
use Rattle.std.specs.Borrow.{Bor}
use Rattle.buffers.specs.Bytes.{bytes_eq, u32_at}
use Rattle.store.specs.declared.status.Refusal.{Refusal}
use Rattle.store.specs.declared.status.Refusal.TheVariants.{InvalidKeyFile}
use Rattle.keys.specs.KeyFile.{mark}
use Rattle.keys.specs.declared.parse.Header.{Header}
use Rattle.keys.specs.declared.reader.KeyFileReader.{KeyFileReader}

-- a reader at a file's front
abbrev pub reader_of : Bor (List ℕ) → KeyFileReader
reader_of file = record { file = file; pos = 0 }

-- n bytes are left from its place on
unfoldable pub has_bytes : KeyFileReader → ℕ → Bool
has_bytes r n = leb r.pos (length r.file.now) && leb n (length r.file.now - r.pos)

-- what a step answers, and the reader after it
pub record Taken (A : Type 0) : Type 0 where
  pub answer : Result A Refusal
  pub after : KeyFileReader

-- 13, and the reader as it was
abbrev pub refused_at : {A : Type 0} → KeyFileReader → Taken A
refused_at r = record { answer = Err InvalidKeyFile; after = r }

-- n bytes taken: their value, and the reader behind them; or refused
unfoldable pub taken_at : {A : Type 0} → Bool → KeyFileReader → ℕ → A → Taken A
taken_at true r n value = record { answer = Ok value; after = record { file = r.file; pos = r.pos + n } }
taken_at false r n value = refused_at r

-- the mark, which has no value
unfoldable pub mark_at : KeyFileReader → Taken (Unit {0})
mark_at r = taken_at (has_bytes r 8 && bytes_eq (take 8 (drop r.pos r.file.now)) mark) r 8 tt

-- a 32-bit number
unfoldable pub field_at : KeyFileReader → Taken ℕ
field_at r = taken_at (has_bytes r 4) r 4 (u32_at r.file.now r.pos)

-- n bytes, as part of the file: they begin at the place in the file's block
abbrev pub part_of : KeyFileReader → ℕ → Bor (List ℕ)
part_of r n = record { ref_ptr = (r.file.ref_ptr.0, r.file.ref_ptr.1 + r.pos); now = take n (drop r.pos r.file.now) }

unfoldable pub part_at : KeyFileReader → ℕ → Taken (Bor (List ℕ))
part_at r n = taken_at (has_bytes r n) r n (part_of r n)

-- a step, and then the next one, told what it took; a refusal is the last
abbrev pub carried_on : {A B : Type 0} → Result A Refusal → KeyFileReader → (A → KeyFileReader → Taken B) → Taken B
carried_on (Ok value) r next = next value r
carried_on (Err refusal) r next = record { answer = Err refusal; after = r }

infixr 0 ◌then◌
abbrev pub ◌then◌ : {A B : Type 0} → Taken A → (A → KeyFileReader → Taken B) → Taken B
step then next = carried_on step.answer step.after next

-- the header, one field after the other
unfoldable pub header_at : KeyFileReader → Taken Header
header_at r =
    mark_at r then λ mark r.
    field_at r then λ version r.
    field_at r then λ lifetime r.
    field_at r then λ key_type r.
    field_at r then λ usage r.
    field_at r then λ alg r.
    field_at r then λ enrollment_alg r.
    field_at r then λ material_len r.
    record {
      answer = Ok (record {
        version = version;
        attributes = record { lifetime = lifetime; key_type = key_type; usage = usage; alg = alg; enrollment_alg = enrollment_alg };
        material_len = material_len;
      });
      after = r;
    }

-- the header of a file; and the material behind it, as long as it says
abbrev pub read_header : Bor (List ℕ) → Taken Header
read_header file = header_at (reader_of file)

unfoldable pub read_material : Bor (List ℕ) → Taken (Bor (List ℕ))
read_material file = read_header file then λ header r. part_at r header.material_len

-- the reader after the mark and seven fields, whatever each step answered
abbrev pub read_on : Bor (List ℕ) → KeyFileReader
read_on file =
    (field_at (field_at (field_at (field_at (field_at (field_at (field_at (mark_at (reader_of file)).after).after).after).after).after).after).after).after
