-- 01's layouts, byte for byte: what the statements compare stored bytes with.
--   metadata_bytes, record_bytes   a record
--   place_bytes, entry_bytes       a used place of the card, a used entry of the chip
use Rattle.std.specs.Prelude.{List, ◌∷◌, ◌++◌, ℕ, ◌-◌, length}
use Rattle.buffers.specs.Bytes.{zeros, le_bytes}
use Rattle.spec.specs.Name.{Name}

-- metadata size 20 (2 bytes), revision 1 (2), data size (4), flags (4), IV (8)
abbrev pub metadata_bytes : ℕ → ℕ → List ℕ → List ℕ
metadata_bytes size flags iv = 0x14 ∷ 0x00 ∷ 0x01 ∷ 0x00 ∷ (le_bytes 4 size ++ (le_bytes 4 flags ++ iv))

-- then the stored data, then the CMAC
abbrev pub record_bytes : ℕ → ℕ → List ℕ → List ℕ → List ℕ → List ℕ
record_bytes size flags iv stored tag = metadata_bytes size flags iv ++ (stored ++ tag)

-- state byte, name length, record length (2), name (64, zero filled), record area (516, zero filled)
abbrev pub place_bytes : Name → List ℕ → List ℕ
place_bytes name r = 1 ∷ length name ∷ (le_bytes 2 (length r) ++ ((name ++ zeros (64 - length name)) ++ (r ++ zeros (516 - length r))))

-- state byte, name length, name (64, zero filled), CMAC (16)
abbrev pub entry_bytes : Name → List ℕ → List ℕ
entry_bytes name tag = 1 ∷ length name ∷ ((name ++ zeros (64 - length name)) ++ tag)
