-- 01's tests of one thing, and the parts that are read from it, from its layout in bytes.
--   NameBytes, FlagShape, Multiple    the bytes of a good name, the flags, a right length
--   WellFormed, RecordShape           a record that is well formed, and what is read from it
--   UsedPlace, UsedEntry, SlotShape   a used slot, and what is read from it
--   NoDamage, Once                    an area without damage; that no name is in it twice
--   SlotHeld, LookupShape             what it holds for a name
--   Shapes                            all of it, with names, prefixes, lengths and free slots
use Rattle.std.specs.Prelude.{◌≡◌, ◌≢◌, ◌⊎◌, ◌↔◌, true, false, List, ◌++◌, ℕ, ◌*◌, ◌/◌, ◌%◌, ◌≤◌, ◌<◌, length, get_or, take, drop}
use Rattle.std.proofs.Math.Option.{Option, none, some}
use Rattle.cipher.specs.Cmac.{cmac}
use Rattle.cipher.specs.Kdf.{derived_key, auth_prefix}
use Rattle.buffers.specs.Bytes.{is_some, zeros}
use Rattle.buffers.specs.Compare.{precedes}
use Rattle.spec.specs.Name.{Name, valid_name_byte, valid_name, valid_prefix}
use Rattle.spec.specs.Record.{write_once, require_confidentiality, require_integrity, require_replay_protection, valid_flags}
use Rattle.spec.specs.Record.{data_size_of, flags_of, iv_of, metadata_of, stored_data_of, tag_of, well_formed, mac_ok}
use Rattle.spec.specs.Area.{Format, kv_format, rbp_format, slot_free, slot_payload, slot_used, slot_holder, slot_count, sized, intact, slot_of, lookup}
use Rattle.spec.specs.Layout.{metadata_bytes, record_bytes, place_bytes, entry_bytes}
use Rattle.spec.specs.Decisions.{tag_matches}

-- each element is at most 255
abbrev pub AreBytes : List ℕ → Type 0
AreBytes l = (i : ℕ) → get_or l i 0 < 256

-- 02, No. 1: "control bytes and 0x7F stay out"
abbrev pub NameByte : ℕ → Type 0
NameByte b = (0x20 ≤ b) × (b ≢ 0x7f) × (b ≤ 0xff)

abbrev pub NameBytes : List ℕ → Type 0
NameBytes l = (i : ℕ) → i < length l → NameByte (get_or l i 0)

-- a byte that a name may hold; 0x00, which fills a slot's name, and 0x14, which begins the metadata behind it in the CMAC's message, are none
pub record NameByteShape : Type 0 where
  pub exact : (b : ℕ) → (valid_name_byte b ≡ true) ↔ NameByte b
  pub not_fill : valid_name_byte 0x00 ≡ false
  pub not_metadata : valid_name_byte 0x14 ≡ false

-- good flags are 0 to 7 and 12 to 15
abbrev pub GoodFlags : ℕ → Type 0
GoodFlags flags = (flags ≤ 7) ⊎ ((12 ≤ flags) × (flags ≤ 15))

-- "Flags: 1 write once, 2 confidentiality, 4 integrity, 8 replay protection"
pub record FlagShape (flags : ℕ) : Type 0 where
  pub good : (valid_flags flags ≡ true) ↔ GoodFlags flags
  pub bit_1 : (write_once flags ≡ true) ↔ (flags % 2 ≡ 1)
  pub bit_2 : (require_confidentiality flags ≡ true) ↔ (flags / 2 % 2 ≡ 1)
  pub bit_4 : (require_integrity flags ≡ true) ↔ (flags / 4 % 2 ≡ 1)
  pub bit_8 : (require_replay_protection flags ≡ true) ↔ (flags / 8 % 2 ≡ 1)

-- a length of 1 to 64 slots, and no byte besides
abbrev pub Multiple : ℕ → List ℕ → Type 0
Multiple size area = (k : ℕ) × (1 ≤ k) × (k ≤ 64) × (length area ≡ k * size)

-- 01: "well formed"
pub record WellFormed (r : List ℕ) : Type 0 where
  pub size : ℕ
  pub flags : ℕ
  pub iv : List ℕ
  pub stored : List ℕ
  pub tag : List ℕ
  pub layout : r ≡ record_bytes size flags iv stored tag
  pub size_bound : size ≤ 480
  pub flags_good : GoodFlags flags
  pub iv_length : length iv ≡ 8
  pub stored_length : length stored ≡ size
  pub tag_length : length tag ≡ 16
  pub iv_zero : require_confidentiality flags ≡ false → iv ≡ zeros 8
  pub tag_zero : require_integrity flags ≡ false → tag ≡ zeros 16

-- what is read from it
pub record RecordParts (r : List ℕ) (w : WellFormed r) : Type 0 where
  pub size : data_size_of r ≡ w.size
  pub flags : flags_of r ≡ w.flags
  pub iv : iv_of r ≡ w.iv
  pub metadata : metadata_of r ≡ metadata_bytes w.size w.flags w.iv
  pub stored : stored_data_of r ≡ w.stored
  pub tag : tag_of r ≡ w.tag

pub record RecordShape (r : List ℕ) : Type 0 where
  pub valid : AreBytes r → (well_formed r ≡ true) ↔ WellFormed r
  pub parts : (w : WellFormed r) → RecordParts r w

-- a used place, a used entry
pub record UsedPlace (slot : List ℕ) : Type 0 where
  pub name : Name
  pub payload : List ℕ
  pub name_valid : valid_name name ≡ true
  pub payload_is_short : length payload ≤ 516
  pub layout : slot ≡ place_bytes name payload

pub record UsedEntry (slot : List ℕ) : Type 0 where
  pub name : Name
  pub payload : List ℕ
  pub name_valid : valid_name name ≡ true
  pub payload_is_short : length payload ≡ 16
  pub layout : slot ≡ entry_bytes name payload

pub record SlotShape : Type 0 where
  pub kv : (slot : List ℕ) → length slot ≡ 584 → AreBytes slot → (slot_used kv_format slot ≡ true) ↔ UsedPlace slot
  pub rbp : (slot : List ℕ) → length slot ≡ 82 → (slot_used rbp_format slot ≡ true) ↔ UsedEntry slot
  -- a free one has no name
  pub free : (F : Format) (slot : List ℕ) → slot_free slot ≡ true → slot_holder F slot ≡ none
  -- the name and the record, or the CMAC, that are read from a used one
  pub kv_parts : (slot : List ℕ) (u : UsedPlace slot) → (slot_holder kv_format slot ≡ some u.name) × (slot_payload kv_format slot ≡ u.payload)
  pub rbp_parts : (slot : List ℕ) (u : UsedEntry slot) → (slot_holder rbp_format slot ≡ some u.name) × (slot_payload rbp_format slot ≡ u.payload)

-- the bytes of slot i
abbrev pub slot_at : Format → List ℕ → ℕ → List ℕ
slot_at F area i = take F.slot_size (drop (i * F.slot_size) area)

-- no "damage": every slot is free or used; by 02, No. 7, used ones "stand at the front in byte order of their names [..], free ones after"
pub record NoDamage (F : Format) (area : List ℕ) : Type 0 where
  pub shaped : (i : ℕ) → i < slot_count F area → (slot_free (slot_at F area i) ≡ true) ⊎ (slot_used F (slot_at F area i) ≡ true)
  pub front : (i j : ℕ) → i < j → j < slot_count F area → slot_free (slot_at F area i) ≡ true → slot_free (slot_at F area j) ≡ true
  pub ordered : (i j : ℕ) (n m : Name) → i < j → j < slot_count F area
      → slot_holder F (slot_at F area i) ≡ some n → slot_holder F (slot_at F area j) ≡ some m → precedes n m ≡ true

-- "Two used places may not hold one name, nor two entries."
abbrev pub Once : Format → List ℕ → Type 0
Once F area = (i j : ℕ) (name : Name) → i < slot_count F area → j < slot_count F area
    → slot_holder F (slot_at F area i) ≡ some name → slot_holder F (slot_at F area j) ≡ some name → i ≡ j

-- the slot that a name uses (the lowest, where two have the name, as in a damaged area alone)
pub record SlotHeld (F : Format) (area name slot : List ℕ) : Type 0 where
  pub i : ℕ
  pub in_range : i < slot_count F area
  pub held : slot_holder F (slot_at F area i) ≡ some name
  pub lowest : (j : ℕ) → j < i → slot_holder F (slot_at F area j) ≢ some name
  pub slot_is : slot_at F area i ≡ slot

pub record LookupShape (F : Format) (area name : List ℕ) : Type 0 where
  pub slot : (slot : List ℕ) → (slot_of F area name ≡ some slot) ↔ SlotHeld F area name slot
  pub payload : (slot : List ℕ) → slot_of F area name ≡ some slot → lookup F area name ≡ some (slot_payload F slot)
  pub none_there : slot_of F area name ≡ none → lookup F area name ≡ none

pub record Shapes : Type 0 where
  pub of_name_byte : NameByteShape
  -- "A good name has 1 to 64 bytes", a prefix 0 to 64
  pub of_name : (name : Name) → (valid_name name ≡ true) ↔ ((1 ≤ length name) × (length name ≤ 64) × NameBytes name)
  pub of_prefix : (prefix : List ℕ) → (valid_prefix prefix ≡ true) ↔ ((length prefix ≤ 64) × NameBytes prefix)
  pub of_flags : (flags : ℕ) → FlagShape flags
  -- "1 to 64 places of 584 bytes", "1 to 64 entries of 82 bytes"
  pub of_kv_length : (area : List ℕ) → (sized kv_format area ≡ true) ↔ Multiple 584 area
  pub of_rbp_length : (area : List ℕ) → (sized rbp_format area ≡ true) ↔ Multiple 82 area
  pub of_record : (r : List ℕ) → RecordShape r
  -- the CMAC is right, and the chip's copy is that CMAC, in all bytes; a name is held or not
  pub of_mac : (key name r : List ℕ) → (mac_ok key name r ≡ true) ↔ (tag_of r ≡ cmac (derived_key key auth_prefix name) (name ++ (metadata_of r ++ stored_data_of r)))
  pub of_copy : (tag : Option (List ℕ)) (r : List ℕ) → (tag_matches tag r ≡ true) ↔ (tag ≡ some (tag_of r))
  pub of_held : (held : Option (List ℕ)) → (is_some held ≡ false) ↔ (held ≡ none)
  pub of_slot : SlotShape
  -- "A free place or entry is all zero."
  pub of_free_slot : (slot : List ℕ) → (slot_free slot ≡ true) ↔ (slot ≡ zeros (length slot))
  pub of_area : (F : Format) (area : List ℕ) → (intact F area ≡ true) ↔ NoDamage F area
  -- an area in byte order of its names has none of them twice
  pub of_names : (F : Format) (area : List ℕ) → intact F area ≡ true → Once F area
  pub of_lookup : (F : Format) (area name : List ℕ) → LookupShape F area name
