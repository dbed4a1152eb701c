-- 01, "Card and chip": an area of 1 to 64 slots, each free or used by one name. One theory for both, over a format. `kv` is 01's card, SecureStore's
-- underlying key-value store; `rbp` is 01's chip, its rollback protection.
--   Format, kv_format, rbp_format                   where the parts of a slot stand: 01's place and entry
--   slot_free, slot_used, slot_valid, slot_holder   a slot that is free, used, well shaped; the name that uses it
--   slot_name, slot_payload, make_slot              what is read from a slot, and a slot made
--   slots, sized, names, intact                     an area's slots; of right length; the names in it; without damage
--   slot_of, lookup, has_space                      what it holds for a name; whether a slot is free
--   insert_slot, erase_slot, Edit, edit_area        a name's slot written, or taken out
use Rattle.std.specs.Prelude.{Bool, cond, ◌&&◌, ◌||◌, List, [], ◌∷◌, ◌++◌, ℕ, ◌+◌, ◌-◌, ◌*◌, ◌/◌, eqb, leb, length, get_or, take, drop}
use Rattle.std.proofs.Math.Option.{Option, none, some}
use Rattle.buffers.specs.Bytes.{every, any, zeros, all_zero, zero_fill, le_bytes, u16_at}
use Rattle.spec.specs.Name.{Name, valid_name}
use Rattle.spec.specs.Slots.{chunks, join_slots, find_first, map_option, is_name, names_by, sorted_by, place_by, close_up}

-- Where the parts of a slot stand. `header` is what stands before the name; `payload_length` is how many bytes a slot says that it holds.
pub record Format : Type 0 where
  pub slot_size : ℕ
  pub name_offset : ℕ
  pub payload_offset : ℕ
  pub header : Name → List ℕ → List ℕ
  pub payload_length : List ℕ → ℕ

-- 01: a "place" of the card, 584 bytes: state byte, name length, record length (2), name (64), record area (516)
abbrev pub kv_format : Format
kv_format = record {
  slot_size = 584;
  name_offset = 4;
  payload_offset = 68;
  header = λ name payload. 1 ∷ length name ∷ le_bytes 2 (length payload);
  payload_length = λ slot. u16_at slot 2;
}

-- 01: an "entry" of the chip, 82 bytes: state byte, name length, name (64), CMAC (16)
abbrev pub rbp_format : Format
rbp_format = record {
  slot_size = 82;
  name_offset = 2;
  payload_offset = 66;
  header = λ name payload. 1 ∷ length name ∷ [];
  payload_length = λ slot. 16;
}

abbrev pub state_byte : List ℕ → ℕ
state_byte slot = get_or slot 0 0

abbrev pub name_length : List ℕ → ℕ
name_length slot = get_or slot 1 0

-- 01: "A free place or entry is all zero."
unfoldable pub slot_free : List ℕ → Bool
slot_free slot = all_zero slot

module _ (F : Format) where
  -- 516 bytes on the card, 16 in the chip
  abbrev pub payload_size : ℕ
  payload_size = F.slot_size - F.payload_offset

  abbrev pub slot_name : List ℕ → Name
  slot_name slot = take (name_length slot) (drop F.name_offset slot)

  -- the record, or the CMAC
  abbrev pub slot_payload : List ℕ → List ℕ
  slot_payload slot = take (F.payload_length slot) (drop F.payload_offset slot)

  -- 01: "A used one has state 1, a good name, and on the card a record length of at most 516, with zeros after the name and after the record."
  unfoldable pub slot_used : List ℕ → Bool
  slot_used slot =
      eqb (state_byte slot) 1 && (leb (name_length slot) 64 && (valid_name (slot_name slot) && (leb (F.payload_length slot) payload_size
      && (all_zero (take (F.payload_offset - (F.name_offset + name_length slot)) (drop (F.name_offset + name_length slot) slot))
      && all_zero (drop (F.payload_offset + F.payload_length slot) slot)))))

  -- 01: "well shaped"
  unfoldable pub slot_valid : List ℕ → Bool
  slot_valid slot = slot_free slot || slot_used slot

  -- the name of a slot that is not all zero; where the slot is well shaped, the name that uses it
  unfoldable pub slot_holder : List ℕ → Option Name
  slot_holder slot = cond (slot_free slot) none (some (slot_name slot))

  abbrev pub holds : Name → List ℕ → Bool
  holds name slot = is_name name (slot_holder slot)

  -- a slot used by a name for a payload
  unfoldable pub make_slot : Name → List ℕ → List ℕ
  make_slot name payload = F.header name payload ++ (zero_fill 64 name ++ zero_fill payload_size payload)

  abbrev pub slot_count : List ℕ → ℕ
  slot_count area = length area / F.slot_size

  abbrev pub slots : List ℕ → List (List ℕ)
  slots area = chunks F.slot_size (slot_count area) area

  -- 01: "1 to 64 places", and no byte besides
  unfoldable pub sized : List ℕ → Bool
  sized area = eqb (length area) (slot_count area * F.slot_size) && (leb 1 (slot_count area) && leb (slot_count area) 64)

  -- the names that an area holds
  abbrev pub names : List ℕ → List Name
  names area = names_by slot_holder (slots area)

  -- no "damage": every slot well shaped, and by 02, No. 7, the used ones at the front in byte order of their names: "any other order is damage"
  unfoldable pub intact : List ℕ → Bool
  intact area = every slot_valid (slots area) && sorted_by slot_holder (slots area)

  -- the slot that a name uses, and what it holds for the name
  abbrev pub slot_of : List ℕ → Name → Option (List ℕ)
  slot_of area name = find_first (holds name) (slots area)

  unfoldable pub lookup : List ℕ → Name → Option (List ℕ)
  lookup area name = map_option slot_payload (slot_of area name)

  -- a free slot is there
  unfoldable pub has_space : List ℕ → Bool
  has_space area = any slot_free (slots area)

  -- 02, No. 7: "A set inserts"
  unfoldable pub insert_slot : List ℕ → Name → List ℕ → List ℕ
  insert_slot area name payload = join_slots (place_by slot_holder name (make_slot name payload) (slots area))

  -- "and a remove closes up"
  unfoldable pub erase_slot : List ℕ → Name → List ℕ
  erase_slot area name = join_slots (close_up slot_holder name (zeros F.slot_size) (slots area))

-- What a call does to one name in one area. It says the same of an area and of the reference model.
pub data Edit : Type 0 where
  keep : Edit
  write : List ℕ → Edit
  clear : Edit

abbrev pub edit_area : Format → List ℕ → Name → Edit → List ℕ
edit_area F area name keep = area
edit_area F area name (write payload) = insert_slot F area name payload
edit_area F area name clear = erase_slot F area name
