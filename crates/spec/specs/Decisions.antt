-- What a call on a name decides from what the name has, from its arguments and, a set, from room: its tests in order, and what it does and gives.
--   downgraded                           02, No. 4: a record that disowns its protection
--   set_tests, get_tests, remove_tests   01's tests from 3 on, as 02 changes them, with their numbers, in their order: of the arguments, of what the name
--                                        has (set_held ..), and a set's of room (space_tests)
--   set_effect, remove_effect            what a done call does to what the name has
--   read_count, read_output              what a get gives of a record
--   set_request .. remove_request        the calls
-- `protected` says whether a record with given flags is to have a CMAC in the chip: flag 8, where there is a chip. Where there is none, no name has one.
use Rattle.std.specs.Prelude.{Bool, false, cond, not, ◌&&◌, ◌||◌, List, [], ◌∷◌, ◌++◌, ℕ, ◌-◌, min, eqb, leb, length, take, drop}
use Rattle.std.proofs.Math.Option.{Option, none, some}
use Rattle.buffers.specs.Bytes.{is_some, bytes_eq}
use Rattle.spec.specs.Status.{Test, ◌when◌}
use Rattle.spec.specs.Name.{Name, valid_name}
use Rattle.spec.specs.Record.{write_once, require_integrity, valid_flags, max_data_size, data_size_of, flags_of, tag_of, well_formed, seal_record, mac_ok, plaintext}
use Rattle.spec.specs.Area.{keep, write, clear}
use Rattle.spec.specs.Request.{Binding, Room, Effect, Request}

-- 01: "device key not 16, IV not 8"
abbrev pub key_sized : List ℕ → Bool
key_sized key = eqb (length key) 16

abbrev pub iv_sized : List ℕ → Bool
iv_sized iv = eqb (length iv) 8

-- "the card holds the name", "the chip holds the name"
abbrev pub on_card : Binding → Bool
on_card b = is_some b.stored

abbrev pub in_chip : Binding → Bool
in_chip b = is_some b.tag

abbrev pub record_of : Option (List ℕ) → List ℕ
record_of none = []
record_of (some r) = r

-- 01: the entry holds the record's CMAC, in all sixteen bytes
abbrev pub tag_matches : Option (List ℕ) → List ℕ → Bool
tag_matches none r = false
tag_matches (some t) r = bytes_eq t (tag_of r)

-- a call that gives nothing besides its status, and one that gives numbers and bytes of the record and changes nothing
abbrev pub changing : Name → List Test → (Binding → Room → List Test) → (Binding → Effect) → Room → Request
changing name early tests effect puts =
    record { name = name; early = early; tests = tests; effect = effect; numbers = λ b. []; output = λ b. []; lent = []; puts = puts }

abbrev pub reading : Name → List Test → (Binding → List Test) → (List ℕ → List ℕ) → (List ℕ → List ℕ) → List ℕ → Request
reading name early tests numbers output lent = record {
  name = name;
  early = early;
  tests = λ b room. tests b;
  effect = λ b. record { kv = keep; rbp = keep };
  numbers = λ b. numbers (record_of b.stored);
  output = λ b. output (record_of b.stored);
  lent = lent;
  puts = record { kv = false; rbp = false };
}

-- "6 if not on the card; 8; 7 if write once"
unfoldable pub remove_held : Option (List ℕ) → List Test
remove_held stored =
    let r = record_of stored in
    (6 when not (is_some stored))
    ∷ (8 when not (well_formed r))
    ∷ (7 when write_once (flags_of r))
    ∷ []

abbrev pub remove_tests : Name → Binding → List Test
remove_tests name b = (3 when not (valid_name name)) ∷ remove_held b.stored

-- "the count is the smaller of the output's length and the data size less offset"
unfoldable pub read_count : ℕ → List ℕ → List ℕ → ℕ
read_count offset output r = min (length output) (data_size_of r - offset)

-- "those bytes are written, the rest of the output is as before"
unfoldable pub read_output : List ℕ → Name → ℕ → List ℕ → List ℕ → List ℕ
read_output key name offset output r = take (read_count offset output r) (drop offset (plaintext key name r)) ++ drop (read_count offset output r) output

module _ (protected : ℕ → Bool) where
  -- 02, No. 4: the flags ask for no replay protection, and the chip holds the name
  abbrev pub downgraded : ℕ → Bool → Bool
  downgraded flags held = not (protected flags) && held

  -- "Then, where the card holds the name: 8; 7 if the old or the new flags say write once; 9. Where it doesn't: 7 if the new flags say write once and
  -- the chip holds the name." 02, No. 4: "A set without flag 8 gives 12 when the chip holds the name, just before 10."
  unfoldable pub set_held : ℕ → Binding → List Test
  set_held flags b =
      let r = record_of b.stored in
      (8 when on_card b && not (well_formed r))
      ∷ (7 when on_card b && (write_once (flags_of r) || write_once flags))
      ∷ (9 when on_card b && not (eqb flags (flags_of r)))
      ∷ (7 when not (on_card b) && (write_once flags && in_chip b))
      ∷ (12 when downgraded flags (in_chip b))
      ∷ []

  -- "Then 10: the name is absent and there is no free place, or the flags ask for replay protection, the chip lacks the name and has no free entry."
  abbrev pub space_tests : ℕ → Binding → Room → List Test
  space_tests flags b room =
      (10 when not (on_card b) && not room.kv)
      ∷ (10 when protected flags && (not (in_chip b) && not room.rbp))
      ∷ []

  abbrev pub set_tests : Name → ℕ → List ℕ → Binding → Room → List Test
  set_tests name flags value b room =
      (3 when not (valid_name name))
      ∷ (4 when not (valid_flags flags))
      ∷ (5 when not (leb (length value) max_data_size))
      ∷ (set_held flags b ++ space_tests flags b room)

  -- "the place holds the record; with flag 8 the entry holds its CMAC; nothing else changes"
  unfoldable pub set_effect : List ℕ → Name → ℕ → List ℕ → List ℕ → Effect
  set_effect key name flags iv value =
      let r = seal_record key name flags iv value in
      record { kv = write r; rbp = cond (protected flags) (write (tag_of r)) keep }

  -- "Not on the card: 12 if the chip has the name, else 6. Then 8; 11 where integrity is flagged; 12 where replay protection is flagged and the entry
  -- is absent or differs; 14 if offset is more than the data size." 02, No. 4: "12, where it stands in the order, also when the record lacks flag 8 and
  -- the chip holds the name".
  unfoldable pub get_held : List ℕ → Name → ℕ → Binding → List Test
  get_held key name offset b =
      let r = record_of b.stored in
      (12 when not (on_card b) && in_chip b)
      ∷ (6 when not (on_card b))
      ∷ (8 when not (well_formed r))
      ∷ (11 when require_integrity (flags_of r) && not (mac_ok key name r))
      ∷ (12 when protected (flags_of r) && not (tag_matches b.tag r))
      ∷ (12 when downgraded (flags_of r) (in_chip b))
      ∷ (14 when not (leb offset (data_size_of r)))
      ∷ []

  abbrev pub get_tests : List ℕ → Name → ℕ → Binding → List Test
  get_tests key name offset b = (3 when not (valid_name name)) ∷ get_held key name offset b

  -- the record goes, "and with flag 8 the entry too, where there is one"
  unfoldable pub remove_effect : Binding → Effect
  remove_effect b = record { kv = clear; rbp = cond (protected (flags_of (record_of b.stored))) clear keep }

  -- ---- the calls

  abbrev pub set_request : List ℕ → Name → ℕ → List ℕ → List ℕ → Request
  set_request key name flags iv value = changing name ((1 when not (key_sized key)) ∷ (1 when not (iv_sized iv)) ∷ []) (set_tests name flags value)
      (λ b. set_effect key name flags iv value) (record { kv = valid_name name; rbp = valid_name name && protected flags })

  abbrev pub get_request : List ℕ → Name → ℕ → List ℕ → Request
  get_request key name offset output = reading name ((1 when not (key_sized key)) ∷ []) (get_tests key name offset)
      (λ r. read_count offset output r ∷ []) (read_output key name offset output) output

  -- "judged as a get at offset 0 into an empty output; gives data size and flags"
  abbrev pub get_info_request : List ℕ → Name → Request
  get_info_request key name = reading name ((1 when not (key_sized key)) ∷ []) (get_tests key name 0) (λ r. data_size_of r ∷ flags_of r ∷ []) (λ r. []) []

  abbrev pub remove_request : Name → Request
  remove_request name = changing name [] (λ b room. remove_tests name b) remove_effect (record { kv = false; rbp = false })
