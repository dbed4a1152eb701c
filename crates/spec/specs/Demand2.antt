-- Demand 2, from every card and chip: each call answers 0 exactly under the conditions that 01 and 02 name, and what it then gives and leaves.
--   Exact                                    the one form: a condition for 0, and what it then is
--   Readable, opened, Reads                  get and info
--   Settable, record_made, Changed, Placed   set: the conditions; what it makes; what an area holds then; where it stands
--   RoundTrip                                what an accepted set stored, the next get returns whole
--   Removable, ClosedUp                      remove: the conditions; what is left of the area
--   Iterable, WalkInOrder                    walk: the conditions; that it goes in order
--   Refuses, Refusals                        which number it is where it is not 0
use Rattle.std.specs.Prelude.{◌≡◌, ◌≢◌, ◌↔◌, true, false, cond, not, ◌&&◌, ◌||◌, List, [], ◌∷◌, ◌++◌, ℕ, suc, ◌+◌, ◌-◌, ◌*◌, ◌≤◌, ◌<◌, min, eqb, leb, length, get_or, take, drop}
use Rattle.std.proofs.Math.Option.{Option, none, some}
use Rattle.cipher.specs.Cmac.{cmac}
use Rattle.cipher.specs.Ctr.{ctr}
use Rattle.cipher.specs.Kdf.{derived_key, enc_prefix, auth_prefix}
use Rattle.buffers.specs.Bytes.{is_some, zeros}
use Rattle.buffers.specs.Compare.{precedes}
use Rattle.spec.specs.Status.{Test, ◌when◌, first_of, Answer, bytes_given}
use Rattle.spec.specs.Name.{Name, valid_name, valid_prefix}
use Rattle.spec.specs.Record.{write_once, require_confidentiality, require_integrity, require_replay_protection, valid_flags}
use Rattle.spec.specs.Record.{data_size_of, flags_of, iv_of, metadata_of, stored_data_of, tag_of, well_formed, mac_ok}
use Rattle.spec.specs.Area.{Format, kv_format, rbp_format, slot_free, slot_holder, slot_count, slots, slot_of, sized, intact, lookup}
use Rattle.spec.specs.Layout.{metadata_bytes, record_bytes, place_bytes, entry_bytes}
use Rattle.spec.specs.Interleaving.{Outcome}
use Rattle.spec.specs.Decisions.{tag_matches}
use Rattle.spec.specs.Calls.{Areas, areas, store_set, store_get, store_get_info, store_remove, store_reset, store_iterator_next}

-- 0 is answered exactly under a condition, and then something holds
pub record Exact {State : Type 0} (o : Outcome State Answer) (When : Type 0) (Gives : When → Type 0) : Type 0 where
  pub condition : (o.answer.status ≡ 0) ↔ When
  pub gives : (h : When) → Gives h

-- what a call is that is done, gives these numbers, and leaves these bytes in its output, and these in card and chip or in what it hands on
abbrev pub done : {State : Type 0} → State → List ℕ → List ℕ → Outcome State Answer
done s numbers output = record { answer = record { status = 0; numbers = numbers; output = output }; after = s }

-- card and chip are undamaged: "they have right lengths and no damage"
pub record Undamaged (kv rbp : List ℕ) : Type 0 where
  pub kv_sized : sized kv_format kv ≡ true
  pub rbp_sized : sized rbp_format rbp ≡ true
  pub kv_intact : intact kv_format kv ≡ true
  pub rbp_intact : intact rbp_format rbp ≡ true

-- ---- get, info

-- what a get's 0 asks for
pub record Readable (kv rbp key name : List ℕ) (offset : ℕ) : Type 0 where
  pub undamaged : Undamaged kv rbp
  pub key_is_sized : length key ≡ 16
  pub name_valid : valid_name name ≡ true
  -- the record that the card holds for the name
  pub r : List ℕ
  pub found : lookup kv_format kv name ≡ some r
  pub valid : well_formed r ≡ true
  -- where integrity is flagged, its CMAC is that of the name, the metadata and the data as stored
  pub authentic : require_integrity (flags_of r) ≡ true → tag_of r ≡ cmac (derived_key key auth_prefix name) (name ++ (metadata_of r ++ stored_data_of r))
  -- where replay protection is flagged, the chip's entry is that CMAC
  pub fresh : require_replay_protection (flags_of r) ≡ true → lookup rbp_format rbp name ≡ some (tag_of r)
  -- 02, No. 4: "and, where the chip holds the name, the record has flag 8"
  pub not_downgraded : (t : List ℕ) → lookup rbp_format rbp name ≡ some t → require_replay_protection (flags_of r) ≡ true
  pub in_range : offset ≤ data_size_of r

-- the plaintext of a record: its stored data, decrypted from the start under the name's key where flag 2 is set, cut to the data size
abbrev pub opened : List ℕ → Name → List ℕ → List ℕ
opened key name r =
    take (data_size_of r)
    (cond (require_confidentiality (flags_of r)) (ctr (derived_key key enc_prefix name) (iv_of r) (stored_data_of r)) (stored_data_of r))

-- "the count is the smaller of the output's length and the data size less offset; those bytes are written, the rest of the output is as before"
abbrev pub reads : List ℕ → List ℕ → List ℕ → Name → ℕ → List ℕ → List ℕ → Outcome Areas Answer
reads kv rbp key name offset output r =
    let count = min (length output) (data_size_of r - offset) in
    done (areas kv rbp) (count ∷ []) (take count (drop offset (opened key name r)) ++ drop count output)

abbrev pub GetExact : Type 0
GetExact = (kv rbp key name : List ℕ) (offset : ℕ) (output : List ℕ)
    → let o = store_get kv rbp key name offset output in Exact o (Readable kv rbp key name offset) (λ h. o ≡ reads kv rbp key name offset output h.r)

-- "judged as a get at offset 0 into an empty output; gives data size and flags"
abbrev pub InfoExact : Type 0
InfoExact = (kv rbp key name : List ℕ)
    → let o = store_get_info kv rbp key name in
    Exact o (Readable kv rbp key name 0) (λ h. o ≡ done (areas kv rbp) (data_size_of h.r ∷ flags_of h.r ∷ []) [])

-- ---- set

pub record FreeSlot (F : Format) (area : List ℕ) : Type 0 where
  pub i : ℕ
  pub in_range : i < slot_count F area
  pub free : slot_free (get_or (slots F area) i []) ≡ true

pub record Replaceable (flags : ℕ) (r : List ℕ) : Type 0 where
  pub valid : well_formed r ≡ true
  pub old_flags : write_once (flags_of r) ≡ false
  pub new_flags : write_once flags ≡ false
  pub same_flags : flags ≡ flags_of r

pub record Settable (kv rbp key name : List ℕ) (flags : ℕ) (iv value : List ℕ) : Type 0 where
  pub undamaged : Undamaged kv rbp
  pub key_is_sized : length key ≡ 16
  pub iv_is_sized : length iv ≡ 8
  pub name_valid : valid_name name ≡ true
  pub flags_known : flags < 16
  pub flags_whole : require_replay_protection flags ≡ true → require_integrity flags ≡ true
  pub value_sized : length value ≤ 480
  pub known : (r : List ℕ) → lookup kv_format kv name ≡ some r → Replaceable flags r
  pub new : lookup kv_format kv name ≡ none → write_once flags ≡ true → lookup rbp_format rbp name ≡ none
  -- 02, No. 4: a set without flag 8 asks that the chip does not hold the name
  pub not_downgraded : (t : List ℕ) → lookup rbp_format rbp name ≡ some t → require_replay_protection flags ≡ true
  pub kv_room : lookup kv_format kv name ≡ none → FreeSlot kv_format kv
  pub rbp_room : require_replay_protection flags ≡ true → lookup rbp_format rbp name ≡ none → FreeSlot rbp_format rbp

-- what it makes of its arguments: the IV, the data and the CMAC as stored, and the record
module _ (key : List ℕ) (name : Name) (flags : ℕ) (iv value : List ℕ) where
  abbrev pub iv_made : List ℕ
  iv_made = cond (require_confidentiality flags) iv (zeros 8)

  abbrev pub data_made : List ℕ
  data_made = cond (require_confidentiality flags) (ctr (derived_key key enc_prefix name) iv value) value

  abbrev pub tag_made : List ℕ
  tag_made = cond (require_integrity flags) (cmac (derived_key key auth_prefix name) (name ++ (metadata_bytes (length value) flags iv_made ++ data_made))) (zeros 16)

  abbrev pub record_made : List ℕ
  record_made = record_bytes (length value) flags iv_made data_made tag_made

-- what an area holds after a call on a name: for the name this slot or none, and for every other name the slot that it had
pub record Changed (F : Format) (area name : List ℕ) (slot : Option (List ℕ)) (area' : List ℕ) : Type 0 where
  pub own : slot_of F area' name ≡ slot
  pub others : (other : Name) → other ≢ name → slot_of F area' other ≡ slot_of F area other

-- where it stands, by 02, No. 7: behind the smaller names
pub record Placed (F : Format) (area name slot area' : List ℕ) : Type 0 where
  pub i : ℕ
  pub in_range : i < slot_count F area
  pub smaller : (j : ℕ) → j < i → (other : Name) × (slot_holder F (get_or (slots F area) j []) ≡ some other) × (precedes other name ≡ true)
  -- a known name keeps its slot, and no other byte is another
  pub known : (p : List ℕ) → lookup F area name ≡ some p → (slot_holder F (get_or (slots F area) i []) ≡ some name)
      × (area' ≡ take (i * F.slot_size) area ++ (slot ++ drop (i * F.slot_size + F.slot_size) area))
  -- a new one stands in front of a greater name or a free slot; what stood there and behind it stands one slot further on, and the last one, which was free,
  -- goes
  pub new : lookup F area name ≡ none → ((other : Name) → slot_holder F (get_or (slots F area) i []) ≡ some other → precedes name other ≡ true)
      × (area' ++ zeros F.slot_size ≡ take (i * F.slot_size) area ++ (slot ++ drop (i * F.slot_size) area))

abbrev pub Stored : Format → List ℕ → Name → List ℕ → List ℕ → Type 0
Stored F area name slot area' = Changed F area name (some slot) area' × Placed F area name slot area'

-- "the place holds the record; with flag 8 the entry holds its CMAC; nothing else changes"; by 02, No. 7, others may stand one slot further on
pub record Stores (kv rbp key name : List ℕ) (flags : ℕ) (iv value : List ℕ) (o : Outcome Areas Answer) : Type 0 where
  pub answer : o ≡ done o.after [] []
  pub slot : Stored kv_format kv name (place_bytes name (record_made key name flags iv value)) o.after.kv
  pub rbp_slot : require_replay_protection flags ≡ true → Stored rbp_format rbp name (entry_bytes name (tag_made key name flags iv value)) o.after.rbp
  pub rbp_kept : require_replay_protection flags ≡ false → o.after.rbp ≡ rbp

abbrev pub SetExact : Type 0
SetExact = (kv rbp key name : List ℕ) (flags : ℕ) (iv value : List ℕ)
    → let o = store_set kv rbp key name flags iv value in
    Exact o (Settable kv rbp key name flags iv value) (λ h. Stores kv rbp key name flags iv value o)

-- an accepted set, then a get with the same key, offset 0 and enough output
abbrev pub RoundTrip : Type 0
RoundTrip = (kv rbp key name : List ℕ) (flags : ℕ) (iv value output : List ℕ)
    → let o = store_set kv rbp key name flags iv value in
    o.answer.status ≡ 0 → length value ≤ length output
    → store_get o.after.kv o.after.rbp key name 0 output ≡ done o.after (length value ∷ []) (value ++ drop (length value) output)

-- ---- remove

pub record Removable (kv rbp name : List ℕ) : Type 0 where
  pub undamaged : Undamaged kv rbp
  pub name_valid : valid_name name ≡ true
  pub r : List ℕ
  pub found : lookup kv_format kv name ≡ some r
  pub valid : well_formed r ≡ true
  pub not_write_once : write_once (flags_of r) ≡ false

-- the slot of the name is taken out, all behind it stands one slot further to the front, and a free one is the last
pub record ClosedUp (F : Format) (area name area' : List ℕ) : Type 0 where
  pub i : ℕ
  pub in_range : i < slot_count F area
  pub held : slot_holder F (get_or (slots F area) i []) ≡ some name
  pub bytes : area' ≡ take (i * F.slot_size) area ++ (drop (i * F.slot_size + F.slot_size) area ++ zeros F.slot_size)

abbrev pub Cleared : Format → List ℕ → Name → List ℕ → Type 0
Cleared F area name area' = Changed F area name none area' × ClosedUp F area name area'

-- the record is gone from the card, "and with flag 8 the entry too, where there is one"; 02, No. 7: "a remove closes up"
pub record Clears (kv rbp name r : List ℕ) (o : Outcome Areas Answer) : Type 0 where
  pub answer : o ≡ done o.after [] []
  pub slot : Cleared kv_format kv name o.after.kv
  pub rbp_slot : require_replay_protection (flags_of r) ≡ true → (t : List ℕ) → lookup rbp_format rbp name ≡ some t → Cleared rbp_format rbp name o.after.rbp
  pub rbp_absent : lookup rbp_format rbp name ≡ none → o.after.rbp ≡ rbp
  pub rbp_kept : require_replay_protection (flags_of r) ≡ false → o.after.rbp ≡ rbp

abbrev pub RemoveExact : Type 0
RemoveExact = (kv rbp name : List ℕ) → let o = store_remove kv rbp name in Exact o (Removable kv rbp name) (λ h. Clears kv rbp name h.r o)

-- ---- reset: "1 only. Done: both buffers are all zero."

abbrev pub ResetExact : Type 0
ResetExact = (kv rbp : List ℕ) → let o = store_reset kv rbp in
    Exact o ((sized kv_format kv ≡ true) × (sized rbp_format rbp ≡ true)) (λ h. o ≡ done (areas (zeros (length kv)) (zeros (length rbp))) [] [])

-- ---- walk

-- slot i is the first used one from the start slot on whose name has the prefix
pub record Match (kv prefix : List ℕ) (start i : ℕ) (name : Name) : Type 0 where
  pub from_start : start ≤ i
  pub in_range : i < slot_count kv_format kv
  pub held : slot_holder kv_format (get_or (slots kv_format kv) i []) ≡ some name
  pub prefixed : prefix ≡ take (length prefix) name
  pub lowest : (j : ℕ) (other : Name) → start ≤ j → j < i → slot_holder kv_format (get_or (slots kv_format kv) j []) ≡ some other → prefix ≢ take (length prefix) other

pub record Iterable (kv rbp prefix : List ℕ) (start : ℕ) (name_buf : List ℕ) : Type 0 where
  pub undamaged : Undamaged kv rbp
  pub buf_sized : 64 ≤ length name_buf
  pub prefix_valid : valid_prefix prefix ≡ true
  pub i : ℕ
  pub name : Name
  pub found : Match kv prefix start i name

abbrev pub IteratorExact : Type 0
IteratorExact = (kv rbp prefix : List ℕ) (start : ℕ) (name_buf : List ℕ)
    → let o = store_iterator_next kv rbp prefix start name_buf in
    Exact o (Iterable kv rbp prefix start name_buf)
    (λ h. o ≡ done (areas kv rbp) (length h.name ∷ suc h.i ∷ []) (h.name ++ drop (length h.name) name_buf))

-- 02, No. 7: so it goes in byte order of names: from the slot on that a done walk gives, or a later one, it gives a greater name
abbrev pub WalkInOrder : Type 0
WalkInOrder = (kv rbp prefix : List ℕ) (start : ℕ) (name_buf prefix' : List ℕ) (start' : ℕ) (name_buf' : List ℕ)
    → let a = (store_iterator_next kv rbp prefix start name_buf).answer in
    let a' = (store_iterator_next kv rbp prefix' start' name_buf').answer in
    a.status ≡ 0 → a'.status ≡ 0 → get_or a.numbers 1 0 ≤ start' → precedes (bytes_given a) (bytes_given a') ≡ true

-- ---- the other numbers: "Each number is given when its test is the first to fail in the order below, and never otherwise."

-- of a call that is not done: 1 for card and chip, and for what else it is lent; then 2; then its own tests, of which the last stands for all that is
-- left in the way of 0
abbrev pub Refuses : List ℕ → List ℕ → List Test → List Test → Outcome Areas Answer → Type 0
Refuses kv rbp lengths tests o = o.answer.status ≢ 0 → o.answer.status
    ≡ first_of ((1 when not (sized kv_format kv)) ∷ (1 when not (sized rbp_format rbp)) ∷ (lengths
    ++ ((2 when not (intact kv_format kv)) ∷ (2 when not (intact rbp_format rbp)) ∷ tests)))

pub record Refusals (kv rbp key name : List ℕ) (flags offset start : ℕ) (iv value output prefix name_buf : List ℕ) : Type 0 where
  -- "where the card holds the name: 8; 7 if the old or the new flags say write once; 9"; by 02, No. 4, 12 "just before 10"
  pub set_known : (r : List ℕ) → lookup kv_format kv name ≡ some r
      → Refuses kv rbp ((1 when not (eqb (length key) 16)) ∷ (1 when not (eqb (length iv) 8)) ∷ []) (
      (3 when not (valid_name name)) ∷ (4 when not (valid_flags flags)) ∷ (5 when not (leb (length value) 480)) ∷ (8 when not (well_formed r))
      ∷ (7 when write_once (flags_of r) || write_once flags) ∷ (9 when not (eqb flags (flags_of r)))
      ∷ (12 when not (require_replay_protection flags) && is_some (lookup rbp_format rbp name)) ∷ (10 when true) ∷ []
      ) (store_set kv rbp key name flags iv value)
  -- "Where it doesn't: 7 if the new flags say write once and the chip holds the name"; then 12, and 10
  pub set_new : lookup kv_format kv name ≡ none
      → Refuses kv rbp ((1 when not (eqb (length key) 16)) ∷ (1 when not (eqb (length iv) 8)) ∷ []) (
      (3 when not (valid_name name)) ∷ (4 when not (valid_flags flags)) ∷ (5 when not (leb (length value) 480))
      ∷ (7 when write_once flags && is_some (lookup rbp_format rbp name))
      ∷ (12 when not (require_replay_protection flags) && is_some (lookup rbp_format rbp name)) ∷ (10 when true) ∷ []
      ) (store_set kv rbp key name flags iv value)
  -- "Then 8; 11 where integrity is flagged; 12 where replay protection is flagged and the entry is absent or differs; 14"; by 02, No. 4, 12 "also when the
  -- record lacks flag 8 and the chip holds the name"
  pub get_known : (r : List ℕ) → lookup kv_format kv name ≡ some r → Refuses kv rbp ((1 when not (eqb (length key) 16)) ∷ []) (
      (3 when not (valid_name name)) ∷ (8 when not (well_formed r)) ∷ (11 when require_integrity (flags_of r) && not (mac_ok key name r))
      ∷ (12 when require_replay_protection (flags_of r) && not (tag_matches (lookup rbp_format rbp name) r))
      ∷ (12 when not (require_replay_protection (flags_of r)) && is_some (lookup rbp_format rbp name)) ∷ (14 when true) ∷ []
      ) (store_get kv rbp key name offset output)
  -- "Not on the card: 12 if the chip has the name, else 6."
  pub get_absent : lookup kv_format kv name ≡ none → Refuses kv rbp ((1 when not (eqb (length key) 16)) ∷ []) (
      (3 when not (valid_name name)) ∷ (12 when is_some (lookup rbp_format rbp name)) ∷ (6 when true) ∷ []
      ) (store_get kv rbp key name offset output)
  pub info : (store_get_info kv rbp key name).answer.status ≡ (store_get kv rbp key name 0 []).answer.status
  -- "6 if not on the card; 8; 7 if write once"
  pub remove_known : (r : List ℕ) → lookup kv_format kv name ≡ some r
      → Refuses kv rbp [] ((3 when not (valid_name name)) ∷ (8 when not (well_formed r)) ∷ (7 when true) ∷ []) (store_remove kv rbp name)
  pub remove_absent : lookup kv_format kv name ≡ none → Refuses kv rbp [] ((3 when not (valid_name name)) ∷ (6 when true) ∷ []) (store_remove kv rbp name)
  pub reset : (store_reset kv rbp).answer.status ≢ 0 → (store_reset kv rbp).answer.status ≡ 1
  pub walk : Refuses kv rbp ((1 when not (leb 64 (length name_buf))) ∷ []) ((3 when not (valid_prefix prefix)) ∷ (6 when true) ∷ [])
      (store_iterator_next kv rbp prefix start name_buf)

pub record Demand2 : Type 0 where
  pub get_exact : GetExact
  pub info_exact : InfoExact
  pub set_exact : SetExact
  pub round_trip : RoundTrip
  pub remove_exact : RemoveExact
  pub reset_exact : ResetExact
  pub iterator_exact : IteratorExact
  pub walk_in_order : WalkInOrder
  pub refusals : (kv rbp key name : List ℕ) (flags offset start : ℕ) (iv value output prefix name_buf : List ℕ)
      → Refusals kv rbp key name flags offset start iv value output prefix name_buf
