-- The tests of one thing, from the layout.
use mathlib.Core.Path.{◌≡◌, refl, sym, ap, ◌∙◌}
use mathlib.Core.Logic.{inl, inr, ◌↔◌}
use mathlib.Core.Bool.{Bool, true, false, ◌||◌}
use mathlib.Core.List.{List, ◌∷◌, ◌++◌, append_assoc, append-nil}
use mathlib.Core.Option.{Option, none, some}
use Prim.Native.Nat.{ℕ, ◌+◌, ◌-◌, ◌*◌, ◌/◌, ◌%◌, ◌≤◌}
use native.Mathlib.Nat.{mul-div_cancel}
use native.Mathlib.Omega.{arith}
use borrow.Author.Tests.{eqb-true, eq-eqb, leb-true, leb-false, le-leb, ltb-true, ltb-false}
use lib.Dec.{eqb, leb, ltb}
use lib.ListN.{length, get_or, take, drop, length-take, length-drop, take-append-drop, get_or-eq_default}
use lib.Seq.{take_at, drop-drop, drop-cons, length-take-le, get_or-take, get_or-drop}
use Rattle.buffers.specs.Bytes.{every, is_some, all_zero, zeros, zero_fill, le_bytes}
use Rattle.spec.specs.Name.{valid_name_byte, valid_name, valid_prefix}
use Rattle.spec.specs.Record.{require_confidentiality, require_integrity, valid_flags}
use Rattle.spec.specs.Record.{data_size_of, flags_of, iv_of, metadata_of, stored_data_of, tag_of, well_formed}
use Rattle.spec.specs.Area.{Format, kv_format, rbp_format, name_length, slot_free, payload_size, slot_name}
use Rattle.spec.specs.Area.{slot_payload, slot_used, slot_valid, slot_holder, make_slot, slot_count, sized}
use Rattle.spec.specs.Layout.{metadata_bytes, record_bytes}
use Rattle.spec.specs.Shapes.{AreBytes, NameBytes, GoodFlags, FlagShape, Multiple, WellFormed}
use Rattle.spec.specs.Shapes.{RecordParts, RecordShape, UsedPlace, UsedEntry, SlotShape, Shapes}
use Rattle.buffers.proofs.Split.{split, clash, both, not_some}
use Rattle.buffers.proofs.LittleEndian.{number-part}
use Rattle.buffers.proofs.Bytes.{all_zero-zeros, zeros_of, le-value}
use Rattle.spec.proofs.First.{every-index, index-every}
use Rattle.spec.proofs.Area.{sized-parts, free-holder}
use Rattle.spec.proofs.Intact.{intact-shape, no-name-twice, lookup-shape}
use Rattle.spec.proofs.Name.{byte-good, good-byte, byte-shape, valid-name}
use Rattle.spec.proofs.Slot.{FormatLaws, Fits, kv-laws, rbp-laws, kv-fits, rbp-fits, not_free}
use Rattle.spec.proofs.Slot.{made-valid, made-state, made-holder, made-payload, UsedSlot, used-slot}
use Rattle.spec.proofs.Get.{mac_eq, eq_mac, match-eq, eq-match}
use Rattle.spec.proofs.Set.{flags-split, flags-join}
use Rattle.spec.proofs.Record.{valid-flags-small, ValidRecord, valid-record, valid-long, valid-iv-length, valid-stored-length, valid-tag-length}
use Rattle.spec.proofs.Record.{joined_length, joined-metadata, joined-stored, joined-tag}

-- ---- names

all-good : (l : List ℕ) → every valid_name_byte l ≡ true → NameBytes l
all-good l h i k = byte-good (get_or l i 0) (every-index valid_name_byte l 0 h i k)

all_valid : (l : List ℕ) → NameBytes l → every valid_name_byte l ≡ true
all_valid l h = index-every valid_name_byte l 0 (λ i k. good-byte (get_or l i 0) (h i k))

name-shape : (name : List ℕ) → (valid_name name ≡ true) ↔ ((1 ≤ length name) × (length name ≤ 64) × NameBytes name)
unfolding valid_name
name-shape name = (
  λ h. let v = valid-name name h in (v.not_empty, v.short, all-good name v.bytes),
  λ h. rw (le-leb 1 (length name) h.0, le-leb (length name) 64 h.1) (all_valid name h.2),
)

prefix-shape : (prefix : List ℕ) → (valid_prefix prefix ≡ true) ↔ ((length prefix ≤ 64) × NameBytes prefix)
unfolding valid_prefix
prefix-shape prefix = (
  λ h. let p = both (leb (length prefix) 64) (every valid_name_byte prefix) h in (leb-true (length prefix) 64 p.0, all-good prefix p.1),
  λ h. rw (le-leb (length prefix) 64 h.0) (all_valid prefix h.1),
)

-- ---- flags

bit : (n : ℕ) → (eqb n 1 ≡ true) ↔ (n ≡ 1)
bit n = (eqb-true n 1, eq-eqb n 1)

good-shape : (flags : ℕ) → (valid_flags flags ≡ true) ↔ GoodFlags flags
good-shape flags = (flags_good, good-flags)
  where
    flags_good : valid_flags flags ≡ true → GoodFlags flags
    flags_good h =
        let s = valid-flags-small flags h in
        split (leb flags 7)
        (λ e. inl (leb-true flags 7 e))
        (λ e.
        let k = leb-false flags 7 e in
        let z = eqb-true (flags / 4 % 2) 1 (flags-split flags h (eq-eqb (flags / 8 % 2) 1 (omega arith))) in
        inr (omega arith, omega arith))

    good-flags : GoodFlags flags → valid_flags flags ≡ true
    good-flags (inl h) = flags-join flags (omega arith) (λ e. let z = eqb-true (flags / 8 % 2) 1 e in absurd (omega arith))
    good-flags (inr h) = let a = h.0 in let b = h.1 in flags-join flags (omega arith) (λ e. eq-eqb (flags / 4 % 2) 1 (omega arith))

flag-shape : (flags : ℕ) → FlagShape flags
flag-shape flags = record {
  good = good-shape flags;
  bit_1 = bit (flags % 2);
  bit_2 = bit (flags / 2 % 2);
  bit_4 = bit (flags / 4 % 2);
  bit_8 = bit (flags / 8 % 2);
}

-- ---- lengths

module _ (F : Format) (L : FormatLaws F) (area : List ℕ) where
  sized-multiple : sized F area ≡ true → Multiple F.slot_size area
  sized-multiple h = let p = sized-parts F area h in (slot_count F area, p.1, p.2, p.0)

  multiple-sized : Multiple F.slot_size area → sized F area ≡ true
  unfolding sized
  multiple-sized (k, p, q, e) =
      let c : slot_count F area ≡ k = rw e (mul-div_cancel k L.positive) in
      rw (c, eq-eqb (length area) (k * F.slot_size) e, le-leb 1 k p, le-leb k 64 q)

-- ---- bytes of a list

two-front : (l : List ℕ) → 2 ≤ length l → l ≡ get_or l 0 0 ∷ get_or l 1 0 ∷ drop 2 l
two-front l h = drop-cons l 0 0 (omega arith) ∙ ap (λ (t : List ℕ). get_or l 0 0 ∷ t) (drop-cons l 1 0 h)

zeros-long : (l : List ℕ) (n : ℕ) → all_zero l ≡ true → length l ≡ n → l ≡ zeros n
zeros-long l n h e = zeros_of l h ∙ ap zeros e

unless-flag : (flag test : Bool) → (flag || test) ≡ true → flag ≡ false → test ≡ true
unless-flag true test h e = clash true refl e
unless-flag false test h e = h

or-zeros : (flag : Bool) (l : List ℕ) (n : ℕ) → (flag ≡ false → l ≡ zeros n) → (flag || all_zero l) ≡ true
or-zeros true l n h = refl
or-zeros false l n h = rw (h refl) (all_zero-zeros n)

-- parts of bytes are bytes
pub bytes_drop : (l : List ℕ) → AreBytes l → (i : ℕ) → AreBytes (drop i l)
bytes_drop l a i j = rw (get_or-drop i l j 0) (a (i + j))

pub bytes-part : (l : List ℕ) → AreBytes l → (i k : ℕ) → AreBytes (take k (drop i l))
bytes-part l a i k j = split (ltb j k)
    (λ t. rw (get_or-take k (drop i l) j 0 (ltb-true j k t)) (bytes_drop l a i j))
    (λ t.
    let long : length (take k (drop i l)) ≤ j = omega (arith, length-take k (drop i l), ltb-false j k t) in
    rw (get_or-eq_default (take k (drop i l)) 0 {n = j} long) (omega arith))

-- ---- a record

module _ (r : List ℕ) (b : AreBytes r) (h : well_formed r ≡ true) where
  v : ValidRecord r
  v = valid-record r h

  behind : drop 12 r ≡ iv_of r ++ (stored_data_of r ++ tag_of r)
  behind =
      let z = valid-long r v in
      let e : 20 + (length r - 36) ≡ length r - 16 = omega arith in
      sym (take-append-drop 8 (drop 12 r))
      ∙ ap (λ (x : List ℕ). iv_of r ++ x) (drop-drop 8 12 r ∙ sym (take-append-drop (length r - 36) (drop 20 r))
      ∙ ap (λ (x : List ℕ). stored_data_of r ++ x) (drop-drop (length r - 36) 20 r ∙ ap (λ (k : ℕ). drop k r) e))

  record-layout : r ≡ record_bytes (data_size_of r) (flags_of r) (iv_of r) (stored_data_of r) (tag_of r)
  record-layout =
      let z = valid-long r v in
      let m = v.metadata_size in
      let n = v.of_revision in
      let o = number-part 2 0 r b (omega arith) ∙ ap (λ (x : ℕ). le_bytes 2 x ++ drop 2 r) m in
      let p = number-part 2 2 r b (omega arith) ∙ ap (λ (x : ℕ). le_bytes 2 x ++ drop 4 r) n in
      let q = number-part 4 4 r b (omega arith) in
      let s = number-part 4 8 r b (omega arith) ∙ ap (λ (x : List ℕ). le_bytes 4 (flags_of r) ++ x) behind in
      o ∙ ap (λ (x : List ℕ). le_bytes 2 20 ++ x) (p ∙ ap (λ (x : List ℕ). le_bytes 2 1 ++ x) (q ∙ ap (λ (x : List ℕ). le_bytes 4 (data_size_of r) ++ x) s))

  is_well_formed : WellFormed r
  is_well_formed = record {
    size = data_size_of r;
    flags = flags_of r;
    iv = iv_of r;
    stored = stored_data_of r;
    tag = tag_of r;
    layout = record-layout;
    size_bound = v.data_size;
    flags_good = (good-shape (flags_of r)).0 v.flags;
    iv_length = valid-iv-length r v;
    stored_length = valid-stored-length r v;
    tag_length = valid-tag-length r v;
    iv_zero = λ e. zeros-long (iv_of r) 8 (unless-flag _ _ v.iv_zero e) (valid-iv-length r v);
    tag_zero = λ e. zeros-long (tag_of r) 16 (unless-flag _ _ v.tag_zero e) (valid-tag-length r v);
  }

module _ (r : List ℕ) (w : WellFormed r) where
  abbrev meta : List ℕ
  meta = metadata_bytes w.size w.flags w.iv

  abbrev laid : List ℕ
  laid = record_bytes w.size w.flags w.iv w.stored w.tag

  flags_valid : valid_flags w.flags ≡ true
  flags_valid = (good-shape w.flags).1 w.flags_good

  meta-length : length meta ≡ 20
  meta-length = let e = w.iv_length in omega arith

  laid-length : length laid ≡ w.size + 36
  laid-length = joined_length meta w.stored w.tag meta-length w.tag_length ∙ rw w.stored_length

  laid-size : data_size_of laid ≡ w.size
  laid-size = let h = w.size_bound in le-value 4 w.size (omega arith)

  laid-flags : flags_of laid ≡ w.flags
  laid-flags = let h = valid-flags-small w.flags flags_valid in le-value 4 w.flags (omega arith)

  laid-iv : iv_of laid ≡ w.iv
  laid-iv = take_at w.iv (w.stored ++ w.tag) 8 w.iv_length

  laid-metadata : metadata_of laid ≡ meta
  laid-metadata = joined-metadata meta w.stored w.tag meta-length w.tag_length

  laid-stored : stored_data_of laid ≡ w.stored
  laid-stored = joined-stored meta w.stored w.tag meta-length w.tag_length

  laid-tag : tag_of laid ≡ w.tag
  laid-tag = joined-tag meta w.stored w.tag meta-length w.tag_length

  laid-valid : well_formed laid ≡ true
  unfolding well_formed
  laid-valid =
      let n = w.size in
      let iv-ok : (require_confidentiality w.flags || all_zero w.iv) ≡ true = or-zeros _ w.iv 8 w.iv_zero in
      let tag-ok : (require_integrity w.flags || all_zero w.tag) ≡ true = or-zeros _ w.tag 16 w.tag_zero in
      let small = le-leb n 480 w.size_bound in
      rw (laid-tag, laid-iv, laid-flags, laid-size, laid-length, flags_valid, small, eq-eqb (n + 36) (n + 36) refl, iv-ok) tag-ok

valid-of : (r : List ℕ) → WellFormed r → well_formed r ≡ true
valid-of r w = rw w.layout (laid-valid r w)

record-parts : (r : List ℕ) (w : WellFormed r) → RecordParts r w
record-parts r w = record {
  size = ap data_size_of w.layout ∙ laid-size r w;
  flags = ap flags_of w.layout ∙ laid-flags r w;
  iv = ap iv_of w.layout ∙ laid-iv r w;
  metadata = ap metadata_of w.layout ∙ laid-metadata r w;
  stored = ap stored_data_of w.layout ∙ laid-stored r w;
  tag = ap tag_of w.layout ∙ laid-tag r w;
}

record-shape : (r : List ℕ) → RecordShape r
record-shape r = record { valid = λ b. (is_well_formed r b, valid-of r); parts = record-parts r }

-- ---- a slot

module _ (F : Format) (L : FormatLaws F) (s : List ℕ) (z : length s ≡ F.slot_size) (h : slot_used F s ≡ true) where
  u : UsedSlot F s
  u = used-slot F s h

  abbrev gap : ℕ
  gap = F.payload_offset - (F.name_offset + name_length s)

  name-size : length (slot_name F s) ≡ name_length s
  name-size =
      let a = L.offsets in
      let b = L.total in
      let c = u.name_is_short in
      length-take-le (name_length s) (drop F.name_offset s) (rw (length-drop F.name_offset s) (omega arith))

  payload-size : length (slot_payload F s) ≡ F.payload_length s
  payload-size =
      let b = L.total in
      let c = u.payload_is_short in
      length-take-le (F.payload_length s) (drop F.payload_offset s) (rw (length-drop F.payload_offset s) (omega arith))

  name_fill : take gap (drop (F.name_offset + name_length s) s) ≡ zeros (64 - length (slot_name F s))
  name_fill =
      let a = L.offsets in
      let b = L.total in
      let c = u.name_is_short in
      let n = name-size in
      let k : gap ≤ length (drop (F.name_offset + name_length s) s) = rw (length-drop (F.name_offset + name_length s) s) (omega arith) in
      zeros-long _ (64 - length (slot_name F s)) u.name_fill (length-take-le gap (drop (F.name_offset + name_length s) s) k ∙ omega arith)

  payload_fill : drop (F.payload_offset + F.payload_length s) s ≡ zeros (payload_size F - length (slot_payload F s))
  payload_fill =
      let b = L.total in
      let c = u.payload_is_short in
      let n = payload-size in
      zeros-long _ (payload_size F - length (slot_payload F s)) u.payload_fill (length-drop (F.payload_offset + F.payload_length s) s ∙ omega arith)

  payload-part : drop F.payload_offset s ≡ zero_fill (payload_size F) (slot_payload F s)
  payload-part =
      sym (take-append-drop (F.payload_length s) (drop F.payload_offset s))
      ∙ ap (λ (x : List ℕ). slot_payload F s ++ x) (drop-drop (F.payload_length s) F.payload_offset s ∙ payload_fill)

  body : drop F.name_offset s ≡ zero_fill 64 (slot_name F s) ++ zero_fill (payload_size F) (slot_payload F s)
  body =
      let a = L.offsets in
      let c = u.name_is_short in
      let e : F.name_offset + name_length s + gap ≡ F.payload_offset = omega arith in
      let rest = drop-drop gap (F.name_offset + name_length s) s ∙ ap (λ (k : ℕ). drop k s) e ∙ payload-part in
      sym (take-append-drop (name_length s) (drop F.name_offset s))
      ∙ ap (λ (x : List ℕ). slot_name F s ++ x) (drop-drop (name_length s) F.name_offset s ∙ sym (take-append-drop gap (drop (F.name_offset + name_length s) s))
      ∙ (λ i. name_fill i ++ rest i))
      ∙ sym (append_assoc (slot_name F s) (zeros (64 - length (slot_name F s))) (zero_fill (payload_size F) (slot_payload F s)))

made-used : (F : Format) (L : FormatLaws F) (n p : List ℕ) (v : valid_name n ≡ true) (f : Fits F p) → slot_used F (make_slot F n p) ≡ true
unfolding slot_valid
made-used F L n p v f = rw (not_free (make_slot F n p) (made-state F L n p v f)) at (made-valid F L n p v f)

used-place : (s : List ℕ) → length s ≡ 584 → AreBytes s → slot_used kv_format s ≡ true → UsedPlace s
used-place s z b h =
    let w = u kv_format kv-laws s z h in
    let n = name-size kv_format kv-laws s z h in
    let p = payload-size kv_format kv-laws s z h in
    let q = number-part 2 2 s b (omega arith) ∙ λ i. le_bytes 2 (sym p i) ++ body kv_format kv-laws s z h i in
    record {
      name = slot_name kv_format s;
      payload = slot_payload kv_format s;
      name_valid = w.name;
      payload_is_short = let k = w.payload_is_short in omega arith;
      layout = two-front s (omega arith) ∙ (λ i. w.state i ∷ sym n i ∷ q i);
    }

used-entry : (s : List ℕ) → length s ≡ 82 → slot_used rbp_format s ≡ true → UsedEntry s
used-entry s z h =
    let w = u rbp_format rbp-laws s z h in
    let n = name-size rbp_format rbp-laws s z h in
    let p = payload-size rbp_format rbp-laws s z h in
    let q : slot_payload rbp_format s ++ zeros (16 - length (slot_payload rbp_format s)) ≡ slot_payload rbp_format s = rw p (append-nil (slot_payload rbp_format s)) in
    let e = body rbp_format rbp-laws s z h ∙ ap (λ (x : List ℕ). zero_fill 64 (slot_name rbp_format s) ++ x) q in
    record {
      name = slot_name rbp_format s;
      payload = slot_payload rbp_format s;
      name_valid = w.name;
      payload_is_short = p;
      layout = two-front s (omega arith) ∙ (λ i. w.state i ∷ sym n i ∷ e i);
    }

-- a used slot is a made one
module _ (F : Format) (L : FormatLaws F) (s n p : List ℕ) (v : valid_name n ≡ true) (f : Fits F p) (e : make_slot F n p ≡ s) where
  used-of : slot_used F s ≡ true
  used-of = rw e at (made-used F L n p v f)

  parts-of : (slot_holder F s ≡ some n) × (slot_payload F s ≡ p)
  parts-of = (rw e at (made-holder F L n p v f), rw e at (made-payload F L n p v f))

module _ (s : List ℕ) (w : UsedPlace s) where
  place-fits : Fits kv_format w.payload
  place-fits = kv-fits w.payload w.payload_is_short

  made-place : make_slot kv_format w.name w.payload ≡ s
  unfolding make_slot
  made-place = sym w.layout

  place-used : slot_used kv_format s ≡ true
  place-used = used-of kv_format kv-laws s w.name w.payload w.name_valid place-fits made-place

  place-parts : (slot_holder kv_format s ≡ some w.name) × (slot_payload kv_format s ≡ w.payload)
  place-parts = parts-of kv_format kv-laws s w.name w.payload w.name_valid place-fits made-place

module _ (s : List ℕ) (w : UsedEntry s) where
  entry-fits : Fits rbp_format w.payload
  entry-fits = rbp-fits w.payload w.payload_is_short

  made-entry : make_slot rbp_format w.name w.payload ≡ s
  unfolding make_slot
  made-entry =
      let q : w.payload ++ zeros (16 - length w.payload) ≡ w.payload = rw w.payload_is_short (append-nil w.payload) in
      (λ i. 1 ∷ length w.name ∷ (zero_fill 64 w.name ++ q i)) ∙ sym w.layout

  entry-used : slot_used rbp_format s ≡ true
  entry-used = used-of rbp_format rbp-laws s w.name w.payload w.name_valid entry-fits made-entry

  entry-parts : (slot_holder rbp_format s ≡ some w.name) × (slot_payload rbp_format s ≡ w.payload)
  entry-parts = parts-of rbp_format rbp-laws s w.name w.payload w.name_valid entry-fits made-entry

-- a used slot of bytes is made of its name and what it holds; that of the chip needs no bytes for it
pub kv-made : (s : List ℕ) → length s ≡ 584 → AreBytes s → slot_used kv_format s ≡ true → s ≡ make_slot kv_format (slot_name kv_format s) (slot_payload kv_format s)
unfolding used-place
kv-made s z b h = sym (made-place s (used-place s z b h))

pub rbp-made : (s : List ℕ) → length s ≡ 82 → slot_used rbp_format s ≡ true → s ≡ make_slot rbp_format (slot_name rbp_format s) (slot_payload rbp_format s)
unfolding used-entry
rbp-made s z h = sym (made-entry s (used-entry s z h))

slot-shape : SlotShape
slot-shape = record {
  kv = λ s z b. (used-place s z b, place-used s);
  rbp = λ s z. (used-entry s z, entry-used s);
  free = free-holder;
  kv_parts = place-parts;
  rbp_parts = entry-parts;
}

free-shape : (slot : List ℕ) → (slot_free slot ≡ true) ↔ (slot ≡ zeros (length slot))
unfolding slot_free
free-shape s = (zeros_of s, λ e. rw e (all_zero-zeros (length s)))

held-shape : (o : Option (List ℕ)) → (is_some o ≡ false) ↔ (o ≡ none)
held-shape o = (not_some o, λ h. rw h)

pub shapes-hold : Shapes
shapes-hold = record {
  of_name_byte = byte-shape;
  of_name = name-shape;
  of_prefix = prefix-shape;
  of_flags = flag-shape;
  of_kv_length = λ area. (sized-multiple kv_format kv-laws area, multiple-sized kv_format kv-laws area);
  of_rbp_length = λ area. (sized-multiple rbp_format rbp-laws area, multiple-sized rbp_format rbp-laws area);
  of_record = record-shape;
  of_mac = λ key name r. (mac_eq key name r, eq_mac key name r);
  of_copy = λ tag r. (match-eq tag r, eq-match tag r);
  of_held = held-shape;
  of_slot = slot-shape;
  of_free_slot = free-shape;
  of_area = intact-shape;
  of_names = no-name-twice;
  of_lookup = lookup-shape;
}
