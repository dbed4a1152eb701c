-- One slot: what a made slot holds, over the laws of a format, which both formats obey.
use mathlib.Core.Path.{◌≡◌, refl, sym, ap, ◌∙◌}
use mathlib.Core.Bool.{true, false}
use mathlib.Core.List.{List, [], ◌∷◌, ◌++◌}
use mathlib.Core.Option.{some}
use Prim.Native.Nat.{ℕ, ◌+◌, ◌-◌, ◌≤◌, ◌<◌}
use native.Mathlib.Omega.{arith}
use borrow.Author.Tests.{eqb-true, leb-true, le-leb, ne_eqb}
use lib.Dec.{lit<}
use lib.ListN.{length, take, drop, length-append}
use lib.Seq.{take_at, drop_at, drop-drop, drop-append_seam, take-append_seam}
use Rattle.buffers.specs.Bytes.{all_zero, zeros, zero_fill}
use Rattle.spec.specs.Name.{valid_name}
use Rattle.spec.specs.Area.{Format, kv_format, rbp_format, state_byte, name_length, slot_free, payload_size}
use Rattle.spec.specs.Area.{slot_name, slot_payload, slot_used, slot_valid, slot_holder, make_slot}
use Rattle.buffers.proofs.Split.{both}
use Rattle.buffers.proofs.Bytes.{all_zero-zeros, length-zeros, length-zero_fill, take-zero_fill, drop-zero_fill, le-value}
use Rattle.spec.proofs.Name.{valid-length}

-- What a format has to obey.
pub record FormatLaws (F : Format) : Type 0 where
  pub positive : 0 < F.slot_size
  pub offsets : F.payload_offset ≡ F.name_offset + 64
  pub total : F.payload_offset ≤ F.slot_size
  pub header_length : (n p : List ℕ) → length (F.header n p) ≡ F.name_offset
  pub header_state : (n p l : List ℕ) → state_byte (F.header n p ++ l) ≡ 1
  pub header_name : (n p l : List ℕ) → name_length (F.header n p ++ l) ≡ length n

-- a payload that a slot can hold, and whose length can be told from it
pub record Fits (F : Format) (p : List ℕ) : Type 0 where
  pub told : (n l : List ℕ) → F.payload_length (F.header n p ++ l) ≡ length p
  pub size : length p ≤ payload_size F

pub kv-laws : FormatLaws kv_format
kv-laws = record {
  positive = lit< tt;
  offsets = refl;
  total = omega arith;
  header_length = λ n p. refl;
  header_state = λ n p l. refl;
  header_name = λ n p l. refl;
}

pub rbp-laws : FormatLaws rbp_format
rbp-laws = record {
  positive = lit< tt;
  offsets = refl;
  total = omega arith;
  header_length = λ n p. refl;
  header_state = λ n p l. refl;
  header_name = λ n p l. refl;
}

pub kv-fits : (p : List ℕ) → length p ≤ 516 → Fits kv_format p
kv-fits p h = record { told = λ n l. le-value 2 (length p) (omega arith); size = h }

pub rbp-fits : (p : List ℕ) → length p ≡ 16 → Fits rbp_format p
rbp-fits p h = record { told = λ n l. sym h; size = omega arith }

-- a slot with a state is not free
pub state-not-free : (s : List ℕ) → (state_byte s ≡ 0 → ⊥) → slot_free s ≡ false
unfolding slot_free
state-not-free [] h = absurd (h refl)
state-not-free (x ∷ s) h = rw (ne_eqb x 0 h)

pub not_free : (s : List ℕ) → state_byte s ≡ 1 → slot_free s ≡ false
not_free s h = state-not-free s (λ z. omega arith)

pub blank-free : (k : ℕ) → slot_free (zeros k) ≡ true
unfolding slot_free
blank-free k = all_zero-zeros k

module _ (F : Format) (L : FormatLaws F) where
  -- what stands in a slot that was made
  module _ (n p : List ℕ) (v : valid_name n ≡ true) (f : Fits F p) where
    name-part : drop F.name_offset (make_slot F n p) ≡ zero_fill 64 n ++ zero_fill (payload_size F) p
    unfolding make_slot
    name-part = drop_at (F.header n p) _ F.name_offset (L.header_length n p)

    payload-part : drop F.payload_offset (make_slot F n p) ≡ zero_fill (payload_size F) p
    payload-part =
        ap (λ (k : ℕ). drop k (make_slot F n p)) L.offsets ∙ sym (drop-drop 64 F.name_offset (make_slot F n p)) ∙ ap (drop 64) name-part
        ∙ drop_at (zero_fill 64 n) (zero_fill (payload_size F) p) 64 (length-zero_fill 64 n (valid-length n v))

    pub made-state : state_byte (make_slot F n p) ≡ 1
    unfolding make_slot
    made-state = L.header_state n p _

    made-name-length : name_length (make_slot F n p) ≡ length n
    unfolding make_slot
    made-name-length = L.header_name n p _

    made-payload-length : F.payload_length (make_slot F n p) ≡ length p
    unfolding make_slot
    made-payload-length = f.told n _

    made-name : slot_name F (make_slot F n p) ≡ n
    made-name = rw (made-name-length, name-part) (take-zero_fill 64 n _)

    pub made-payload : slot_payload F (make_slot F n p) ≡ p
    made-payload = rw (made-payload-length, payload-part) (take-append_seam p _)

    pub made-holder : slot_holder F (make_slot F n p) ≡ some n
    unfolding slot_holder
    made-holder = rw (not_free (make_slot F n p) made-state) (ap some made-name)

    after-name : drop (F.name_offset + length n) (make_slot F n p) ≡ zeros (64 - length n) ++ zero_fill (payload_size F) p
    after-name = rw (← (drop-drop (length n) F.name_offset (make_slot F n p)), name-part) (drop-zero_fill 64 n _)

    after-payload : drop (F.payload_offset + length p) (make_slot F n p) ≡ zeros (payload_size F - length p)
    after-payload = rw (← (drop-drop (length p) F.payload_offset (make_slot F n p)), payload-part) (drop-append_seam p _)

    pub made-length : length (make_slot F n p) ≡ F.slot_size
    unfolding make_slot
    made-length =
        let a = length-append (F.header n p) (zero_fill 64 n ++ zero_fill (payload_size F) p) in
        let b = length-append (zero_fill 64 n) (zero_fill (payload_size F) p) in
        let c = length-zero_fill 64 n (valid-length n v) in
        let d = length-zero_fill (payload_size F) p f.size in
        let e = L.header_length n p in
        let g = L.offsets in
        let h = L.total in
        omega arith

    pub made-valid : slot_valid F (make_slot F n p) ≡ true
    unfolding slot_valid slot_used
    made-valid =
        let gap : F.payload_offset - (F.name_offset + length n) ≡ 64 - length n = rw L.offsets (omega arith) in
        rw (
          not_free (make_slot F n p) made-state,
          made-state,
          made-name,
          made-name-length,
          made-payload-length,
          v,
          le-leb (length n) 64 (valid-length n v),
          le-leb (length p) (payload_size F) f.size,
          gap,
          after-name,
          after-payload,
          take_at (zeros (64 - length n)) (zero_fill (payload_size F) p) (64 - length n) (length-zeros (64 - length n)),
          all_zero-zeros (64 - length n),
        ) (all_zero-zeros (payload_size F - length p))

-- ---- what a used slot says of itself

pub record UsedSlot (F : Format) (s : List ℕ) : Type 0 where
  pub state : state_byte s ≡ 1
  pub name_is_short : name_length s ≤ 64
  pub name : valid_name (slot_name F s) ≡ true
  pub payload_is_short : F.payload_length s ≤ payload_size F
  pub name_fill : all_zero (take (F.payload_offset - (F.name_offset + name_length s)) (drop (F.name_offset + name_length s) s)) ≡ true
  pub payload_fill : all_zero (drop (F.payload_offset + F.payload_length s) s) ≡ true

pub used-slot : (F : Format) (s : List ℕ) → slot_used F s ≡ true → UsedSlot F s
unfolding slot_used
used-slot F s h =
    let a = both _ _ h in
    let b = both _ _ a.1 in
    let c = both _ _ b.1 in
    let d = both _ _ c.1 in
    let e = both _ _ d.1 in
    record {
      state = eqb-true (state_byte s) 1 a.0;
      name_is_short = leb-true (name_length s) 64 b.0;
      name = c.0;
      payload_is_short = leb-true (F.payload_length s) (payload_size F) d.0;
      name_fill = e.0;
      payload_fill = e.1;
    }
