-- An area's slots in the flat buffer.
use mathlib.Core.Path.{◌≡◌, sym, ap, ◌∙◌}
use mathlib.Core.Bool.{Bool, true, false}
use mathlib.Core.List.{List, []}
use Prim.Native.Nat.{ℕ, suc, ◌+◌, ◌-◌, ◌*◌, ◌≤◌, ◌<◌}
use native.Mathlib.Nat.{suc-mul, mul-le-mul_right}
use native.Mathlib.Omega.{arith}
use borrow.Author.Tests.{eqb-true}
use lib.ListN.{length, get_or, take, drop, length-take, length-drop}
use Rattle.spec.specs.Slots.{first_index}
use Rattle.spec.specs.Area.{Format, slot_count, slots, sized, slot_valid}
use Rattle.buffers.specs.Bytes.{every}
use Rattle.buffers.proofs.Lists.{part}
use Rattle.spec.proofs.Chunks.{wide, slots_length, slot-at, slots-wide}
use Rattle.spec.proofs.First.{every-index}
use Rattle.spec.proofs.Area.{sized-length}
use Rattle.slots.proofs.Turns.{first-here, first-later, first_past}

module _ (F : Format) (l : List ℕ) where
  module _ (s : sized F l ≡ true) (i : ℕ) (h : i < slot_count F l) where
    pub slot-end : (w : ℕ) → w ≡ F.slot_size → i * w + w ≤ length l
    slot-end w e =
        let a : suc i * w ≤ slot_count F l * w = mul-le-mul_right w h in
        let b = suc-mul i w in
        let c : slot_count F l * w ≡ length l = rw e (sym (sized-length F l s)) in
        omega arith

    pub slot-bytes : (w : ℕ) → w ≡ F.slot_size → take (i * w + w - i * w) (drop (i * w) l) ≡ get_or (slots F l) i []
    slot-bytes w e = part (i * w) w l ∙ rw e (sym (slot-at F l i h))

    listed : i < length (slots F l)
    listed = rw (slots_length F l) h

    pub slot-length : length (get_or (slots F l) i []) ≡ F.slot_size
    slot-length = eqb-true _ _ (every-index (wide F.slot_size) (slots F l) [] (slots-wide F l (sized-length F l s)) i listed)

    -- the slot that the code has in hand
    module _ (x : List ℕ) (e : x ≡ get_or (slots F l) i []) where
      pub slot-sized : length x ≡ F.slot_size
      slot-sized = rw e slot-length

      pub slot-well : every (slot_valid F) (slots F l) ≡ true → slot_valid F x ≡ true
      slot-well v = rw e (every-index (slot_valid F) (slots F l) [] v i listed)

      pub slot-fit : every (slot_valid F) (slots F l) ≡ true → (length x ≡ F.slot_size) × (slot_valid F x ≡ true)
      slot-fit v = (slot-sized, slot-well v)

  -- the slots from i to e
  module _ (s : sized F l ≡ true) (i e : ℕ) (h : i < e) (k : e ≤ slot_count F l) (w : ℕ) (z : w ≡ F.slot_size) where
    pub block-ends : (i * w + w ≤ e * w) × (e * w ≤ length l)
    block-ends =
        let a : suc i * w ≤ e * w = mul-le-mul_right w h in
        let b = suc-mul i w in
        let c : e * w ≤ slot_count F l * w = mul-le-mul_right w k in
        let d : slot_count F l * w ≡ length l = rw z (sym (sized-length F l s)) in
        (omega arith, omega arith)

    pub block-long : F.slot_size ≤ length (take (e * w - i * w) (drop (i * w) l))
    block-long = let a = block-ends.0 in let b = block-ends.1 in rw (length-take, length-drop) (omega arith)

  module _ (k i : ℕ) (e : k ≡ slot_count F l) where
    pub in_slots : i < k → i < length (slots F l)
    in_slots h = rw (slots_length F l) (rw e at h)

    pub past-slots : k ≤ i → length (slots F l) ≤ i
    past-slots h = rw (slots_length F l) (rw e at h)

    -- one turn of a search: what is found from i on is at n
    module _ (t : List ℕ → Bool) (n : ℕ) (inv : i + first_index t (drop i (slots F l)) ≡ n) where
      module _ (h : i < k) (x : List ℕ) (q : x ≡ get_or (slots F l) i []) where
        pub search-here : t x ≡ true → i ≡ n
        search-here r = first-here [] t (slots F l) i (in_slots h) n inv (ap t (sym q) ∙ r)

        pub search-later : t x ≡ false → i + 1 + first_index t (drop (i + 1) (slots F l)) ≡ n
        search-later r = first-later [] t (slots F l) i (in_slots h) n inv (ap t (sym q) ∙ r)

      pub search-past : k ≤ i → i ≡ n
      search-past h = first_past t (slots F l) i n inv (past-slots h)
