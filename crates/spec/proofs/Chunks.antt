-- A flat area and its slots: cut into parts of one width, and joined again.
use mathlib.Core.Path.{◌≡◌, refl, sym, ap, ◌∙◌}
use mathlib.Core.Bool.{Bool, true}
use mathlib.Core.List.{List, [], ◌∷◌, ◌++◌, append_assoc}
use Prim.Native.Nat.{ℕ, zero, suc, ◌+◌, ◌*◌, ◌<◌}
use native.Mathlib.Nat.{suc-mul, zero-mul, zero-add, not-suc-le-zero, le_of_suc-le-suc}
use native.Mathlib.Omega.{arith}
use borrow.Author.Tests.{eqb-true, eq-eqb}
use lib.Dec.{eqb}
use lib.ListN.{length, take, drop, get_or, set, length-append, length-drop, take-append-drop}
use lib.Seq.{take_at, drop_at, drop-drop, length-take-le, take-add}
use Rattle.buffers.specs.Bytes.{every}
use Rattle.spec.specs.Slots.{chunks, join_slots}
use Rattle.spec.specs.Area.{Format, slot_count, slots}
use Rattle.buffers.proofs.Split.{both}

-- a slot is w bytes wide
abbrev pub wide : ℕ → List ℕ → Bool
wide w s = eqb (length s) w

pub length-chunks : (w k : ℕ) (l : List ℕ) → length (chunks w k l) ≡ k
length-chunks w zero l = refl
length-chunks w (suc k) l = ap suc (length-chunks w k (drop w l))

pub wide-chunks : (w k : ℕ) (l : List ℕ) → length l ≡ k * w → every (wide w) (chunks w k l) ≡ true
wide-chunks w zero l h = refl
wide-chunks w (suc k) l h =
    let e = h ∙ suc-mul k w in
    rw (eq-eqb (length (take w l)) w (length-take-le w l (omega arith))) (wide-chunks w k (drop w l) (length-drop w l ∙ omega arith))

pub length-join : (w : ℕ) (ss : List (List ℕ)) → every (wide w) ss ≡ true → length (join_slots ss) ≡ length ss * w
length-join w [] h = sym (zero-mul w)
length-join w (s ∷ ss) h =
    let k = both (wide w s) (every (wide w) ss) h in
    length-append s (join_slots ss) ∙ rw (eqb-true (length s) w k.0, length-join w ss k.1, suc-mul) (omega arith)

pub chunks-join : (w : ℕ) (ss : List (List ℕ)) → every (wide w) ss ≡ true → chunks w (length ss) (join_slots ss) ≡ ss
chunks-join w [] h = refl
chunks-join w (s ∷ ss) h =
    let k = both (wide w s) (every (wide w) ss) h in
    let e = eqb-true (length s) w k.0 in
    rw (take_at s (join_slots ss) w e, drop_at s (join_slots ss) w e, chunks-join w ss k.1)

pub chunk-at : (w k i : ℕ) (l : List ℕ) → i < k → get_or (chunks w k l) i [] ≡ take w (drop (i * w) l)
chunk-at w zero i l h = absurd (not-suc-le-zero h)
chunk-at w (suc k) zero l h = rw zero-mul
chunk-at w (suc k) (suc i) l h =
    let e : suc i * w ≡ w + i * w = suc-mul i w ∙ omega arith in
    rw (chunk-at w k i (drop w l) (le_of_suc-le-suc h), drop-drop, e)

pub join-chunks : (w k : ℕ) (l : List ℕ) → length l ≡ k * w → join_slots (chunks w k l) ≡ l
join-chunks w zero [] h = refl
join-chunks w zero (x ∷ l) h = let e = h ∙ zero-mul w in absurd (omega arith)
join-chunks w (suc k) l h =
    let e = h ∙ suc-mul k w in
    rw (join-chunks w k (drop w l) (length-drop w l ∙ omega arith)) (take-append-drop w l)

-- one slot written over
pub join-set : (w k i : ℕ) (l q : List ℕ) → length l ≡ k * w → i < k → join_slots (set (chunks w k l) i q) ≡ take (i * w) l ++ (q ++ drop (i * w + w) l)
join-set w zero i l q h k = absurd (not-suc-le-zero k)
join-set w (suc k) zero l q h j =
    let e = h ∙ suc-mul k w in
    rw (join-chunks w k (drop w l) (length-drop w l ∙ omega arith), zero-mul, zero-add)
join-set w (suc k) (suc i) l q h j =
    let e = h ∙ suc-mul k w in
    let a : suc i * w ≡ w + i * w = suc-mul i w ∙ omega arith in
    let b : w + i * w + w ≡ w + (i * w + w) = omega arith in
    rw (join-set w k i (drop w l) q (length-drop w l ∙ omega arith) (le_of_suc-le-suc j), a, b, take-add, drop-drop) (simp append_assoc)

-- ---- the slots of an area

module _ (F : Format) (area : List ℕ) where
  pub slots_length : length (slots F area) ≡ slot_count F area
  slots_length = length-chunks F.slot_size (slot_count F area) area

  pub slot-at : (i : ℕ) → i < slot_count F area → get_or (slots F area) i [] ≡ take F.slot_size (drop (i * F.slot_size) area)
  slot-at i h = chunk-at F.slot_size (slot_count F area) i area h

  -- in an area of right length
  module _ (h : length area ≡ slot_count F area * F.slot_size) where
    pub slots-wide : every (wide F.slot_size) (slots F area) ≡ true
    slots-wide = wide-chunks F.slot_size (slot_count F area) area h

    pub slots-joined : join_slots (slots F area) ≡ area
    slots-joined = join-chunks F.slot_size (slot_count F area) area h
