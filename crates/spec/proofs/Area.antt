-- The laws of a slot area, over the laws of its format: what an edit does to its own name and to others, and when there is room.
use mathlib.Core.Path.{◌≡◌, refl, sym, ap, ◌∙◌}
use mathlib.Core.Logic.{◌≢◌}
use mathlib.Core.Bool.{true, false}
use mathlib.Core.List.{List, Memᴰ}
use mathlib.Core.Option.{Option, none, some}
use Prim.Native.Nat.{ℕ, ◌*◌, ◌≤◌}
use native.Mathlib.Nat.{mul-div_cancel}
use borrow.Author.Tests.{eqb-true, eq-eqb, leb-true}
use lib.ListN.{length}
use Rattle.buffers.specs.Bytes.{every, any, zeros, bytes_eq}
use Rattle.spec.specs.Name.{Name, valid_name}
use Rattle.spec.specs.Slots.{join_slots, find_first, map_option, sorted_by, place_by, close_up}
use Rattle.spec.specs.Area.{Format, slot_free, slot_name, slot_payload, slot_valid, slot_holder, holds, make_slot, slot_count, slots, sized}
use Rattle.spec.specs.Area.{intact, slot_of, lookup, has_space, insert_slot, erase_slot, Edit, keep, write, clear, edit_area}
use Rattle.buffers.proofs.Split.{split, split_o, clash_o, both}
use Rattle.buffers.proofs.Bytes.{bytes_eq-eq, zeros_of, length-zeros}
use Rattle.spec.proofs.NameLists.{other_name}
use Rattle.spec.proofs.Slots.{Absent, Distinct, Within, room}
use Rattle.spec.proofs.Sorted.{sorted-distinct, length-place, every-place, sorted-place, find-placed, find-place-other}
use Rattle.spec.proofs.Sorted.{length-close, every-close, sorted-close, find-closed, find-close-other}
use Rattle.spec.proofs.Chunks.{wide, length-join, chunks-join, slots_length, slots-wide}
use Rattle.spec.proofs.Slot.{FormatLaws, Fits, blank-free, made-length, made-holder, made-payload, made-valid}

-- what an edit does to what a name has
abbrev pub edit_option : Edit → Option (List ℕ) → Option (List ℕ)
edit_option keep o = o
edit_option (write p) o = some p
edit_option clear o = none

-- something is asked only of an edit that writes
abbrev pub WhenWritten : Edit → Type 0 → Type 0
WhenWritten keep T = Unit {0}
WhenWritten (write p) T = T
WhenWritten clear T = Unit {0}

pub when-map : {S T : Type 0} (x : Edit) → (S → T) → WhenWritten x S → WhenWritten x T
when-map keep f s = tt
when-map (write p) f s = f s
when-map clear f s = tt

module _ (F : Format) where
  -- 01: "undamaged"
  pub record Sound (area : List ℕ) : Type 0 where
    pub size : sized F area ≡ true
    pub good : intact F area ≡ true

  pub sized-parts : (area : List ℕ) → sized F area ≡ true
      → (length area ≡ slot_count F area * F.slot_size) × (1 ≤ slot_count F area) × (slot_count F area ≤ 64)
  unfolding sized
  sized-parts area h =
      let a = both _ _ h in
      let b = both _ _ a.1 in
      (eqb-true _ _ a.0, leb-true _ _ b.0, leb-true _ _ b.1)

  pub sized-length : (area : List ℕ) → sized F area ≡ true → length area ≡ slot_count F area * F.slot_size
  sized-length area h = (sized-parts area h).0

  pub intact-valid : (area : List ℕ) → intact F area ≡ true → every (slot_valid F) (slots F area) ≡ true
  unfolding intact
  intact-valid area h = (both _ (sorted_by (slot_holder F) (slots F area)) h).0

  pub intact-sorted : (area : List ℕ) → intact F area ≡ true → sorted_by (slot_holder F) (slots F area) ≡ true
  unfolding intact
  intact-sorted area h = (both (every (slot_valid F) (slots F area)) _ h).1

  pub intact-distinct : (area : List ℕ) → intact F area ≡ true → Distinct (slot_holder F) (slots F area)
  intact-distinct area h = sorted-distinct (slot_holder F) (slots F area) (intact-sorted area h)

  -- an area of the same length has the same size
  pub sized_same : (area area' : List ℕ) → length area' ≡ length area → sized F area ≡ true → sized F area' ≡ true
  unfolding sized
  sized_same area area' e h = rw e h

  abbrev blank : List ℕ
  blank = zeros F.slot_size

  blank-length : length blank ≡ F.slot_size
  blank-length = length-zeros F.slot_size

  pub blank-holder : slot_holder F blank ≡ none
  unfolding slot_holder
  blank-holder = rw (blank-free F.slot_size)

  blank-valid : slot_valid F blank ≡ true
  unfolding slot_valid
  blank-valid = rw (blank-free F.slot_size)

  -- what may be written under a name
  pub record Good (n p : List ℕ) : Type 0 where
    pub name : valid_name n ≡ true
    pub payload : Fits F p

  pub free-holder : (s : List ℕ) → slot_free s ≡ true → slot_holder F s ≡ none
  unfolding slot_holder
  free-holder s e = rw e

  pub used-holder : (s : List ℕ) → slot_free s ≡ false → slot_holder F s ≡ none → ⊥
  unfolding slot_holder
  used-holder s e h = clash_o (slot_holder F s) {a = slot_name F s} h (rw e)

  -- a slot without a name is all zero
  pub blank-is : (s : List ℕ) → wide F.slot_size s ≡ true → slot_holder F s ≡ none → s ≡ zeros F.slot_size
  unfolding slot_free
  blank-is s w h =
      let e = eqb-true (length s) F.slot_size w in
      split (slot_free s) (λ z. zeros_of s z ∙ ap zeros e) (λ z. absurd (used-holder s z h))

  -- lookup and find
  pub find-of-none : (area : List ℕ) (n : Name) → lookup F area n ≡ none → Absent (slot_holder F) n (slots F area)
  unfolding lookup
  find-of-none area n h = split_o (find_first (holds F n) (slots F area)) (λ e. e) (λ r e. clash_o (lookup F area n) {a = slot_payload F r} h (rw e))

  pub find-of-some : (area : List ℕ) (n p : List ℕ) → lookup F area n ≡ some p → (s : List ℕ) × (find_first (holds F n) (slots F area) ≡ some s)
  unfolding lookup
  find-of-some area n p h = split_o (find_first (holds F n) (slots F area)) (λ e. clash_o (lookup F area n) (rw e) h) (λ r e. (r, e))

  pub lookup-slot : (area : List ℕ) (n : Name) → lookup F area n ≡ map_option (slot_payload F) (slot_of F area n)
  unfolding lookup
  lookup-slot area n = refl

  -- there is room for a name: it is known, or a slot is free
  abbrev pub HasRoom : List ℕ → Name → Type 0
  HasRoom area n = lookup F area n ≡ none → has_space F area ≡ true

  pub record Roomy (u : List Name) (area : List ℕ) : Type 0 where
    pub within : Within (slot_holder F) u (slots F area)
    pub enough : length u ≤ slot_count F area

  pub roomy_space : (u : List Name) (area : List ℕ) (n : Name) → Sound area → Roomy u area → Memᴰ n u → HasRoom area n
  unfolding has_space
  roomy_space u area n s r i e = room (slot_holder F) slot_free used-holder n (slots F area) u (intact-distinct area s.good) r.within i
      (rw (slots_length F area) r.enough) (find-of-none area n e)

  abbrev pub GoodEdit : Name → Edit → Type 0
  GoodEdit n keep = Unit {0}
  GoodEdit n (write p) = Good n p
  GoodEdit n clear = Unit {0}

module _ (F : Format) (L : FormatLaws F) where
  slots-join : (ss : List (List ℕ)) → every (wide F.slot_size) ss ≡ true → slots F (join_slots ss) ≡ ss
  slots-join ss h = rw (length-join F.slot_size ss h, mul-div_cancel (length ss) L.positive) (chunks-join F.slot_size ss h)

  -- other slots, as many and as wide, in the place of those of a sound area
  module _ (area : List ℕ) (ss : List (List ℕ)) (s : Sound F area) (wides : every (wide F.slot_size) ss ≡ true)
      (many : length ss ≡ length (slots F area)) where
    edited-length : length (join_slots ss) ≡ length area
    edited-length = rw (length-join F.slot_size ss wides, many, slots_length F area) (sym (sized-length F area s.size))

    edited-sound : every (slot_valid F) ss ≡ true → sorted_by (slot_holder F) ss ≡ true → Sound F (join_slots ss)
    unfolding intact
    edited-sound valid sorted = record {
      size = sized_same F area (join_slots ss) edited-length s.size;
      good = rw (slots-join ss wides, valid, sorted);
    }

  made-size : (n p : List ℕ) → Good F n p → length (make_slot F n p) ≡ F.slot_size
  made-size n p g = made-length F L n p g.name g.payload

  -- ---- insert and erase

  module _ (area n p : List ℕ) (s : Sound F area) (g : Good F n p) where
    abbrev placed : List (List ℕ)
    placed = place_by (slot_holder F) n (make_slot F n p) (slots F area)

    own : slot_holder F (make_slot F n p) ≡ some n
    own = made-holder F L n p g.name g.payload

    placed-wide : every (wide F.slot_size) placed ≡ true
    placed-wide = every-place (slot_holder F) n (make_slot F n p) (wide F.slot_size) (slots F area) (eq-eqb _ _ (made-size n p g))
        (slots-wide F area (sized-length F area s.size))

    pub insert-length : length (insert_slot F area n p) ≡ length area
    unfolding insert_slot
    insert-length = edited-length area placed s placed-wide (length-place (slot_holder F) n (make_slot F n p) (slots F area))

    pub insert-sound : Sound F (insert_slot F area n p)
    unfolding insert_slot
    insert-sound = edited-sound area placed s placed-wide (length-place (slot_holder F) n (make_slot F n p) (slots F area))
        (every-place (slot_holder F) n (make_slot F n p) (slot_valid F) (slots F area) (made-valid F L n p g.name g.payload) (intact-valid F area s.good))
        (sorted-place (slot_holder F) n (make_slot F n p) own (slots F area) (intact-sorted F area s.good))

    pub insert-slots : slots F (insert_slot F area n p) ≡ placed
    unfolding insert_slot
    insert-slots = slots-join placed placed-wide

    module _ (h : HasRoom F area n) where
      there : Absent (slot_holder F) n (slots F area) → any slot_free (slots F area) ≡ true
      unfolding has_space lookup
      there a = h (rw a)

      -- the slot that a name uses after it
      pub slot-insert : slot_of F (insert_slot F area n p) n ≡ some (make_slot F n p)
      slot-insert = rw insert-slots
          (find-placed (slot_holder F) n (make_slot F n p) own slot_free (free-holder F) (used-holder F) (slots F area) there)

      pub slot-insert-other : (m : Name) → m ≢ n → slot_of F (insert_slot F area n p) m ≡ slot_of F area m
      slot-insert-other m z = rw insert-slots
          (find-place-other (slot_holder F) n (make_slot F n p) own slot_free (free-holder F) (used-holder F) m (slots F area) z
          (intact-sorted F area s.good) there)

      pub lookup-insert : lookup F (insert_slot F area n p) n ≡ some p
      lookup-insert = lookup-slot F (insert_slot F area n p) n ∙ rw slot-insert (ap some (made-payload F L n p g.name g.payload))

  module _ (area n : List ℕ) (s : Sound F area) where
    abbrev closed : List (List ℕ)
    closed = close_up (slot_holder F) n (blank F) (slots F area)

    closed-wide : every (wide F.slot_size) closed ≡ true
    closed-wide = every-close (slot_holder F) n (blank F) (wide F.slot_size) (slots F area) (eq-eqb _ _ (blank-length F))
        (slots-wide F area (sized-length F area s.size))

    pub erase-length : length (erase_slot F area n) ≡ length area
    unfolding erase_slot
    erase-length = edited-length area closed s closed-wide (length-close (slot_holder F) n (blank F) (slots F area))

    pub erase-sound : Sound F (erase_slot F area n)
    unfolding erase_slot
    erase-sound = edited-sound area closed s closed-wide (length-close (slot_holder F) n (blank F) (slots F area))
        (every-close (slot_holder F) n (blank F) (slot_valid F) (slots F area) (blank-valid F) (intact-valid F area s.good))
        (sorted-close (slot_holder F) n (blank F) (blank-holder F) (slots F area) (intact-sorted F area s.good))

    pub erase-slots : slots F (erase_slot F area n) ≡ closed
    unfolding erase_slot
    erase-slots = slots-join closed closed-wide

    pub slot-erase : slot_of F (erase_slot F area n) n ≡ none
    slot-erase = rw erase-slots (find-closed (slot_holder F) n (blank F) (blank-holder F) (slots F area) (intact-sorted F area s.good))

    pub slot-erase-other : (m : Name) → m ≢ n → slot_of F (erase_slot F area n) m ≡ slot_of F area m
    slot-erase-other m h = rw erase-slots (find-close-other (slot_holder F) n (blank F) (blank-holder F) m (slots F area) h)

    pub lookup-erase : lookup F (erase_slot F area n) n ≡ none
    lookup-erase = lookup-slot F (erase_slot F area n) n ∙ rw slot-erase

  -- ---- edits: what they do to a name is what they do in the reference model, and they do nothing to other names

  pub edit-sound : (area n : List ℕ) (x : Edit) → Sound F area → GoodEdit F n x → Sound F (edit_area F area n x)
  edit-sound area n keep s g = s
  edit-sound area n (write p) s g = insert-sound area n p s g
  edit-sound area n clear s g = erase-sound area n s

  pub edit-length : (area n : List ℕ) (x : Edit) → Sound F area → GoodEdit F n x → length (edit_area F area n x) ≡ length area
  edit-length area n keep s g = refl
  edit-length area n (write p) s g = insert-length area n p s g
  edit-length area n clear s g = erase-length area n s

  pub slot-edit-other : (area m n : List ℕ) (x : Edit) → Sound F area → GoodEdit F n x → WhenWritten x (HasRoom F area n) → m ≢ n
      → slot_of F (edit_area F area n x) m ≡ slot_of F area m
  slot-edit-other area m n keep s g r h = refl
  slot-edit-other area m n (write p) s g r h = slot-insert-other area n p s g r m h
  slot-edit-other area m n clear s g r h = slot-erase-other area n s m h

  pub lookup-edit-other : (area m n : List ℕ) (x : Edit) → Sound F area → GoodEdit F n x → WhenWritten x (HasRoom F area n) → m ≢ n
      → lookup F (edit_area F area n x) m ≡ lookup F area m
  lookup-edit-other area m n x s g r h =
      lookup-slot F (edit_area F area n x) m ∙ rw (slot-edit-other area m n x s g r h) (sym (lookup-slot F area m))

  -- ---- room: the names in use and those to come are all in u, which has no more names than there are slots

  pub edit-roomy : (u : List Name) (area n : List ℕ) (x : Edit) → Sound F area → GoodEdit F n x → Roomy F u area
      → WhenWritten x (Memᴰ n u × HasRoom F area n) → Roomy F u (edit_area F area n x)
  edit-roomy u area n keep s g r i = r
  edit-roomy u area n (write p) s g r i = record {
    within = λ m t k. split (bytes_eq m n)
        (λ e. rw (bytes_eq-eq m n e) i.0)
        (λ e. r.within m t (sym (slot-insert-other area n p s g i.1 m (other_name m n e)) ∙ k));
    enough = rw (insert-length area n p s g) r.enough;
  }
  edit-roomy u area n clear s g r i = record {
    within = λ m t k. split (bytes_eq m n)
        (λ e. clash_o (slot_of F (erase_slot F area n) m) (rw (bytes_eq-eq m n e) (slot-erase area n s)) k)
        (λ e. r.within m t (sym (slot-erase-other area n s m (other_name m n e)) ∙ k));
    enough = rw (erase-length area n s) r.enough;
  }

  pub lookup-edit : (area n : List ℕ) (x : Edit) → Sound F area → GoodEdit F n x → WhenWritten x (HasRoom F area n)
      → lookup F (edit_area F area n x) n ≡ edit_option x (lookup F area n)
  lookup-edit area n keep s g h = refl
  lookup-edit area n (write p) s g h = lookup-insert area n p s g h
  lookup-edit area n clear s g h = lookup-erase area n s
