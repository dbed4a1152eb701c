-- Lists of slots, whatever a slot is.
--   chunks, join_slots              a flat area cut into slots, and slots joined
--   find_first, first_index         the first slot that passes a test: itself, its index
--   member, dedup                   lists of names: one among them, equal ones once
--   is_name, names_by               the names that slots have
--   in_order, sorted_by             02, No. 7: slots in order of their names
--   drop_last, place_by, close_up   a slot put in its place in that order, or taken out of it
use Rattle.std.specs.Prelude.{Bool, true, false, cond, ◌&&◌, List, [], ◌∷◌, ◌++◌, ℕ, zero, suc, take, drop}
use Rattle.std.proofs.Math.Option.{Option, none, some}
use Rattle.buffers.specs.Bytes.{every, any, bytes_eq}
use Rattle.buffers.specs.Compare.{precedes}
use Rattle.spec.specs.Name.{Name}

-- the first k parts of w bytes each
abbrev pub chunks : ℕ → ℕ → List ℕ → List (List ℕ)
chunks w zero l = []
chunks w (suc k) l = take w l ∷ chunks w k (drop w l)

abbrev pub join_slots : List (List ℕ) → List ℕ
join_slots [] = []
join_slots (s ∷ ss) = s ++ join_slots ss

-- the index of the first element that passes the test, or how many there are
abbrev pub first_index : {A : Type 0} → (A → Bool) → List A → ℕ
first_index t [] = 0
first_index t (x ∷ xs) = cond (t x) 0 (suc (first_index t xs))

abbrev pub find_first : {A : Type 0} → (A → Bool) → List A → Option A
find_first t [] = none
find_first t (x ∷ xs) = cond (t x) (some x) (find_first t xs)

abbrev pub map_option : {A B : Type 0} → (A → B) → Option A → Option B
map_option f none = none
map_option f (some a) = some (f a)

abbrev pub member : Name → List Name → Bool
member n l = any (bytes_eq n) l

-- equal names once
abbrev pub dedup : List Name → List Name
dedup [] = []
dedup (n ∷ l) = cond (member n l) (dedup l) (n ∷ dedup l)

abbrev pub is_name : Name → Option Name → Bool
is_name n none = false
is_name n (some m) = bytes_eq n m

abbrev pub cons_name : Option Name → List Name → List Name
cons_name none l = l
cons_name (some n) l = n ∷ l

-- the names of those that have one
abbrev pub names_by : {A : Type 0} → (A → Option Name) → List A → List Name
names_by holder [] = []
names_by holder (x ∷ xs) = cons_name (holder x) (names_by holder xs)

-- ---- 02, No. 7: slots that "stand at the front in byte order of their names [..], free ones after"

-- what one slot holds may stand in front of what another holds
abbrev pub in_order : Option Name → Option Name → Bool
in_order a none = true
in_order none (some m) = false
in_order (some n) (some m) = precedes n m

abbrev pub drop_last : {A : Type 0} → List A → List A
drop_last [] = []
drop_last (x ∷ []) = []
drop_last (x ∷ y ∷ xs) = x ∷ drop_last (y ∷ xs)

module _ {A : Type 0} (holder : A → Option Name) where
  -- whatever stands behind a slot may stand there
  abbrev pub sorted_by : List A → Bool
  sorted_by [] = true
  sorted_by (x ∷ xs) = every (λ y. in_order (holder x) (holder y)) xs && sorted_by xs

  -- "A set inserts": q in the place of the slot of its name; else in front of the first that is free or has a greater name, and what stands there and
  -- behind it moves one on, so that the last one goes
  abbrev pub place_by : Name → A → List A → List A
  place_by n q [] = []
  place_by n q (x ∷ xs) =
      cond (is_name n (holder x)) (q ∷ xs) (cond (in_order (some n) (holder x)) (q ∷ drop_last (x ∷ xs)) (x ∷ place_by n q xs))

  -- "a remove closes up": what stands behind the slot of the name moves one to the front, and a free one is last
  abbrev pub close_up : Name → A → List A → List A
  close_up n free [] = []
  close_up n free (x ∷ xs) = cond (is_name n (holder x)) (xs ++ free ∷ []) (x ∷ close_up n free xs)
