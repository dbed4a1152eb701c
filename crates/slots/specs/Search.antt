-- A binary search of an area's slots for the first that passes a test.
--   Tests         what code answers of a slot of the kind is what the test says of its bytes
--   FailsBefore   each slot that fails stands before the first that passes
use Rattle.std.specs.Prelude.{◌≡◌, Bool, false, List, [], ℕ, ◌<◌, length, get_or}
use Rattle.std.specs.Borrow.{Bor}
use Rattle.spec.specs.Slots.{first_index}
use Rattle.slots.specs.declared.AreaKind.{AreaKind}
use Rattle.slots.specs.declared.slot.Slot.{Slot}

abbrev pub Tests : AreaKind → (Bor Slot → Bool → Type 0) → (List ℕ → Bool) → Type 0
Tests kind answers t = (x : Bor Slot) (r : Bool) → x.now.kind ≡ kind → answers x r → r ≡ t x.now.bytes.now

abbrev pub FailsBefore : (List ℕ → Bool) → List (List ℕ) → Type 0
FailsBefore t ss = (i : ℕ) → i < length ss → t (get_or ss i []) ≡ false → i < first_index t ss
