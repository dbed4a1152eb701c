-- `slots::areas::Area::first_where`. The invariant: the slot is between the two bounds.
use mathlib.Core.Bool.{Bool}
use mathlib.Core.List.{List}
use Prim.Native.Nat.{ℕ, ◌-◌, ◌≤◌}
use Rattle.spec.specs.Slots.{first_index}
use Rattle.spec.specs.Area.{slot_count, slots}
use Rattle.slots.specs.Kind.{format_of}
use Rattle.slots.specs.Search.{Tests, FailsBefore}
use Rattle.slots.proofs.areas.Area.first_where.Given as goal

abbrev pub invariant-loop-low : goal.invariant-loop-low
invariant-loop-low g l =
    let F = format_of l.self.kind in
    let ss = slots F l.self.bytes.now in
    (l.high ≤ slot_count F l.self.bytes.now)
    × (slot_count F l.self.bytes.now ≤ 64)
    × ((t : List ℕ → Bool) → Tests l.self.kind (goal.P-post g l.test) t → FailsBefore t ss → (l.low ≤ first_index t ss) × (first_index t ss ≤ l.high))

abbrev pub decreases-loop-low : goal.decreases-loop-low
decreases-loop-low g l = l.high - l.low
