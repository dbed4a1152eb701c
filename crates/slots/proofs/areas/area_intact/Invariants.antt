-- `slots::areas::area_intact`. The invariant: the slot before i is well shaped, and from there on the area is in order just where it is intact.
use mathlib.Core.Path.{◌≡◌}
use mathlib.Core.Bool.{true}
use Prim.Native.Nat.{◌-◌}
use Rattle.spec.specs.Area.{intact, slot_valid}
use Rattle.slots.specs.Kind.{format_of}
use Rattle.slots.specs.Found.{slot_at}
use Rattle.slots.proofs.Order.{chained}
use Rattle.slots.proofs.areas.area_intact.Given as goal

abbrev pub invariant-loop-i : goal.invariant-loop-i
invariant-loop-i l =
    let F = format_of l.kind in
    (slot_valid F (slot_at F l.area (l.i - 1)) ≡ true) × (chained F l.area (l.i - 1) ≡ intact F l.area)
