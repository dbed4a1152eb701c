-- `slots::areas::slot_at`: a slot's bytes in the area.
use Prim.Native.Nat.{◌+◌, ◌*◌, ◌≤◌}
use native.Mathlib.Omega.{arith}
use lib.ListN.{length}
use Rattle.slots.specs.Kind.{format_of}
use Rattle.slots.proofs.AreaLaws.{slot-end, slot-bytes}
use Rattle.slots.proofs.areas.slot_at.Goals.{After-slot_size-w}
use Rattle.slots.proofs.areas.slot_at.Goals as goal

-- the slot ends within the area
within : (c : goal.After-slot_size-w) → let args = c.args in args.i * c.slot_size-w.result + c.slot_size-w.result ≤ length args.area.now
within c =
    let args = c.args in
    let in_range = c.requires in
    slot-end (format_of args.kind) args.area.now in_range.0 args.i in_range.1 c.slot_size-w.result c.slot_size-w.ensures

pub overflow_mul-at : goal.overflow_mul-at
overflow_mul-at c = omega (arith, within (goal.at.overflow_mul-at c).After-slot_size-w)

pub overflow_add-end : goal.overflow_add-end
overflow_add-end c = omega (arith, within (goal.at.overflow_add-end c).After-slot_size-w)

pub slice_bounds-result-end : goal.slice_bounds-result-end
slice_bounds-result-end c = within (goal.at.slice_bounds-result-end c).After-slot_size-w

pub returns : goal.returns
returns c =
    let args = c.args in
    let pre = c.requires in
    let slot-size = c.slot_size-w in
    slot-bytes (format_of args.kind) args.area.now pre.0 args.i pre.1 slot-size.result slot-size.ensures
