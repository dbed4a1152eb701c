-- `slots::areas::erase_at`: a block of slots one slot back, with a free one behind.
use Prim.Native.Nat.{◌+◌, ◌*◌, ◌≤◌, ◌<◌}
use native.Mathlib.Omega.{arith}
use lib.ListN.{length}
use Rattle.spec.specs.Area.{slot_free, slot_count}
use Rattle.slots.specs.Kind.{format_of}
use Rattle.slots.proofs.AreaLaws.{slot-end, block-ends, block-long}
use Rattle.slots.proofs.Order.{first-at-most}
use Rattle.slots.proofs.Edits.{held-used, erase-bytes}
use Rattle.slots.proofs.areas.erase_at.Goals.{After-first_free}
use Rattle.slots.proofs.areas.erase_at.Goals as goal

-- the slot is in use, and the used ones are within the area
reach : (c : goal.After-first_free) → let args = c.args in
    (args.found.at < c.first_free.result) × (c.first_free.result ≤ slot_count (format_of args.kind) args.area.now)
reach c =
    let F = format_of c.args.kind in
    let l = c.args.area.now in
    let w = c.slot_size-w in
    let used = held-used F l c.requires.area_value.0 c.requires.area_value.1 c.args.found w.result w.ensures c.requires.held_value.0 c.requires.held_value.1 in
    rw c.first_free.ensures (used, first-at-most F l slot_free)

ends : (c : goal.After-first_free) → let args = c.args in
    let w = c.slot_size-w.result in
    (args.found.at * w + w ≤ c.first_free.result * w) × (c.first_free.result * w ≤ length args.area.now)
ends c =
    let w = c.slot_size-w in
    let end = c.first_free.result in
    let l = c.args.area.now in
    block-ends (format_of c.args.kind) l c.requires.area_value.0 c.args.found.at end (reach c).0 (reach c).1 w.result w.ensures

pub overflow_mul-start : goal.overflow_mul-start
overflow_mul-start c =
    let in_range = (c.requires.held_value.1 c.requires.held_value.0).0 in
    let w = c.slot_size-w in
    let l = c.args.area.now in
    omega (arith, slot-end (format_of c.args.kind) l c.requires.area_value.0 c.args.found.at in_range w.result w.ensures)

pub overflow_mul-end : goal.overflow_mul-end
overflow_mul-end c = omega (arith, (ends (goal.at.overflow_mul-end c).After-first_free).1)

pub slice_bounds-take_first-count : goal.slice_bounds-take_first-count
slice_bounds-take_first-count c = omega (arith, (ends (goal.at.slice_bounds-take_first-count c).After-first_free).0)

pub slice_bounds-take_first-start : goal.slice_bounds-take_first-start
slice_bounds-take_first-start c = omega (arith, (ends (goal.at.slice_bounds-take_first-start c).After-first_free).0, (ends (goal.at.slice_bounds-take_first-start c).After-first_free).1)

pub slice_bounds-take_first-end : goal.slice_bounds-take_first-end
slice_bounds-take_first-end c = (ends (goal.at.slice_bounds-take_first-end c).After-first_free).1

pub take_first-requires : goal.take_first-requires
take_first-requires c =
    let l = c.args.area.now in
    let w = c.slot_size-w in
    let end = c.first_free.result in
    let r = reach (goal.at.take_first-requires c).After-first_free in
    block-long (format_of c.args.kind) l c.requires.area_value.0 c.args.found.at end r.0 r.1 w.result w.ensures

pub returns : goal.returns
returns c =
    let args = c.args in
    let pre = c.requires.area_value in
    let w = c.slot_size-w in
    let free = c.first_free in
    rw c.take_first.ensures
    (erase-bytes (format_of args.kind) args.area.now pre.0 pre.1 args.found w.result w.ensures free.result free.ensures
    (reach (goal.at.returns c).After-first_free).0)
