-- `slots::areas::insert_at`: a block of slots one slot on, with the new one in front.
use Prim.Native.Nat.{◌+◌, ◌*◌, ◌≤◌}
use native.Mathlib.Omega.{arith}
use lib.ListN.{length}
use Rattle.slots.specs.Kind.{format_of}
use Rattle.slots.proofs.AreaLaws.{slot-end, block-ends, block-long}
use Rattle.slots.proofs.Edits.{insert-reach, insert-bytes}
use Rattle.slots.proofs.areas.insert_at.Goals.{After-insert_end}
use Rattle.slots.proofs.areas.insert_at.Goals as goal

-- the block is within the area
ends : (c : goal.After-insert_end) → let args = c.args in
    let w = c.slot_size-w.result in
    (args.found.at * w + w ≤ c.insert_end.result * w) × (c.insert_end.result * w ≤ length args.area.now)
ends c =
    let F = format_of c.args.kind in
    let l = c.args.area.now in
    let w = c.slot_size-w in
    let end = c.insert_end in
    let found = c.args.found in
    let reach = insert-reach F l c.requires.area_value.0 c.requires.area_value.1 found w.result w.ensures c.requires.area_value.2 end.result end.ensures in
    block-ends F l c.requires.area_value.0 c.args.found.at end.result reach.0 reach.1 w.result w.ensures

pub overflow_mul-start : goal.overflow_mul-start
overflow_mul-start c =
    let in_range = c.requires.area_value.2.0 in
    let w = c.slot_size-w in
    let l = c.args.area.now in
    omega (arith, slot-end (format_of c.args.kind) l c.requires.area_value.0 c.args.found.at in_range w.result w.ensures)

pub overflow_mul-end : goal.overflow_mul-end
overflow_mul-end c = omega (arith, (ends (goal.at.overflow_mul-end c).After-insert_end).1)

pub slice_bounds-put_first-count : goal.slice_bounds-put_first-count
slice_bounds-put_first-count c = omega (arith, (ends (goal.at.slice_bounds-put_first-count c).After-insert_end).0)

pub slice_bounds-put_first-start : goal.slice_bounds-put_first-start
slice_bounds-put_first-start c = omega (arith, (ends (goal.at.slice_bounds-put_first-start c).After-insert_end).0, (ends (goal.at.slice_bounds-put_first-start c).After-insert_end).1)

pub slice_bounds-put_first-end : goal.slice_bounds-put_first-end
slice_bounds-put_first-end c = (ends (goal.at.slice_bounds-put_first-end c).After-insert_end).1

pub put_first-requires : goal.put_first-requires
put_first-requires c =
    let F = format_of c.args.kind in
    let l = c.args.area.now in
    let w = c.slot_size-w in
    let end = c.insert_end in
    let found = c.args.found in
    let reach = insert-reach F l c.requires.area_value.0 c.requires.area_value.1 found w.result w.ensures c.requires.area_value.2 end.result end.ensures in
    record { kind_in_bounds = block-long F l c.requires.area_value.0 c.args.found.at end.result reach.0 reach.1 w.result w.ensures; name_len_bound = c.requires.name_len_bound }

pub returns : goal.returns
returns c =
    let args = c.args in
    let pre = c.requires.area_value in
    let w = c.slot_size-w in
    let end = c.insert_end in
    rw c.put_first.ensures
    (insert-bytes (format_of args.kind) args.area.now pre.0 pre.1 args.found w.result w.ensures pre.2 end.result end.ensures
    args.name.now args.payload.now)
