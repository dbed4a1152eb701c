-- `slots::areas::put_first`: the slots moved, and the new one over the first.
use Rattle.spec.specs.Area.{make_slot}
use Rattle.slots.specs.Kind.{format_of}
use Rattle.slots.proofs.Blocks.{over_first}
use Rattle.slots.proofs.areas.put_first.Goals as goal

pub returns : goal.returns
returns c =
    let args = c.args in
    let F = format_of args.kind in
    let size = c.slot_size-w in
    let moved = c.move_up in
    rw c.make_slot.ensures
    (over_first F.slot_size args.part.now c.requires.kind_in_bounds (make_slot F args.name.now args.payload.now) moved.new.part size.result
    size.ensures (rw size.ensures at moved.ensures))
