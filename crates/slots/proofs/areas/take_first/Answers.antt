-- `slots::areas::take_first`: the slots moved, and a free one over the last.
use Rattle.slots.specs.Kind.{format_of}
use Rattle.slots.proofs.Blocks.{over_last}
use Rattle.slots.proofs.areas.take_first.Goals as goal

pub returns : goal.returns
returns c =
    let args = c.args in
    let F = format_of args.kind in
    let size = c.slot_size-w in
    let moved = c.move_down in
    over_last F.slot_size args.part.now c.requires c.clear.new.part moved.new.part size.result size.ensures
    (rw size.ensures at moved.ensures) c.clear.ensures
