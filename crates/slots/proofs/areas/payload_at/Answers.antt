-- `slots::areas::payload_at`: a used slot is well shaped.
use mathlib.Core.Path.{ap, ◌∙◌}
use Rattle.spec.specs.Area.{slot_used}
use Rattle.slots.specs.Kind.{format_of}
use Rattle.slots.proofs.AreaLaws.{slot-sized}
use Rattle.slots.proofs.SlotLaws.{used-valid}
use Rattle.slots.proofs.areas.payload_at.Goals as goal

pub invariant_of-payload : goal.invariant_of-payload
invariant_of-payload c =
    let F = format_of c.args.kind in
    let x = c.slot_at-bytes in
    let read = c.requires.1 c.if-found.true in
    record { shaped = (slot-sized F c.args.area.now c.requires.0 c.args.found.at read.0 x.result.now x.ensures, used-valid F x.result.now (ap (slot_used F) x.ensures ∙ read.1)) }
