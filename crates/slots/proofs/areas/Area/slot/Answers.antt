-- `slots::areas::Area::slot`: a slot of an area without damage is well shaped.
use Rattle.spec.proofs.Area.{intact-valid}
use Rattle.slots.specs.Kind.{format_of}
use Rattle.slots.proofs.AreaLaws.{slot-fit}
use Rattle.slots.proofs.areas.Area.slot.Goals as goal

pub invariant_of-result : goal.invariant_of-result
invariant_of-result c =
    let area = c.args.self.now in
    let F = format_of area.kind in
    let l = area.bytes.now in
    record { shaped = slot-fit F l area.sound.0 c.args.i c.requires c.slot_at.result.now c.slot_at.ensures (intact-valid F l area.sound.1) }
