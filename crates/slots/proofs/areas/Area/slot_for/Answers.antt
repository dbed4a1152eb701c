-- `slots::areas::Area::slot_for`: the search, for a slot that does not stand before the name.
use Rattle.std.proofs.Common.{rules}
use Rattle.spec.specs.Area.{slot_holder}
use Rattle.spec.proofs.SortedIndex.{not_before}
use Rattle.slots.specs.Kind.{format_of}
use Rattle.slots.proofs.Order.{place-fails}
use Rattle.slots.proofs.areas.Area.slot_for.Goals as goal

pub returns : goal.returns
returns c =
    let area = c.args.self.now in
    let F = format_of area.kind in
    let name = c.args.name.now in
    c.first_where.ensures (not_before (slot_holder F) name) (λ x r k p. search rules) (place-fails F area.bytes.now area.sound.1 name)
