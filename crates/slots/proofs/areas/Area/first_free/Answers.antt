-- `slots::areas::Area::first_free`: the search, for a slot that is free.
use Rattle.std.proofs.Common.{rules}
use Rattle.spec.specs.Area.{slot_free}
use Rattle.slots.specs.Kind.{format_of}
use Rattle.slots.proofs.Order.{free-fails}
use Rattle.slots.proofs.areas.Area.first_free.Goals as goal

pub returns : goal.returns
returns c =
    let area = c.args.self.now in
    c.first_where.ensures slot_free (λ x r k p. search rules) (free-fails (format_of area.kind) area.bytes.now area.sound.1)
