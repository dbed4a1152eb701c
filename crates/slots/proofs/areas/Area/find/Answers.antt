-- `slots::areas::Area::find`: the slot that does not stand before the name is its own, or the name is not held.
use borrow.Author.Tests.{le-ltb}
use Rattle.slots.specs.Kind.{format_of}
use Rattle.slots.proofs.Edits.{found-known, found-behind}
use Rattle.slots.proofs.areas.Area.find.Goals as goal

pub returns-then-at-slot_count : goal.returns-then-at-slot_count
returns-then-at-slot_count c =
    let area = c.args.self.now in
    let place = c.slot_for-at in
    let there = rw c.slot_count.ensures at c.if-at-slot_count.true in
    rw (c.holds-held.ensures, c.slot.ensures.kind)
    (found-known (format_of area.kind) area.bytes.now area.sound.1 c.args.name.now place.result place.ensures there c.slot.result.bytes.now
    c.slot.ensures.bytes)

pub returns-else-at-slot_count : goal.returns-else-at-slot_count
returns-else-at-slot_count c =
    let area = c.args.self.now in
    let place = c.slot_for-at in
    let past = rw c.slot_count.ensures at c.if-at-slot_count.false in
    rw (le-ltb place.result c.slot_count.result c.if-at-slot_count.false)
    (found-behind (format_of area.kind) area.bytes.now area.sound.1 c.args.name.now place.result place.ensures past)
