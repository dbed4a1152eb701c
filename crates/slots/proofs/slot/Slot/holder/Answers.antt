-- `slots::slot::Slot::holder`: a slot that is not free is used.
use mathlib.Core.Path.{sym, ◌∙◌}
use Rattle.slots.specs.Kind.{format_of}
use Rattle.slots.proofs.SlotLaws.{taken-is-used, taken-holder}
use Rattle.spec.proofs.Area.{free-holder}
use Rattle.slots.proofs.slot.Slot.holder.Goals as goal

pub name-requires : goal.name-requires
name-requires c =
    let s = c.args.self.now in
    taken-is-used (format_of s.kind) s.bytes.now s.shaped.1 (sym c.is_free.ensures ∙ c.if-is_free.false)

pub returns-then-is_free : goal.returns-then-is_free
returns-then-is_free c =
    let s = c.args.self.now in
    sym (free-holder (format_of s.kind) s.bytes.now (sym c.is_free.ensures ∙ c.if-is_free.true))

pub returns-else-is_free : goal.returns-else-is_free
returns-else-is_free c =
    let s = c.args.self.now in
    rw c.name.ensures (sym (taken-holder (format_of s.kind) s.bytes.now (sym c.is_free.ensures ∙ c.if-is_free.false)))
