-- `slots::slot::slot_valid`: the state byte says which of the two shapes it may have.
use mathlib.Core.Path.{sym, ◌∙◌}
use native.Mathlib.Omega.{arith}
use Rattle.spec.specs.Area.{slot_free}
use Rattle.slots.specs.Kind.{format_of}
use Rattle.slots.proofs.KindLaws.{numbers}
use Rattle.slots.proofs.SlotLaws.{valid-blank, valid-state}
use Rattle.slots.proofs.slot.slot_valid.Goals as goal

pub bounds-slot-0 : goal.bounds-slot-0
bounds-slot-0 c =
    let args = c.args in
    let k = numbers args.kind in omega arith

pub returns-then-slot-eq0 : goal.returns-then-slot-eq0
unfolding slot_free
returns-then-slot-eq0 c =
    let args = c.args in
    c.all_zero.ensures ∙ sym (valid-blank (format_of args.kind) args.slot.now c.if-slot-eq0.true)

pub returns-else-slot-eq0 : goal.returns-else-slot-eq0
returns-else-slot-eq0 c =
    let args = c.args in
    c.slot_used.ensures ∙ sym (valid-state (format_of args.kind) args.slot.now c.if-slot-eq0.false)
