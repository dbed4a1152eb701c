-- `slots::slot::Slot::is_free`: in a well-shaped slot the state byte tells.
use mathlib.Core.Path.{sym, ◌∙◌}
use borrow.Author.Tests.{eqb-true, eqb-false}
use lib.Dec.{eqb}
use Rattle.buffers.proofs.Split.{split}
use Rattle.spec.specs.Area.{state_byte}
use Rattle.spec.proofs.Slot.{state-not-free}
use Rattle.slots.specs.Kind.{format_of}
use Rattle.slots.proofs.SlotLaws.{blank-is-free}
use Rattle.slots.proofs.slot.Slot.is_free.Goals as goal

pub returns : goal.returns
returns c =
    let s = c.args.self.now in
    let x = s.bytes.now in
    split (eqb (state_byte x) 0)
    (λ e. e ∙ sym (blank-is-free (format_of s.kind) x s.shaped.1 (eqb-true (state_byte x) 0 e)))
    (λ e. e ∙ sym (state-not-free x (eqb-false (state_byte x) 0 e)))
