-- `slots::areas::slot_count`.
use native.Mathlib.Omega.{arith}
use Rattle.slots.proofs.KindLaws.{kind-laws}
use Rattle.slots.proofs.areas.slot_count.Goals as goal

pub nonzero_div-result : goal.nonzero_div-result
nonzero_div-result c =
    let args = c.args in
    let p = (kind-laws args.kind).positive in omega (arith, c.slot_size.ensures)

pub returns : goal.returns
returns c = rw c.slot_size.ensures
