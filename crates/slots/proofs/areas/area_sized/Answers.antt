-- `slots::areas::area_sized`: the three tests of the length.
use native.Mathlib.Nat.{div-mul-le_self}
use native.Mathlib.Omega.{arith}
use Rattle.std.proofs.lemmas.Bool.Decides.{nat_tests}
use lib.ListN.{length}
use Rattle.spec.specs.Area.{sized}
use Rattle.slots.proofs.KindLaws.{kind-laws}
use Rattle.slots.proofs.areas.area_sized.Goals as goal

pub nonzero_div-k : goal.nonzero_div-k
nonzero_div-k c =
    let args = c.args in
    let p = (kind-laws args.kind).positive in omega (arith, c.slot_size-w.ensures)

pub overflow_mul-k : goal.overflow_mul-k
overflow_mul-k c =
    let args = c.args in
    omega (arith, div-mul-le_self (length args.area.now) c.slot_size-w.result)

pub returns-then-k-ge1 : goal.returns-then-k-ge1
unfolding sized
returns-then-k-ge1 c = rw (← c.slot_size-w.ensures) (grind (arith, nat_tests))

pub returns-else-k-ge1 : goal.returns-else-k-ge1
unfolding sized
returns-else-k-ge1 c = rw (← c.slot_size-w.ensures) (grind (arith, nat_tests))
