-- `text::parts::part_start`. The invariant: the part to come starts as far behind `i` as part `left` of the text from there on.
use mathlib.Core.Path.{◌≡◌}
use native.Mathlib.Omega.{arith}
use lib.ListN.{drop}
use Rattle.text.proofs.PartSteps.{start_first}
use Rattle.text.proofs.parts.part_start.Goals as goal

pub returns-then-left-eq0 : goal.returns-then-left-eq0
returns-then-left-eq0 c =
    let l = c.loop-i in
    let a = c.args in
    let e : l.left ≡ 0 = omega arith in
    omega (arith, start_first a.separator (drop l.i a.s.now), rw e at l.invariant)
