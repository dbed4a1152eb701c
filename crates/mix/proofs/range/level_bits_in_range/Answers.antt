-- `mix::range::level_bits_in_range`: the law of a level's bits.
use mathlib.Core.Path.{sym, ap, ◌∙◌}
use mathlib.Core.Bool.{Bool, ◌||◌}
use lib.Dec.{eqb}
use borrow.Author.Tests.{le-leb, lt-leb}
use Rattle.mix.proofs.Bits.{level-bits-is}
use Rattle.mix.proofs.range.level_bits_in_range.Goals as goal

pub returns-then-bits-le1082130432 : goal.returns-then-bits-le1082130432
returns-then-bits-le1082130432 c =
    let n = c.args.bits in
    let small = le-leb n 0x40800000 c.if-bits-le1082130432.true in
    small ∙ sym (level-bits-is n c.ranges.bits.fits ∙ ap (λ (t : Bool). t || eqb n 0x80000000) small)

pub returns-else-bits-le1082130432 : goal.returns-else-bits-le1082130432
returns-else-bits-le1082130432 c =
    let n = c.args.bits in
    sym (level-bits-is n c.ranges.bits.fits ∙ ap (λ (t : Bool). t || eqb n 0x80000000) (lt-leb n 0x40800000 c.if-bits-le1082130432.false))
