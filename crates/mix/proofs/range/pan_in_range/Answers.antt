-- `mix::range::pan_in_range`: both comparisons. The bits of each constant are those of its end.
use mathlib.Core.Path.{sym, ap, ◌∙◌}
use mathlib.Core.Bool.{Bool, ◌&&◌}
use lib.Ieee
use lib.Ieee.{le}
use Rattle.mix.specs.Range.{one, pan_in_range}
use Rattle.mix.proofs.range.pan_in_range.Goals as goal

pub returns-then-pan : goal.returns-then-pan
unfolding Ieee.of_bits Ieee.neg pan_in_range
returns-then-pan c = sym (ap (λ (t : Bool). t && le c.args.pan one) c.if-pan.true)

pub returns-else-pan : goal.returns-else-pan
unfolding Ieee.of_bits Ieee.neg pan_in_range
returns-else-pan c = c.if-pan.false ∙ sym (ap (λ (t : Bool). t && le c.args.pan one) c.if-pan.false)
