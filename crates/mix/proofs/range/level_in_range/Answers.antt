-- `mix::range::level_in_range`: both comparisons. The bits of each constant are those of its end.
use mathlib.Core.Path.{sym, ap, ◌∙◌}
use mathlib.Core.Bool.{Bool, ◌&&◌}
use lib.Ieee
use lib.Ieee.{le}
use Rattle.mix.specs.Range.{four, level_in_range}
use Rattle.mix.proofs.range.level_in_range.Goals as goal

pub returns-then-level : goal.returns-then-level
unfolding Ieee.of_bits level_in_range
returns-then-level c = sym (ap (λ (t : Bool). t && le c.args.level four) c.if-level.true)

pub returns-else-level : goal.returns-else-level
unfolding Ieee.of_bits level_in_range
returns-else-level c = c.if-level.false ∙ sym (ap (λ (t : Bool). t && le c.args.level four) c.if-level.false)
