-- `mix::arrays::sends_from`. The invariant: the sends passed, and muted ones.
use mathlib.Core.Path.{◌≡◌}
use mathlib.Core.List.{◌++◌}
use lib.ListN.{take, drop}
use Rattle.mix.specs.Arrays.{sends_from}
use Rattle.mix.proofs.arrays.sends_from.Given as goal

abbrev pub invariant-loop-i : goal.invariant-loop-i
invariant-loop-i l = l.sends ≡ sends_from (take l.i l.tags) (take l.i l.levels) (take l.i l.pans) ++ drop l.i l.initial.sends
