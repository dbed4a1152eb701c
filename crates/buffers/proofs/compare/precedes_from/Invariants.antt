-- `buffers::compare::precedes_from`. The invariant: what is left of both decides.
use mathlib.Core.Path.{◌≡◌}
use lib.ListN.{drop}
use Rattle.buffers.specs.Compare.{precedes}
use Rattle.buffers.proofs.compare.precedes_from.Given as goal

abbrev pub invariant-loop-i : goal.invariant-loop-i
invariant-loop-i l = precedes (drop l.i l.a) (drop l.i l.b) ≡ precedes (drop l.start l.a) (drop l.start l.b)
