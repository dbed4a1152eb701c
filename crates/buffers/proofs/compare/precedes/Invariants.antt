-- `buffers::compare::precedes`. The invariant: what is left of both decides.
use mathlib.Core.Path.{◌≡◌}
use Prim.Native.Nat.{◌*◌}
use lib.ListN.{drop}
use Rattle.buffers.specs.Compare.{precedes}
use Rattle.buffers.proofs.compare.precedes.Given as goal

abbrev pub invariant-loop-i : goal.invariant-loop-i
invariant-loop-i l = precedes (drop (4 * l.i) l.a) (drop (4 * l.i) l.b) ≡ precedes l.a l.b
