-- `text::parts::part_start`. The invariant: the part to come starts as far behind `i` as part `left` of the text from there on.
use mathlib.Core.Path.{◌≡◌}
use Prim.Native.Nat.{◌+◌}
use lib.ListN.{drop}
use Rattle.text.specs.Parts.{part_start}
use Rattle.text.proofs.parts.part_start.Given as goal

abbrev pub invariant-loop-i : goal.invariant-loop-i
invariant-loop-i l = l.i + part_start l.separator (drop l.i l.s) l.left ≡ part_start l.separator l.s l.k
