-- `text::parts::part`: the part lies between its start and the separator that is found from there on.
use mathlib.Core.Path.{◌≡◌}
use Prim.Native.Nat.{◌+◌}
use native.Mathlib.Omega.{arith}
use Rattle.text.specs.Parts.{part_start}
use Rattle.text.proofs.PartSteps.{start-within, part-found}
use borrow.Author.Rules.{rules}
use Rattle.text.proofs.parts.part.Goals as goal

pub find-end-requires : goal.find-end-requires
find-end-requires c =
    let a = c.args in
    let h = start-within a.separator a.s.now a.k in
    let at = c.part_start-from.ensures in
    (omega arith, search rules)

pub returns : goal.returns
returns c =
    let a = c.args in
    let at = c.part_start-from.ensures in
    let place : c.part_start-from.result + a.s.ref_ptr.1 ≡ a.s.ref_ptr.1 + part_start a.separator a.s.now a.k = omega arith in (
      part-found a.separator a.s.now a.k c.part_start-from.result c.find-end.result at c.find-end.ensures.place,
      λ i. (a.s.ref_ptr.0, place i),
    )
