-- `buffers::compare::precedes`. The invariant: what is left of both decides.
use mathlib.Core.Path.{◌≡◌, sym, ◌∙◌}
use Prim.Native.Nat.{◌+◌, ◌*◌, ◌/◌, ◌≤◌}
use native.Mathlib.Omega.{arith}
use lib.ListN.{length}
use Rattle.buffers.proofs.Order.{four-differ, four_same}
use Rattle.buffers.proofs.compare.precedes.Goals as goal

pub returns-then-x-y : goal.returns-then-x-y
returns-then-x-y c =
    let args = c.args in
    let fa = c.type_inv.a in
    let fb = c.type_inv.b in
    let x = c.be32_at-x in
    let y = c.be32_at-y in
    let ha : 4 * c.loop-i.i + 4 ≤ length args.a.now = omega (arith, c.min-words.ensures, c.loop-i-test.true) in
    let hb : 4 * c.loop-i.i + 4 ≤ length args.b.now = omega (arith, c.min-words.ensures, c.loop-i-test.true) in
    sym (four-differ args.a.now args.b.now (4 * c.loop-i.i) (λ j. (fa j).fits) (λ j. (fb j).fits) x.result y.result ha hb
    x.ensures y.ensures c.if-x-y.true) ∙ c.loop-i.invariant

pub loop-i-preserved : goal.loop-i-preserved
loop-i-preserved c =
    let args = c.args in
    let fa = c.type_inv.a in
    let fb = c.type_inv.b in
    let x = c.be32_at-x in
    let y = c.be32_at-y in
    let i = c.loop-i.i in
    let ha : 4 * i + 4 ≤ length args.a.now = omega (arith, c.min-words.ensures, c.loop-i-test.true) in
    let hb : 4 * i + 4 ≤ length args.b.now = omega (arith, c.min-words.ensures, c.loop-i-test.true) in
    let e : 4 * (i + 1) ≡ 4 * i + 4 = omega arith in
    rw e (four_same args.a.now args.b.now (4 * i) (λ j. (fa j).fits) (λ j. (fb j).fits) x.result y.result ha hb
    x.ensures y.ensures c.if-x-y.false ∙ c.loop-i.invariant)

pub returns : goal.returns
returns c =
    let i : c.loop-i.i ≡ c.min-words.result / 4 = omega (arith, c.loop-i.auto.i-end, c.loop-i-test.false) in
    c.precedes_from.ensures ∙ (rw i at c.loop-i.invariant)
