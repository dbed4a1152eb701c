-- `buffers::compare::precedes_from`. The invariant: what is left of both decides.
use mathlib.Core.Path.{◌≡◌, sym, ◌∙◌}
use Prim.Native.Nat.{◌<◌, min}
use native.Mathlib.Numerals.{add-one}
use native.Mathlib.Omega.{arith}
use lib.ListN.{length}
use Rattle.buffers.proofs.Order.{ends-left, bytes_left, byte_left}
use Rattle.buffers.proofs.compare.precedes_from.Goals as goal

pub returns-then-a-i : goal.returns-then-a-i
returns-then-a-i c =
    let a = c.args.a.now in
    let b = c.args.b.now in
    let i = c.loop-i.i in
    let ha : i < length a = omega (arith, c.min-i-end.ensures, c.loop-i-test.true) in
    let hb : i < length b = omega (arith, c.min-i-end.ensures, c.loop-i-test.true) in
    sym (byte_left a b i ha hb c.if-a-i.true) ∙ c.loop-i.invariant

pub loop-i-preserved : goal.loop-i-preserved
loop-i-preserved c =
    let a = c.args.a.now in
    let b = c.args.b.now in
    let i = c.loop-i.i in
    let ha : i < length a = omega (arith, c.min-i-end.ensures, c.loop-i-test.true) in
    let hb : i < length b = omega (arith, c.min-i-end.ensures, c.loop-i-test.true) in
    rw add-one (bytes_left a b i ha hb c.if-a-i.false ∙ c.loop-i.invariant)

pub returns : goal.returns
returns c =
    let a = c.args.a.now in
    let b = c.args.b.now in
    let i : c.loop-i.i ≡ min (length a) (length b) =
    omega (arith, c.requires, c.min-i-end.ensures, c.loop-i.auto.i-end, c.loop-i-test.false) in
    sym (ends-left a b c.loop-i.i i) ∙ c.loop-i.invariant
