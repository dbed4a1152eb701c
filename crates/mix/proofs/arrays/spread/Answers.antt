-- `mix::arrays::spread`: each array holds the parts of one send more after each turn.
use mathlib.Core.Path.{◌≡◌}
use native.Mathlib.Numerals.{add-one}
use native.Mathlib.Omega.{arith}
use borrow.Author.Rules.{rules}
use lib.ListN.{length, take}
use lib.Seq.{length-take-le, take-length}
use Rattle.mix.specs.Arrays.{send_tag, send_level, send_pan, spread_over}
use Rattle.mix.specs.declared.monitor.AuxSend.TheVariants.{Muted}
use Rattle.mix.proofs.ArrayLaws.{part-more}
use Rattle.mix.proofs.arrays.spread.Goals as goal

pub loop-i-preserved : goal.loop-i-preserved
loop-i-preserved c =
    let a = c.args in
    let sends = take a.mix.count a.mix.sends in
    let i = c.loop-i.i in
    let h = c.loop-i-test.true in
    let all : length a.mix.sends ≡ 16 = search rules in
    let n = length-take-le a.mix.count a.mix.sends (omega (arith, all, c.requires.0)) in
    let t = part-more send_tag i sends Muted a.tags.now _ _ h (omega (arith, h, n, c.requires)) c.send_parts-tag.ensures.0 c.loop-i.invariant.0 in
    let l = part-more send_level i sends Muted a.levels.now _ _ h (omega (arith, h, n, c.requires)) c.send_parts-tag.ensures.1 c.loop-i.invariant.1 in
    let p = part-more send_pan i sends Muted a.pans.now _ _ h (omega (arith, h, n, c.requires)) c.send_parts-tag.ensures.2 c.loop-i.invariant.2 in
    (rw (add-one i) t, rw (add-one i) l, rw (add-one i) p)

pub returns : goal.returns
unfolding spread_over
returns c =
    let m = c.args.mix in
    let all : length m.sends ≡ 16 = search rules in
    let n = length-take-le m.count m.sends (omega (arith, all, c.requires.0)) in
    let e : c.loop-i.i ≡ length (take m.count m.sends) = omega (arith, c.loop-i.auto.i-end, c.loop-i-test.false) in
    rw (c.loop-i.invariant.0, c.loop-i.invariant.1, c.loop-i.invariant.2, e, take-length (take m.count m.sends), n)
