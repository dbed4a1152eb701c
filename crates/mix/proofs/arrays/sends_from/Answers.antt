-- `mix::arrays::sends_from`. The invariant: the sends passed, and muted ones.
use mathlib.Core.Path.{◌≡◌, refl}
use native.Mathlib.Numerals.{add-one}
use native.Mathlib.Omega.{arith}
use lib.ListN.{length, replicate}
use Rattle.mix.specs.declared.monitor.AuxSend.TheVariants.{Muted}
use Rattle.mix.proofs.ArrayLaws.{send-more, sends-whole}
use Rattle.mix.proofs.arrays.sends_from.Goals as goal

pub loop-i-preserved : goal.loop-i-preserved
loop-i-preserved c =
    let a = c.args in
    let i = c.loop-i.i in
    let h = c.loop-i-test.true in
    rw (add-one i) (send-more a.tags.now a.levels.now a.pans.now c.requires.1 c.requires.2 (replicate 16 Muted) i
    _ _ h (omega (arith, h, c.requires.0)) c.send_from.ensures c.loop-i.invariant)

pub returns : goal.returns
returns c =
    let a = c.args in
    let e : c.loop-i.i ≡ length a.tags.now = omega (arith, c.loop-i.auto.i-end, c.loop-i-test.false) in
    sends-whole a.tags.now a.levels.now a.pans.now c.requires.1 c.requires.2 (replicate 16 Muted) c.loop-i.i _ e refl c.loop-i.invariant
