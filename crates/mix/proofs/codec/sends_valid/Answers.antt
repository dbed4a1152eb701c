-- `mix::codec::sends_valid`. The invariant: what is left decides.
use mathlib.Core.Path.{ap, ◌∙◌}
use mathlib.Core.List.{[]}
use native.Mathlib.Numerals.{add-one}
use native.Mathlib.Omega.{arith}
use lib.ListN.{drop}
use Rattle.spec.proofs.Chunks.{length-chunks}
use Rattle.mix.specs.Mix.{sends_at}
use Rattle.mix.specs.Send.{send_valid}
use Rattle.mix.proofs.Lists.{every_here, every-next, every-end}
use Rattle.mix.proofs.Parts.{part-size, part-is}
use mathlib.Core.Path.{sym}
use Rattle.mix.proofs.codec.sends_valid.Goals as goal

pub send_valid-requires : goal.send_valid-requires
send_valid-requires c = part-size c.args.b.now c.args.count c.loop-i.i c.requires.0 c.loop-i-test.true

pub returns-then-not-send_valid : goal.returns-then-not-send_valid
returns-then-not-send_valid c =
    let b = c.args.b.now in
    let n = c.args.count in
    let i = c.loop-i.i in
    let h = c.loop-i-test.true in
    let bad = sym (c.send_valid.ensures ∙ ap send_valid (part-is b n i h)) ∙ c.if-not-send_valid.true in
    every_here send_valid (sends_at n b) [] i (omega (arith, length-chunks 9 n (drop 9 b), h)) bad ∙ c.loop-i.invariant

pub loop-i-preserved : goal.loop-i-preserved
loop-i-preserved c =
    let b = c.args.b.now in
    let n = c.args.count in
    let i = c.loop-i.i in
    let h = c.loop-i-test.true in
    let good = sym (c.send_valid.ensures ∙ ap send_valid (part-is b n i h)) ∙ c.if-not-send_valid.false in
    rw (add-one i) (every-next send_valid (sends_at n b) [] i (omega (arith, length-chunks 9 n (drop 9 b), h)) good ∙ c.loop-i.invariant)

pub returns : goal.returns
returns c =
    let b = c.args.b.now in
    let n = c.args.count in
    every-end send_valid (sends_at n b) c.loop-i.i (omega (arith, length-chunks 9 n (drop 9 b), c.loop-i-test.false)) ∙ c.loop-i.invariant
