-- `mix::codec::read_sends`. The invariant: the sends passed, and muted ones.
use mathlib.Core.Path.{◌≡◌, refl, ap, ◌∙◌}
use mathlib.Core.List.{[]}
use Prim.Native.Nat.{ℕ}
use native.Mathlib.Omega.{arith}
use lib.ListN.{drop, set}
use Rattle.spec.proofs.Chunks.{length-chunks}
use Rattle.spec.proofs.First.{every-index}
use Rattle.mix.specs.Mix.{sends_at, read_sends}
use Rattle.mix.specs.Send.{send_valid}
use Rattle.mix.proofs.Parts.{part-size, part-is, read_next}
use Rattle.mix.proofs.codec.read_sends.Goals as goal

pub loop-i-init : goal.loop-i-init
unfolding read_sends
loop-i-init c = refl

pub decode_send-requires : goal.decode_send-requires
decode_send-requires c =
    let b = c.args.b.now in
    let n = c.args.count in
    let i = c.loop-i.i in
    let h = c.loop-i-test.true in
    let good = every-index send_valid (sends_at n b) [] c.requires.2 i (omega (arith, length-chunks 9 n (drop 9 b), h)) in
    (part-size b n i c.requires.0 h, ap send_valid (part-is b n i h) ∙ good)

pub loop-i-preserved : goal.loop-i-preserved
loop-i-preserved c =
    let i = c.loop-i.i in
    (λ j. set (c.loop-i.invariant j) i (c.decode_send.ensures j)) ∙ read_next c.args.b.now i (omega (arith, c.loop-i-test.true, c.requires.1))

pub returns : goal.returns
returns c =
    let e : c.loop-i.i ≡ c.args.count = omega (arith, c.loop-i.auto.i-end, c.loop-i-test.false) in
    c.loop-i.invariant ∙ ap (λ (n : ℕ). read_sends n c.args.b.now) e
