-- `mix::codec::decode_mix`: what stands in valid bytes.
use native.Mathlib.Omega.{arith}
use lib.ListN.{get_or}
use Rattle.store.proofs.Tests.{is_false, is_true}
use Rattle.mix.specs.Mix.{mix_of, decode_mix}
use Rattle.mix.proofs.Parts.{valid-parts}
use Rattle.std.proofs.Common.{ap, not}
use Rattle.mix.proofs.codec.decode_mix.Goals as goal

pub returns-then-not-mix_valid : goal.returns-then-not-mix_valid
unfolding decode_mix
returns-then-not-mix_valid c = rw (is_false c.mix_valid.ensures (ap not c.if-not-mix_valid.true))

pub bounds-b-8 : goal.bounds-b-8
bounds-b-8 c =
    let b = c.args.b.now in
    let p = valid-parts b (is_true c.mix_valid.ensures (ap not c.if-not-mix_valid.false)) in
    omega (arith, p.header)

pub session_at-requires : goal.session_at-requires
session_at-requires c =
    let b = c.args.b.now in
    let p = valid-parts b (is_true c.mix_valid.ensures (ap not c.if-not-mix_valid.false)) in
    omega (arith, p.header)

pub read_sends-requires : goal.read_sends-requires
read_sends-requires c =
    let b = c.args.b.now in
    let p = valid-parts b (is_true c.mix_valid.ensures (ap not c.if-not-mix_valid.false)) in
    (p.whole, p.small, p.sends)

pub returns : goal.returns
unfolding decode_mix mix_of
returns c =
    let b = c.args.b.now in
    rw (is_true c.mix_valid.ensures (ap not c.if-not-mix_valid.false))
    (λ i. record { status = 0; mix = record { session_id = c.session_at.ensures i; count = get_or b 8 0; sends = c.read_sends.ensures i } })
