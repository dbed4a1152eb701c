-- `mix::codec::encode_mix`: 1, 20, then the bytes at the front of the buffer.
use mathlib.Core.Path.{sym, ap}
use mathlib.Core.List.{List}
use Prim.Native.Nat.{ℕ}
use native.Mathlib.Omega.{arith}
use lib.ListN.{length}
use Rattle.buffers.proofs.Lists.{in_front}
use Rattle.spec.proofs.Status.{answer-refused, answer-done}
use Rattle.store.proofs.Tests.{is_false, is_true}
use Rattle.mix.specs.Mix.{encode_mix}
use Rattle.mix.proofs.Encoded.{range-parts, bytes-part, short_buffer, out_of_range, encodes}
use Rattle.std.proofs.Common.{not}
use Rattle.mix.proofs.codec.encode_mix.Goals as goal

pub returns-then-mix_buf-lt-MAX_MIX : goal.returns-then-mix_buf-lt-MAX_MIX
unfolding encode_mix
returns-then-mix_buf-lt-MAX_MIX c =
    let buf = c.args.mix_buf.now in
    answer-refused 1 _ _ buf (short_buffer _ buf c.if-mix_buf-lt-MAX_MIX.true) (omega arith)

pub returns-then-not-mix_in_range : goal.returns-then-not-mix_in_range
unfolding encode_mix
returns-then-not-mix_in_range c =
    let buf = c.args.mix_buf.now in
    let bad = is_false c.mix_in_range.ensures (ap not c.if-not-mix_in_range.true) in
    answer-refused 20 _ _ buf (out_of_range _ buf c.if-mix_buf-lt-MAX_MIX.false bad) (omega arith)

pub mix_bytes-bytes-requires : goal.mix_bytes-bytes-requires
mix_bytes-bytes-requires c = is_true c.mix_in_range.ensures (ap not c.if-not-mix_in_range.false)

pub paste-requires : goal.paste-requires
paste-requires c =
    let m = c.args.mix in
    let ok = is_true c.mix_in_range.ensures (ap not c.if-not-mix_in_range.false) in
    let small = (range-parts m ok).0 in
    let size = c.mix_bytes-bytes.ensures.mix_len in
    let part = ap (λ (l : List ℕ). length l) (bytes-part m size _ c.mix_bytes-bytes.ensures.value) in
    omega (arith, part, size, small, c.if-mix_buf-lt-MAX_MIX.false)

pub returns : goal.returns
unfolding encode_mix
returns c =
    let m = c.args.mix in
    let ok = is_true c.mix_in_range.ensures (ap not c.if-not-mix_in_range.false) in
    let small = (range-parts m ok).0 in
    let size = c.mix_bytes-bytes.ensures.mix_len in
    let buf = c.args.mix_buf.now in
    let out = in_front _ _ buf _ c.paste.ensures (bytes-part m size _ c.mix_bytes-bytes.ensures.value) in
    answer-done _ _ _ buf _ (encodes _ buf c.if-mix_buf-lt-MAX_MIX.false ok) (sym size) out
