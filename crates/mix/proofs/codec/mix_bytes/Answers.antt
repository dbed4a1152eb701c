-- `mix::codec::mix_bytes`: the header, then the sends.
use mathlib.Core.Path.{◌≡◌, ap, ◌∙◌}
use mathlib.Core.List.{◌++◌, map, flatten}
use Prim.Native.Nat.{ℕ, ◌+◌, ◌*◌}
use native.Mathlib.Omega.{arith}
use borrow.Author.Rules.{rules}
use lib.ListN.{length, take, drop}
use lib.Seq.{length-take-le}
use Rattle.mix.specs.Send.{send_bytes}
use Rattle.mix.specs.Mix.{counted}
use Rattle.mix.proofs.MixLaws.{bytes-size}
use Rattle.mix.proofs.Encoded.{range-parts, bytes-filled}
use Rattle.mix.proofs.codec.mix_bytes.Goals as goal

pub shared_ref_as_front-put_sends : goal.shared_ref_as_front-put_sends
shared_ref_as_front-put_sends c = (range-parts c.args.mix c.requires).0

pub put_sends-requires : goal.put_sends-requires
put_sends-requires c =
    let m = c.args.mix in
    let p = range-parts m c.requires in
    let all : length m.sends ≡ 16 = search rules in
    let n = length-take-le m.count m.sends (omega (arith, all, p.0)) in
    (omega (arith, n, p.0), p.1)

pub returns : goal.returns
returns c =
    let m = c.args.mix in
    let head = c.header_bytes-header.result in
    let p = range-parts m c.requires in
    let all : length m.sends ≡ 16 = search rules in
    let n = length-take-le m.count m.sends (omega (arith, all, p.0)) in
    let size = bytes-size m all p.0 in
    let sends = take 9 head ++ flatten (map send_bytes (counted m)) in
    let value = c.put_sends.ensures ∙ ap (λ (k : ℕ). sends ++ drop (9 + 9 * k) head) n in
    record { value = bytes-filled m size _ _ c.header_bytes-header.ensures value; mix_len = size }
