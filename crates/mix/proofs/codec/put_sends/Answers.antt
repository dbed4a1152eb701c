-- `mix::codec::put_sends`. The invariant: the header, the sends passed, and what stood behind them.
use Prim.Native.Nat.{ℕ, ◌+◌, ◌*◌, ◌≤◌}
use mathlib.Core.Path.{◌≡◌, sym, ap, ◌∙◌}
use mathlib.Core.List.{List, ◌++◌, map, flatten, append-nil, append_assoc}
use native.Mathlib.Numerals.{add-one}
use native.Mathlib.Omega.{arith}
use borrow.Author.Rules.{rules}
use lib.ListN.{take, drop, length, get_or, length-append, take-append-drop}
use lib.Seq.{take-suc, take-length, length-take-le}
use Rattle.buffers.specs.Bytes.{put_at}
use Rattle.spec.proofs.First.{every-index}
use Rattle.mix.specs.Send.{send_in_range, send_bytes}
use Rattle.mix.specs.declared.monitor.AuxSend.{AuxSend}
use Rattle.mix.specs.declared.monitor.AuxSend.TheVariants.{Muted}
use Rattle.mix.proofs.SendLaws.{send-long}
use Rattle.mix.proofs.MixLaws.{sends-size}
use Rattle.mix.proofs.Lists.{flatten-snoc, put-more}
use Rattle.mix.proofs.codec.put_sends.Goals as goal

-- what stands before the place of a send
front-size : (sends : List AuxSend) (head : List ℕ) (i : ℕ) → length head ≡ 153 → i ≤ length sends
    → length (take 9 head ++ flatten (map send_bytes (take i sends))) ≡ 9 + 9 * i
front-size sends head i h few =
    let part = take i sends in
    let a = length-append (take 9 head) (flatten (map send_bytes part)) in
    let b = length-take-le 9 head (omega (arith, h)) in
    let d = length-take-le i sends few in
    omega (arith, a, b, d, sends-size part)

pub loop-i-init : goal.loop-i-init
unfolding flatten
loop-i-init c =
    let head = c.args.header in
    sym (ap (λ (l : List ℕ). l ++ drop 9 head) (append-nil (take 9 head)) ∙ take-append-drop 9 head)

pub encode_send-bytes-requires : goal.encode_send-bytes-requires
encode_send-bytes-requires c = every-index send_in_range c.args.sends.now Muted c.requires.1 c.loop-i.i c.loop-i-test.true

pub loop-i-preserved : goal.loop-i-preserved
loop-i-preserved c =
    let sends = c.args.sends.now in
    let head = c.args.header in
    let i = c.loop-i.i in
    let h = c.loop-i-test.true in
    let full : length head ≡ 153 = search rules in
    let size = ap (λ (l : List ℕ). length l) c.encode_send-bytes.ensures ∙ send-long (get_or sends i Muted) in
    let front = take 9 head ++ flatten (map send_bytes (take i sends)) in
    let k : 9 + 9 * i + length c.encode_send-bytes.result ≡ 9 + 9 * (i + 1) = omega (arith, size) in
    let x = get_or sends i Muted in
    let snoc : flatten (map send_bytes (take (i + 1) sends)) ≡ flatten (map send_bytes (take i sends)) ++ send_bytes x =
    rw (add-one i, take-suc sends i Muted h) (flatten-snoc send_bytes (take i sends) x) in
    let more : front ++ c.encode_send-bytes.result ≡ take 9 head ++ flatten (map send_bytes (take (i + 1) sends)) =
    ap (λ (l : List ℕ). front ++ l) c.encode_send-bytes.ensures
    ∙ append_assoc (take 9 head) (flatten (map send_bytes (take i sends))) (send_bytes x) ∙ ap (λ (l : List ℕ). take 9 head ++ l) (sym snoc) in
    c.paste.ensures ∙ ap (λ (l : List ℕ). put_at l (9 + 9 * i) c.encode_send-bytes.result) c.loop-i.invariant
    ∙ put-more head front c.encode_send-bytes.result (9 + 9 * i) (9 + 9 * (i + 1)) (front-size sends head i full (omega arith)) k
    ∙ ap (λ (l : List ℕ). l ++ drop (9 + 9 * (i + 1)) head) more

pub returns : goal.returns
returns c =
    let sends = c.args.sends.now in
    let e : c.loop-i.i ≡ length sends = omega (arith, c.loop-i.auto.i-end, c.loop-i-test.false) in
    let front : List AuxSend → List ℕ = λ l. take 9 c.args.header ++ flatten (map send_bytes l) in
    c.loop-i.invariant ∙ ap (λ (k : ℕ). front (take k sends) ++ drop (9 + 9 * k) c.args.header) e
    ∙ ap (λ (l : List AuxSend). front l ++ drop (9 + 9 * length sends) c.args.header) (take-length sends)
