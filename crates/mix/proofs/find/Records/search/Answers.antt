-- `mix::find::Records::search`. The invariant: the slots that are left give what all give.
use Prim.Native.Nat.{◌<◌}
use mathlib.Core.Path.{sym, ap, ◌∙◌}
use mathlib.Core.List.{List, []}
use Prim.Native.Nat.{ℕ, suc}
use native.Mathlib.Numerals.{add-one}
use native.Mathlib.Omega.{arith}
use lib.ListN.{length, get_or, drop, drop_of_length-le}
use lib.Seq.{drop-cons}
use Rattle.spec.specs.Area.{kv_format, slots}
use Rattle.spec.proofs.Chunks.{slots_length}
use Rattle.mix.specs.Search.{scan}
use Rattle.store.proofs.Tests.{refused_number, handed_on}
use Rattle.mix.proofs.Scan.{scan-stops, scan-on}
use Rattle.mix.proofs.find.Records.search.Goals as goal

pub returns-in_err-seen : goal.returns-in_err-seen
returns-in_err-seen c =
    let r = c.args.self.now in
    let e = c.in_err-seen.field-0.0 in
    let i = c.loop-i.i in
    let l = slots kv_format r.kv.now in
    let n = rw (c.card.ensures.0, c.card.ensures.1) at c.slot_count-i-end.ensures in
    let h : i < length l = omega (arith, slots_length kv_format r.kv.now, n, c.loop-i-test.true) in
    rw (handed_on _ e c.from_residual.ensures)
    (scan-stops r.kv.now r.rbp.now r.device.now.key c.args.session_id i (get_or l i []) (drop (suc i) l) c.loop-i.seen _ (refused_number e) c.in_err-seen.ensures
    ∙ ap (λ (m : List (List ℕ)). scan r.kv.now r.rbp.now r.device.now.key c.args.session_id i m c.loop-i.seen) (sym (drop-cons l i [] h))
    ∙ c.loop-i.invariant)

pub loop-i-preserved : goal.loop-i-preserved
loop-i-preserved c =
    let r = c.args.self.now in
    let i = c.loop-i.i in
    let l = slots kv_format r.kv.now in
    let n = rw (c.card.ensures.0, c.card.ensures.1) at c.slot_count-i-end.ensures in
    let h : i < length l = omega (arith, slots_length kv_format r.kv.now, n, c.loop-i-test.true) in
    rw (add-one i)
    (scan-on r.kv.now r.rbp.now r.device.now.key c.args.session_id i (get_or l i []) (drop (suc i) l) c.loop-i.seen _ c.in_ok-seen.ensures
    ∙ ap (λ (m : List (List ℕ)). scan r.kv.now r.rbp.now r.device.now.key c.args.session_id i m c.loop-i.seen) (sym (drop-cons l i [] h))
    ∙ c.loop-i.invariant)

pub returns : goal.returns
returns c =
    let r = c.args.self.now in
    let l = slots kv_format r.kv.now in
    let n = rw (c.card.ensures.0, c.card.ensures.1) at c.slot_count-i-end.ensures in
    let e = drop_of_length-le l {i = c.loop-i.i} (omega (arith, slots_length kv_format r.kv.now, n, c.loop-i-test.false)) in
    sym (ap (λ (m : List (List ℕ)). scan r.kv.now r.rbp.now r.device.now.key c.args.session_id c.loop-i.i m c.loop-i.seen) e) ∙ c.loop-i.invariant
