-- `store::set::set`: what the judgement says, then the record is written.
use mathlib.Core.Path.{sym, ap, ◌∙◌}
use Prim.Native.Nat.{ℕ}
use native.Mathlib.Omega.{arith}
use Rattle.spec.specs.Calls.{areas}
use Rattle.store.specs.Answers.{status_of}
use Rattle.store.specs.Parts.{judgement, record_written}
use Rattle.store.proofs.Tests.{refused_number, handed_status}
use Rattle.store.proofs.Judged.{Left}
use Rattle.store.proofs.SetCall.{set-refused, set_accepted}
use Rattle.store.proofs.set.set.Goals as goal

pub returns-in_err-judged : goal.returns-in_err-judged
returns-in_err-judged c =
    let args = c.args in
    let judge = c.judge-judged in
    let was = ap status_of c.in_err-judged.was in
    ap (λ (s : ℕ). Left s (areas args.kv.now args.rbp.now)) (handed_status _ _ c.from_residual.ensures ∙ sym was)
    ∙ set-refused args.kv.now args.rbp.now args.device_key.now args.name.now args.flags args.iv.now args.«data».now
    (judgement judge.result) judge.ensures (λ z. refused_number _ (sym was ∙ z))

pub array-key-requires : goal.array-key-requires
array-key-requires c =
    let args = c.args in
    let judge = c.judge-judged in
    let a = set_accepted args.kv.now args.rbp.now args.device_key.now args.name.now args.flags args.iv.now args.«data».now
    (judgement judge.result) judge.ensures (ap status_of c.in_ok-judged.was) in
    (omega arith, a.key_is_sized)

pub array-iv8-requires : goal.array-iv8-requires
array-iv8-requires c =
    let args = c.args in
    let judge = c.judge-judged in
    let a = set_accepted args.kv.now args.rbp.now args.device_key.now args.name.now args.flags args.iv.now args.«data».now
    (judgement judge.result) judge.ensures (ap status_of c.in_ok-judged.was) in
    (omega arith, a.iv_is_sized)

pub write_record-requires : goal.write_record-requires
write_record-requires c =
    let args = c.args in
    let judge = c.judge-judged in
    let a = set_accepted args.kv.now args.rbp.now args.device_key.now args.name.now args.flags args.iv.now args.«data».now
    (judgement judge.result) judge.ensures (ap status_of c.in_ok-judged.was) in
    record { undamaged = a.undamaged; can_insert = (a.kv_slot, a.rbp_slot); name_value = (a.name_valid, rw c.array-iv8.ensures a.sealable) }

pub returns : goal.returns
returns c =
    let args = c.args in
    let judge = c.judge-judged in
    let a = set_accepted args.kv.now args.rbp.now args.device_key.now args.name.now args.flags args.iv.now args.«data».now
    (judgement judge.result) judge.ensures (ap status_of c.in_ok-judged.was) in
    let key = c.array-key.ensures in
    let iv = c.array-iv8.ensures in
    let j = judge.result in
    let n = args.name.now in
    a.done _
    (c.write_record.ensures ∙ λ i. record_written args.kv.now args.rbp.now j.found j.entry (key i) n args.flags (iv i) args.«data».now)
