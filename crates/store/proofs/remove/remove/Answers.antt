-- `store::remove::remove`: what the judgement says, then the slots are taken out.
use mathlib.Core.Path.{sym, ap, ◌∙◌}
use Prim.Native.Nat.{ℕ}
use Rattle.spec.specs.Calls.{areas}
use Rattle.store.specs.Answers.{status_of}
use Rattle.store.specs.Parts.{judgement}
use Rattle.store.proofs.Tests.{refused_number, handed_status}
use Rattle.store.proofs.Judged.{Left}
use Rattle.store.proofs.RemoveCall.{remove-refused, remove_accepted}
use Rattle.store.proofs.remove.remove.Goals as goal

pub returns-in_err-flags : goal.returns-in_err-flags
returns-in_err-flags c =
    let kv = c.args.kv.now in
    let rbp = c.args.rbp.now in
    let judge = c.judge-judged in
    let was = ap status_of c.in_err-flags.was in
    ap (λ (s : ℕ). Left s (areas kv rbp)) (handed_status _ _ c.from_residual.ensures ∙ sym was)
    ∙ remove-refused kv rbp c.args.name.now (judgement judge.result) judge.ensures.judged (λ z. refused_number _ (sym was ∙ z))

pub erase_record-requires : goal.erase_record-requires
erase_record-requires c =
    let judge = c.judge-judged in
    let a = remove_accepted c.args.kv.now c.args.rbp.now c.args.name.now (judgement judge.result) judge.ensures.judged (ap status_of c.in_ok-flags.was) in
    record { undamaged = a.undamaged; held_value = (a.held, a.kv_found, a.rbp_found) }

pub returns : goal.returns
returns c =
    let judge = c.judge-judged in
    let a = remove_accepted c.args.kv.now c.args.rbp.now c.args.name.now (judgement judge.result) judge.ensures.judged (ap status_of c.in_ok-flags.was) in
    let known = rw c.in_ok-flags.was at judge.ensures.flags in
    a.done _ known _ c.erase_record.ensures
