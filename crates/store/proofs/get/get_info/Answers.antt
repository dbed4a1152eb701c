-- `store::get::get_info`: what the judgement says, then size and flags are read.
use mathlib.Core.Path.{sym, ap, ◌∙◌}
use mathlib.Core.List.{[], ◌∷◌}
use Prim.Native.Nat.{ℕ}
use Rattle.std.specs.Prelude.{Result}
use Rattle.spec.specs.Status.{Answer}
use Rattle.store.specs.declared.answers.Info.{Info}
use Rattle.store.specs.declared.status.Refusal.{Refusal}
use Rattle.store.specs.Answers.{status_of, value_or, no_info}
use Rattle.store.specs.Parts.{judgement}
use Rattle.store.proofs.Tests.{refused_number, handed_on}
use Rattle.store.proofs.GetCall.{info-refused, info-done}
use Rattle.store.proofs.get.get_info.Goals as goal

abbrev answer : Result Info Refusal → Answer
answer r = record { status = status_of r; numbers = (value_or no_info r).data_size ∷ (value_or no_info r).flags ∷ []; output = [] }

abbrev refused : ℕ → Answer
refused s = record { status = s; numbers = 0 ∷ 0 ∷ []; output = [] }

pub returns-in_err-stored : goal.returns-in_err-stored
returns-in_err-stored c =
    let args = c.args in
    let judge = c.judge in
    let was = ap status_of c.in_err-stored.was in
    ap answer (handed_on _ _ c.from_residual.ensures)
    ∙ ap refused (sym was)
    ∙ info-refused args.kv.now args.rbp.now args.device_key.now args.name.now (judgement judge.result) judge.ensures.judged (λ z. refused_number _ (sym was ∙ z))

pub returns : goal.returns
returns c =
    let args = c.args in
    let judge = c.judge in
    let seen = rw c.in_ok-stored.was at judge.ensures.stored in
    info-done args.kv.now args.rbp.now args.device_key.now args.name.now (judgement judge.result) judge.ensures.judged (ap status_of c.in_ok-stored.was)
    _ seen c.data_size.result c.flags.result c.data_size.ensures c.flags.ensures
