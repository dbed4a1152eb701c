-- `ffi::incremental_calls::securestore_set_start`: the store's call, and its handle in bytes.
use mathlib.Core.Path.{ap, ◌∙◌}
use Rattle.spec.specs.Status.{Answer}
use Rattle.spec.specs.Interleaving.{Outcome}
use Rattle.spec.specs.Incremental.{handle_bytes}
use Rattle.spec.specs.declared.incremental.IncSetHandle.{IncSetHandle}
use Rattle.ffi.proofs.incremental_calls.securestore_set_start.Goals as goal

pub returns : goal.returns
returns c =
    let set-start = c.set_start-answer in
    let e = set-start.ensures in
    record {
      value = c.number.ensures ∙ ap (λ (o : Outcome IncSetHandle Answer). o.answer.status) e;
      handle_after = c.encode_handle.ensures ∙ ap (λ (o : Outcome IncSetHandle Answer). handle_bytes o.after) e;
    }
