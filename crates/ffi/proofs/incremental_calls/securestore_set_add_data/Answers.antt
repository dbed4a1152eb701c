-- `ffi::incremental_calls::securestore_set_add_data`: the store's call on the handle that the bytes are.
use mathlib.Core.Path.{ap, ◌∙◌}
use Rattle.spec.specs.Status.{Answer}
use Rattle.spec.specs.Interleaving.{Outcome}
use Rattle.spec.specs.Incremental.{Staged, set_add_data, handle_bytes}
use Rattle.spec.specs.declared.incremental.IncSetHandle.{IncSetHandle}
use Rattle.ffi.proofs.incremental_calls.securestore_set_add_data.Goals as goal

pub returns : goal.returns
returns c =
    let args = c.args in
    let decode-handle = c.decode_handle in
    let set-add-data = c.set_add_data-answer in
    let encode-handle = c.encode_handle in
    let e = set-add-data.ensures ∙ ap (λ (h : IncSetHandle). set_add_data h args.staging.now args.chunk.now) decode-handle.ensures in record {
      value = c.number.ensures ∙ ap (λ (o : Outcome Staged Answer). o.answer.status) e;
      handle_after = encode-handle.ensures ∙ ap (λ (o : Outcome Staged Answer). handle_bytes o.after.handle) e;
      staging_after = ap (λ (o : Outcome Staged Answer). o.after.staging) e;
    }
