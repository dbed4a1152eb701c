-- `ffi::incremental_calls::securestore_set_finalize`: the store's call on the handle that the bytes are.
use mathlib.Core.Path.{ap, ◌∙◌}
use mathlib.Core.List.{[]}
use Prim.Native.Nat.{ℕ}
use Rattle.spec.specs.Incremental.{store_set_finalize}
use Rattle.spec.specs.declared.incremental.IncSetHandle.{IncSetHandle}
use Rattle.ffi.proofs.incremental_calls.securestore_set_finalize.Goals as goal

pub returns : goal.returns
returns c =
    let args = c.args in
    let decode-handle = c.decode_handle in
    let set-finalize = c.set_finalize in
    ap (λ (s : ℕ). record { answer = record { status = s; numbers = []; output = [] }; after = record { kv = set-finalize.new.kv; rbp = set-finalize.new.rbp } }) c.number.ensures
    ∙ set-finalize.ensures
    ∙ ap (λ (h : IncSetHandle). store_set_finalize args.kv.now args.rbp.now args.device_key.now h args.staging.now) decode-handle.ensures
