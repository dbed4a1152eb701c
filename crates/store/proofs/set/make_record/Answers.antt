-- `store::set::make_record`: the key is prepared for the record's own flags.
use mathlib.Core.Path.{ap, ◌∙◌}
use mathlib.Core.List.{List}
use Prim.Native.Nat.{ℕ}
use Rattle.buffers.specs.Bytes.{zero_fill}
use Rattle.records.proofs.Needs.{key-kept, ready_for}
use Rattle.spec.specs.Record.{seal_record}
use Rattle.store.proofs.set.make_record.Goals as goal

pub seal_record-requires : goal.seal_record-requires
seal_record-requires c =
    let prepare-if = c.prepare_if-device in
    let needs-keys = c.needs_keys in
    let args = c.args in
    record {
      value_len_bound = c.requires;
      ready_for = ready_for needs-keys.result args.device_key prepare-if.result prepare-if.ensures args.flags needs-keys.ensures;
    }

pub returns : goal.returns
returns c =
    let prepare-if = c.prepare_if-device in
    let needs-keys = c.needs_keys in
    let args = c.args in
    let own = key-kept needs-keys.result args.device_key prepare-if.result prepare-if.ensures in
    c.seal_record.ensures ∙ ap (λ (k : List ℕ). zero_fill 516 (seal_record k args.name.now args.flags args.iv args.«data».now)) own
