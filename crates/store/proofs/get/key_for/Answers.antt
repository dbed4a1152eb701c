-- `store::get::key_for`: prepared where the flags ask for keys, and the same key in either case.
use mathlib.Core.Path.{ap, ◌∙◌}
use Prim.Native.Nat.{ℕ}
use Rattle.records.specs.Parts.{needs_keys}
use Rattle.records.proofs.Needs.{key-kept, ready_for}
use Rattle.spec.specs.Record.{flags_of}
use Rattle.store.proofs.get.key_for.Goals as goal

pub returns : goal.returns
returns c =
    let prepare-if = c.prepare_if in
    let array16 = c.array in
    let needs-keys = c.needs_keys-wanted in
    let record-flags = c.flags in
    let args = c.args in
    let asked = needs-keys.ensures ∙ ap (λ (f : ℕ). needs_keys f) record-flags.ensures in record {
      key_value = key-kept needs-keys.result array16.result prepare-if.result prepare-if.ensures ∙ array16.ensures;
      ready_for = ready_for needs-keys.result array16.result prepare-if.result prepare-if.ensures (flags_of args.stored.bytes.now) asked;
    }
