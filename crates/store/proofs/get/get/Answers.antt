-- `store::get::get`: 1 to 3, then what needs no key, then what the record gives.
use mathlib.Core.Path.{sym, ◌∙◌}
use Rattle.store.specs.Parts.{binding}
use Rattle.store.proofs.Given.{keyless_given}
use Rattle.store.proofs.Tests.{refused_number, handed_answer}
use Rattle.store.proofs.GetCall.{get-sane, get_key, got_early, keyless_refused, got_record}
use Rattle.store.proofs.get.get.Goals as goal

pub returns-in_err-early_status : goal.returns-in_err-early_status
returns-in_err-early_status c =
    let args = c.args in
    handed_answer _ _ args.output.now c.from_residual.ensures
    ∙ got_early args.kv.now args.rbp.now args.device_key.now args.name.now args.offset args.output.now _ c.in_err-early_status.ensures (refused_number _)

pub look_up-requires : goal.look_up-requires
look_up-requires c = get-sane c.args.kv.now c.args.rbp.now c.args.device_key.now c.args.name.now (sym c.in_ok-early_status.ensures)

pub returns-in_err-stored : goal.returns-in_err-stored
returns-in_err-stored c =
    let args = c.args in
    let b = binding c.look_up.result.held in
    handed_answer _ _ args.output.now c.from_residual-in_err-stored.ensures
    ∙ keyless_refused args.kv.now args.rbp.now args.device_key.now args.name.now args.offset (sym c.in_ok-early_status.ensures)
    b c.look_up.ensures.held args.output.now _ (c.in_err-stored.ensures.tests ∙ keyless_given c.look_up.result.held _ c.is_some.ensures) (refused_number _)

pub key_for-device-requires : goal.key_for-device-requires
key_for-device-requires c = get_key c.args.kv.now c.args.rbp.now c.args.device_key.now c.args.name.now (sym c.in_ok-early_status.ensures)

pub returns : goal.returns
returns c =
    let args = c.args in
    let b = binding c.look_up.result.held in
    let seen = c.in_ok-stored in
    c.get_record.ensures
    ∙ got_record args.kv.now args.rbp.now args.device_key.now args.name.now args.offset (sym c.in_ok-early_status.ensures)
    b c.look_up.ensures.held (seen.ensures.tests ∙ keyless_given c.look_up.result.held _ c.is_some.ensures) seen.stored.bytes.now seen.ensures.stored _ c.key_for-device.ensures.key_value args.output.now
