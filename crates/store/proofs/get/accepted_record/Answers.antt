-- `store::get::accepted_record`: what needs no key, then the rest.
use mathlib.Core.Path.{refl, sym, ap, ◌∙◌}
use Rattle.spec.specs.Decisions.{record_of, get_held}
use Rattle.spec.specs.Status.{first_of}
use Rattle.store.specs.Parts.{binding, keyless_tests, keyed_tests}
use Rattle.store.proofs.Given.{keyless_given}
use Rattle.store.proofs.Tests.{stopped, went_on, handed_status}
use Rattle.store.proofs.get.accepted_record.Goals as goal

pub returns-in_err-stored-clause-tests : goal.returns-in_err-stored-clause-tests
unfolding get_held
returns-in_err-stored-clause-tests c =
    let args = c.args in
    let b = binding args.held in
    stopped (keyless_tests b) (keyed_tests args.device_key.now args.name.now args.offset (record_of b.stored) b.tag)
    _ _ c.from_residual.ensures (c.in_err-stored.ensures.tests ∙ keyless_given args.held _ c.is_some.ensures)

pub returns-in_err-held_status-clause-tests : goal.returns-in_err-held_status-clause-tests
unfolding get_held
returns-in_err-held_status-clause-tests c =
    let args = c.args in
    let b = binding args.held in
    let key = c.key_for-device.ensures.key_value in
    let stored = sym (ap record_of c.in_ok-stored.ensures.stored) in
    let last = handed_status _ _ c.from_residual-in_err-held_status.ensures ∙ c.in_err-held_status.ensures
    ∙ (λ i. first_of (keyed_tests (key i) args.name.now args.offset (stored i) b.tag)) in
    went_on (keyless_tests b) (keyed_tests args.device_key.now args.name.now args.offset (record_of b.stored) b.tag)
    refl (c.in_ok-stored.ensures.tests ∙ keyless_given args.held _ c.is_some.ensures) _ last

pub returns-clause-tests : goal.returns-clause-tests
unfolding get_held
returns-clause-tests c =
    let args = c.args in
    let b = binding args.held in
    let key = c.key_for-device.ensures.key_value in
    let stored = sym (ap record_of c.in_ok-stored.ensures.stored) in
    let last = c.in_ok-held_status.ensures ∙ (λ i. first_of (keyed_tests (key i) args.name.now args.offset (stored i) b.tag)) in
    went_on (keyless_tests b) (keyed_tests args.device_key.now args.name.now args.offset (record_of b.stored) b.tag)
    refl (c.in_ok-stored.ensures.tests ∙ keyless_given args.held _ c.is_some.ensures) 0 last
