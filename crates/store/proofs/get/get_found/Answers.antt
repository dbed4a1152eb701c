-- `store::get::get_found`: a refusal without a key, or what the record gives.
use mathlib.Core.Path.{◌≡◌, refl, ap, ◌∙◌}
use mathlib.Core.List.{List}
use Prim.Native.Nat.{ℕ}
use Rattle.spec.specs.Area.{kv_format, rbp_format, lookup}
use Rattle.spec.specs.Calls.{binding_of}
use Rattle.store.specs.declared.judge.Held.{Held}
use Rattle.store.specs.Parts.{option_of, binding}
use Rattle.store.proofs.Given.{keyless_given, payload_known}
use Rattle.store.proofs.Judged.{readable}
use Rattle.store.proofs.Tests.{refused_number, handed_answer}
use Rattle.store.proofs.GetCall.{keyless_refused, got_record}
use Rattle.store.proofs.get.get_found.Goals.{After-payload}
use Rattle.store.proofs.get.get_found.Goals as goal

-- what the name has: what stands at its slot, and what was handed in
abbrev has : (c : After-payload) → Held
has c = record { stored = c.payload.result; tag = c.args.tag }

is_binding : (c : After-payload) (rbp : List ℕ) → option_of c.args.tag ≡ lookup rbp_format rbp c.args.keys.now.name.now
    → binding (has c) ≡ binding_of c.args.kv.now rbp c.args.keys.now.name.now
is_binding c rbp e =
    let args = c.args in
    let stored = ap option_of c.payload.ensures
    ∙ payload_known kv_format args.kv.now args.keys.now.name.now args.found c.requires.found_value c.requires.sound.1 in
    λ i. record { stored = stored i; tag = e i }

pub payload-requires : goal.payload-requires
payload-requires c =
    let args = c.args in
    readable kv_format args.kv.now args.keys.now.name.now args.found c.requires.found_value c.requires.sound.0 c.requires.sound.1

pub returns-in_err-stored : goal.returns-in_err-stored
returns-in_err-stored c = λ rbp early tag.
    let args = c.args in
    let keys = args.keys.now in
    let here = (goal.at.returns-in_err-stored c).After-payload in
    handed_answer _ _ args.output.now c.from_residual.ensures
    ∙ keyless_refused args.kv.now rbp keys.device.now.key keys.name.now args.offset early
    (binding (has here)) (is_binding here rbp tag) args.output.now _
    (c.in_err-stored.ensures.tests ∙ keyless_given (has here) _ c.is_some.ensures) (refused_number _)

pub returns : goal.returns
returns c = λ rbp early tag.
    let args = c.args in
    let keys = args.keys.now in
    let here = (goal.at.returns c).After-payload in
    let seen = c.in_ok-stored in
    c.get_record.ensures
    ∙ got_record args.kv.now rbp keys.device.now.key keys.name.now args.offset early
    (binding (has here)) (is_binding here rbp tag) (seen.ensures.tests ∙ keyless_given (has here) _ c.is_some.ensures)
    seen.stored.bytes.now seen.ensures.stored _ refl args.output.now
