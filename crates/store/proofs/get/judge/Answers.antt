-- `store::get::judge`: 1 to 3, then what is left.
use mathlib.Core.Path.{◌≡◌, refl, sym, ap, ◌∙◌}
use Rattle.spec.specs.Area.{kv_format, lookup}
use Rattle.spec.specs.Record.{require_replay_protection}
use Rattle.spec.specs.Request.{Binding}
use Rattle.spec.specs.Status.{first_of}
use Rattle.spec.specs.Decisions.{get_held}
use Rattle.spec.specs.Calls.{binding_of}
use Rattle.store.specs.Parts.{given, get_early}
use Rattle.store.proofs.Tests.{refused_number}
use Rattle.store.proofs.Judged.{judged-refused, judged-here}
use Rattle.store.proofs.GetCall.{get-sane, get_key}
use Rattle.store.proofs.get.judge.Goals as goal

pub returns-in-Err-clause-judged : goal.returns-in-Err-clause-judged
returns-in-Err-clause-judged c =
    let args = c.args in
    let kv = args.kv.now in
    let rbp = args.rbp.now in
    let key = args.device_key.now in
    let n = args.name.now in
    let rest = get_held require_replay_protection key n args.offset (binding_of kv rbp n) in
    c.refused.ensures.judged ∙ judged-refused kv rbp n (get_early kv rbp key n) rest _ c.in-Err.ensures (refused_number _)

pub returns-in-Err-clause-stored : goal.returns-in-Err-clause-stored
returns-in-Err-clause-stored c = rw c.refused.ensures.verdict tt

pub look_up-looked-requires : goal.look_up-looked-requires
look_up-looked-requires c = get-sane c.args.kv.now c.args.rbp.now c.args.device_key.now c.args.name.now (sym c.in_default.ensures)

pub accepted_record-requires : goal.accepted_record-requires
accepted_record-requires c = get_key c.args.kv.now c.args.rbp.now c.args.device_key.now c.args.name.now (sym c.in_default.ensures)

pub returns-clause-judged : goal.returns-clause-judged
returns-clause-judged c =
    let args = c.args in
    let kv = args.kv.now in
    let rbp = args.rbp.now in
    let key = args.device_key.now in
    let n = args.name.now in
    let looked = c.look_up-looked.ensures in
    let rest = get_held require_replay_protection key n args.offset (binding_of kv rbp n) in
    let decided = c.accepted_record.ensures.tests ∙ ap (λ (b : Binding). first_of (get_held require_replay_protection key n args.offset b)) looked.held in
    judged-here kv rbp n (get_early kv rbp key n) rest refl (sym c.in_default.ensures) _ _ _ decided looked.found looked.entry

pub returns-clause-stored : goal.returns-clause-stored
returns-clause-stored c =
    let known : given c.look_up-looked.result.held.stored ≡ lookup kv_format c.args.kv.now c.args.name.now =
    ap (λ (b : Binding). b.stored) c.look_up-looked.ensures.held in
    rw known at c.accepted_record.ensures.stored
