-- `store::set::judge`: the tests in order, each on what the searches found.
use mathlib.Core.Path.{refl, sym, ap, ◌∙◌}
use mathlib.Core.List.{◌++◌}
use Rattle.spec.specs.Record.{require_replay_protection}
use Rattle.spec.specs.Request.{Binding}
use Rattle.spec.specs.Status.{first_of}
use Rattle.spec.specs.Decisions.{set_held, space_tests}
use Rattle.spec.specs.Calls.{room_of}
use Rattle.store.specs.Parts.{set_early}
use Rattle.store.proofs.Tests.{refused_number}
use Rattle.store.proofs.Judged.{judged-refused, judged-here}
use Rattle.store.proofs.SetCall.{set_rest, set-sane}
use Rattle.store.proofs.set.judge.Goals as goal

pub returns-in-Err : goal.returns-in-Err
returns-in-Err c =
    let args = c.args in
    let kv = args.kv.now in
    let rbp = args.rbp.now in
    let n = args.name.now in
    let first = set_early kv rbp args.device_key.now n args.flags args.iv.now args.«data».now in
    let rest = set_rest kv rbp args.device_key.now n args.flags args.iv.now args.«data».now in
    c.refused.ensures.judged ∙ judged-refused kv rbp n first rest _ c.in-Err.ensures (refused_number _)

pub look_up-looked-requires : goal.look_up-looked-requires
look_up-looked-requires c =
    let args = c.args in
    set-sane args.kv.now args.rbp.now args.device_key.now args.name.now args.flags args.iv.now args.«data».now (sym c.in_default.ensures)

pub verdict-requires : goal.verdict-requires
verdict-requires c =
    let args = c.args in
    set-sane args.kv.now args.rbp.now args.device_key.now args.name.now args.flags args.iv.now args.«data».now (sym c.in_default.ensures)

pub returns : goal.returns
unfolding set_held
returns c =
    let args = c.args in
    let kv = args.kv.now in
    let rbp = args.rbp.now in
    let n = args.name.now in
    let flags = args.flags in
    let first = set_early kv rbp args.device_key.now n flags args.iv.now args.«data».now in
    let rest = set_rest kv rbp args.device_key.now n flags args.iv.now args.«data».now in
    let looked = c.look_up-looked.ensures in
    let room = room_of kv rbp in
    let decided = c.verdict.ensures
    ∙ ap (λ (b : Binding). first_of (set_held require_replay_protection flags b ++ space_tests require_replay_protection flags b room)) looked.held in
    judged-here kv rbp n first rest refl (sym c.in_default.ensures) _ _ _ decided looked.found looked.entry
