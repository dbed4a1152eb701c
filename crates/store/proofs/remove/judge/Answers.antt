-- `store::remove::judge`: the tests in order, each on what the search found.
use mathlib.Core.Path.{◌≡◌, refl, sym, ap, ◌∙◌}
use Rattle.spec.specs.Area.{kv_format, lookup}
use Rattle.spec.specs.Request.{Binding}
use Rattle.spec.specs.Status.{first_of}
use Rattle.spec.specs.Decisions.{remove_held}
use Rattle.store.specs.Parts.{given, remove_early}
use Rattle.store.proofs.Tests.{refused_number}
use Rattle.store.proofs.Judged.{judged-refused, judged-here}
use Rattle.store.proofs.RemoveCall.{remove-sane}
use Rattle.store.proofs.remove.judge.Goals as goal

pub returns-in-Err-clause-judged : goal.returns-in-Err-clause-judged
returns-in-Err-clause-judged c =
    let kv = c.args.kv.now in
    let rbp = c.args.rbp.now in
    let n = c.args.name.now in
    let tested = c.in-Err.ensures in
    c.refused.ensures.judged ∙ judged-refused kv rbp n (remove_early kv rbp n) (remove_held (lookup kv_format kv n)) _ tested (refused_number _)

pub returns-in-Err-clause-flags : goal.returns-in-Err-clause-flags
returns-in-Err-clause-flags c = rw c.refused.ensures.verdict tt

pub look_up-looked-requires : goal.look_up-looked-requires
look_up-looked-requires c =
    let kv = c.args.kv.now in
    let rbp = c.args.rbp.now in
    let n = c.args.name.now in
    remove-sane kv rbp n (sym (c.in_default.ensures))

pub returns-clause-judged : goal.returns-clause-judged
returns-clause-judged c =
    let kv = c.args.kv.now in
    let rbp = c.args.rbp.now in
    let n = c.args.name.now in
    let looked = c.look_up-looked.ensures in
    let decided = c.held_status.ensures.tests ∙ ap (λ (b : Binding). first_of (remove_held b.stored)) looked.held in
    judged-here kv rbp n (remove_early kv rbp n) (remove_held (lookup kv_format kv n)) refl
    (sym (c.in_default.ensures)) _ _ _ decided looked.found looked.entry

pub returns-clause-flags : goal.returns-clause-flags
returns-clause-flags c =
    let known : given c.look_up-looked.result.held.stored ≡ lookup kv_format c.args.kv.now c.args.name.now =
    ap (λ (b : Binding). b.stored) c.look_up-looked.ensures.held in
    rw known at c.held_status.ensures.flags
