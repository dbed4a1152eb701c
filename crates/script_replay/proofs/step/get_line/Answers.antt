-- `script_replay::step::get_line`: the call into 480 bytes, and its answer.
use mathlib.Core.Path.{◌∙◌}
use mathlib.Core.List.{[], ◌∷◌}
use native.Mathlib.Omega.{arith}
use Rattle.spec.specs.Status.{Answer}
use Rattle.store.specs.Answers.{status_of, count_of}
use Rattle.script_replay.proofs.Answered.{written, count_fits, count-told, get-answer}
use Rattle.script_replay.proofs.step.get_line.Goals as goal

pub slice_bounds-put_answer-end : goal.slice_bounds-put_answer-end
slice_bounds-put_answer-end c =
    let a = c.args in
    let r = c.get-answer.result in
    let g : Answer = record { status = status_of r; numbers = count_of r ∷ []; output = c.get-answer.new.output } in
    omega (arith, count_fits a.kv.now a.rbp.now a.device_key.now _ g c.get-answer.ensures, c.unwrap_or-count.ensures ∙ count-told r)

pub returns : goal.returns
returns c =
    let a = c.args in
    let r = c.get-answer.result in
    let g : Answer = record { status = status_of r; numbers = count_of r ∷ []; output = c.get-answer.new.output } in
    let is = get-answer a.kv.now a.rbp.now a.device_key.now _ g c.get-answer.ensures a.line.now _ _ c.number.ensures
    (c.unwrap_or-count.ensures ∙ count-told r) c.field.ensures.0 in
    let all = written _ _ a.out.now _ _ is c.put_answer.ensures.value c.put_answer.ensures.out_after in
    record { value = all.0; out_after = all.1 }
