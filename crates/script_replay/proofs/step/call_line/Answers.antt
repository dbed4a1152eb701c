-- `script_replay::step::call_line`: a get leaves card and chip as they were.
use mathlib.Core.Path.{sym, ap, ◌∙◌}
use Rattle.std.specs.Prelude.{Some}
use Rattle.script_replay.specs.declared.command.Command.TheVariants.{Get}
use Rattle.script_replay.proofs.Answered.{get-line-after}
use Rattle.script_replay.proofs.Commands.{a_command}
use Rattle.script_replay.proofs.step.call_line.Goals as goal

pub returns-in-Get-clause-rbp_after : goal.returns-in-Get-clause-rbp_after
returns-in-Get-clause-rbp_after c =
    let a = c.args in
    let is = sym c.of.ensures ∙ c.in_ok-of.was ∙ ap Some c.in-Get.is in
    rw (a_command a.kv.now a.rbp.now a.device_key.now a.line.now c.if-line-gt-LINE_LIMIT.false Get is)
    (get-line-after a.kv.now a.rbp.now a.device_key.now a.line.now)
