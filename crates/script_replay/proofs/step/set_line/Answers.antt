-- `script_replay::step::set_line`: flags, IV and data are read, then the call, and its answer.
use mathlib.Core.Path.{sym, ap, ◌∙◌}
use Rattle.text.specs.Hex.{is_hex, hex_bytes}
use Rattle.text.specs.Decimal.{decimal_value}
use Rattle.script_replay.specs.Script.{is_number}
use Rattle.script_replay.specs.Replay.{set_line}
use Rattle.script_replay.proofs.Coded.{coded-none, coded-good, coded-part}
use Rattle.script_replay.proofs.Answered.{line-done, line-not-done, call-written}
use Rattle.script_replay.proofs.Commands.{number-some, bytes_fit, value-bad, set-readable, same_set}
use Rattle.script_replay.proofs.step.set_line.Goals as goal

pub returns-in_err-m : goal.returns-in_err-m
returns-in_err-m c =
    let a = c.args in
    let kv = a.kv.now in
    let rbp = a.rbp.now in
    let key = a.device_key.now in
    let line = a.line.now in
    let flags = sym (ap (is_number 4294967295) c.field.ensures.0) ∙ (number-some _ 4294967295 _ c.parse_decimal.ensures.value _ c.in_ok-flags.was).0 in
    let e = c.field-2.ensures.0 in
    let iv = sym (ap is_hex e) ∙ coded-good _ _ _ _ c.decode_hex.ensures.value (bytes_fit line _ 3 e c.requires) _ c.in_ok-n.was in
    let f = c.field-3.ensures.0 in
    let bad = sym (ap is_hex f) ∙ coded-none _ _ _ _ c.decode_hex-2.ensures.value (bytes_fit line _ 4 f c.requires) c.in_err-m.was in
    let all = line-not-done (set_line kv rbp key line) kv rbp a.out.now (value-bad kv rbp key line flags iv bad) in
    record { value = c.from_residual-in_err-m.ensures ∙ all.0; out_after = all.1.0; rbp_after = all.1.1 }

pub returns : goal.returns
returns c =
    let a = c.args in
    let kv = a.kv.now in
    let rbp = a.rbp.now in
    let key = a.device_key.now in
    let line = a.line.now in
    let d = c.field.ensures.0 in
    let number = number-some _ 4294967295 _ c.parse_decimal.ensures.value _ c.in_ok-flags.was in
    let e = c.field-2.ensures.0 in
    let fit = bytes_fit line _ 3 e c.requires in
    let iv = coded-good _ _ _ _ c.decode_hex.ensures.value fit _ c.in_ok-n.was in
    let f = c.field-3.ensures.0 in
    let fit2 = bytes_fit line _ 4 f c.requires in
    let value = coded-good _ _ _ _ c.decode_hex-2.ensures.value fit2 _ c.in_ok-m.was in
    let same = c.set-answer.ensures ∙ same_set kv rbp key _ _ _ _ _ _ _ _
    c.field-4.ensures.0
    (sym number.1 ∙ ap decimal_value d)
    (coded-part _ _ _ _ c.decode_hex.ensures.value fit _ c.in_ok-n.was _ c.decode_hex.ensures.out_after ∙ ap hex_bytes e)
    (coded-part _ _ _ _ c.decode_hex-2.ensures.value fit2 _ c.in_ok-m.was _ c.decode_hex-2.ensures.out_after ∙ ap hex_bytes f) in
    let read = set-readable kv rbp key line (sym (ap (is_number 4294967295) d) ∙ number.0) (sym (ap is_hex e) ∙ iv) (sym (ap is_hex f) ∙ value) in
    let all = line-done (set_line kv rbp key line) kv rbp a.out.now _ _ _ _ read
    (call-written _ _ _ _ _ c.number.ensures same a.out.now _ _ c.put_answer.ensures.value c.put_answer.ensures.out_after) in
    record { value = all.0; out_after = all.1.0; rbp_after = all.1.1 }
