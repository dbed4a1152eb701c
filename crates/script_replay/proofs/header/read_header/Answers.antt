-- `script_replay::header::read_header`: the key and the number, as they are read.
use mathlib.Core.Path.{sym, ap, ◌∙◌}
use mathlib.Core.List.{List}
use Prim.Native.Nat.{ℕ}
use lib.ListN.{length}
use Rattle.text.specs.Hex.{is_hex, hex_bytes}
use Rattle.text.specs.Decimal.{decimal_value}
use Rattle.script_replay.specs.Script.{is_number}
use Rattle.script_replay.proofs.Coded.{coded-good, coded-all}
use Rattle.script_replay.proofs.Commands.{number-some}
use Rattle.script_replay.proofs.Headers.{key_length, key_fits, header_read}
use Rattle.script_replay.proofs.header.read_header.Goals as goal

pub returns-clause-value : goal.returns-clause-value
returns-clause-value c =
    let e = c.field-digits.ensures.0 in
    let n = c.if-digits-ne32.false in
    let told = c.decode_hex.ensures in
    let fit = key_fits _ n in
    let hex = coded-good _ _ _ _ told.value fit _ c.in_ok-decode_hex.was in
    let key = coded-all _ _ _ _ told.value fit _ c.in_ok-decode_hex.was _ told.out_after (key_length _ n) ∙ ap hex_bytes e in
    let d = c.field.ensures.0 in
    let number = number-some _ 64 _ c.parse_decimal.ensures.value _ c.in_ok-slots.was in
    header_read c.args.line.now c.if-line-gt-LINE_LIMIT.false (sym c.field_count.ensures ∙ c.if-field_count-ne2.false) (sym (ap (λ (l : List ℕ). length l) e) ∙ n)
    (sym (ap is_hex e) ∙ hex) _ _ key (sym (ap (is_number 64) d) ∙ number.0) (sym number.1 ∙ ap decimal_value d) c.if-slots-lt1.false
