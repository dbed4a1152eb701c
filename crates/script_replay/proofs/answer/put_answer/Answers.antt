-- `script_replay::answer::put_answer`: number, tab, bytes in hex and newline, one behind the other.
use mathlib.Core.Path.{refl, sym}
use mathlib.Core.Bool.{true}
use native.Mathlib.Omega.{arith}
use Rattle.text.specs.Hex.{hex_text}
use Rattle.text.specs.Decimal.{decimal_text}
use Rattle.text.proofs.HexSteps.{text-length}
use Rattle.script_replay.proofs.Coded.{coded-some, coded-count, coded-part, text-short}
use Rattle.script_replay.proofs.Answered.{put-together}
use Rattle.script_replay.proofs.answer.put_answer.Goals as goal

pub unwrap-k-requires : goal.unwrap-k-requires
unwrap-k-requires c =
    let a = c.args in
    rw (coded-some true (decimal_text a.status) _ _ c.format_decimal.ensures.value (text-short a.status) refl)

pub unwrap-n-requires : goal.unwrap-n-requires
unwrap-n-requires c =
    let d = c.args.«data».now in
    rw (coded-some true (hex_text d) _ _ c.encode_hex.ensures.value (omega (arith, text-length d, c.requires)) refl)

pub returns : goal.returns
returns c =
    let a = c.args in
    let d = a.«data».now in
    let h = text-short a.status in
    let number = decimal_text a.status in
    let numbered = c.format_decimal.ensures in
    let coded = c.encode_hex.ensures in
    let all = put-together a.status d a.out.now _ _ _ _ _ _ _ _
    (sym (coded-count true number _ _ numbered.value h _ c.unwrap-k.ensures))
    (sym (coded-count true (hex_text d) _ _ coded.value (omega (arith, text-length d, c.requires)) _ c.unwrap-n.ensures))
    (coded-part true number _ _ numbered.value h _ c.unwrap-k.ensures _ numbered.out_after)
    (coded-part true (hex_text d) _ _ coded.value (omega (arith, text-length d, c.requires)) _ c.unwrap-n.ensures _ coded.out_after)
    c.paste.ensures
    c.paste-2.ensures
    c.paste-3.ensures
    c.paste-4.ensures in
    record { value = all.0; out_after = all.1 }
