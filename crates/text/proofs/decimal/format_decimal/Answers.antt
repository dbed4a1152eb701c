-- `text::decimal::format_decimal`: one test, and the digits where it passes.
use mathlib.Core.Path.{refl, sym, ◌∙◌}
use mathlib.Core.Bool.{true}
use native.Mathlib.Omega.{arith}
use Rattle.text.specs.Decimal.{decimal_text}
use Rattle.text.proofs.Written.{no_room, wrote}
use Rattle.text.proofs.DecimalSteps.{text-length, text-digits}
use Rattle.text.proofs.decimal.format_decimal.Goals as goal

pub returns-then-out-k : goal.returns-then-out-k
returns-then-out-k c =
    let a = c.args in
    let size = text-length a.value in
    let count = c.places-k.ensures in
    let told = no_room true (decimal_text a.value) a.out.now (omega arith) in
    record { value = told.0; out_after = told.1; count_in_bounds = tt }

pub returns : goal.returns
returns c =
    let a = c.args in
    let size = text-length a.value in
    let count = c.places-k.ensures in
    let told = wrote true (decimal_text a.value) a.out.now _ refl (count ∙ sym size) (omega arith) in
    record { value = told.0; out_after = c.put_decimal.ensures ∙ text-digits a.value _ _ count ∙ told.1; count_in_bounds = omega arith }
