-- `text::hex::encode_hex`: one test, and the digits where it passes.
use mathlib.Core.Path.{refl, sym, ◌∙◌}
use mathlib.Core.Bool.{true}
use native.Mathlib.Omega.{arith}
use Rattle.text.specs.Hex.{hex_text}
use Rattle.text.proofs.Written.{no_room, wrote}
use Rattle.text.proofs.HexSteps.{text-length}
use Rattle.text.proofs.hex.encode_hex.Goals as goal

pub returns-then-out-data : goal.returns-then-out-data
returns-then-out-data c =
    let a = c.args in
    let size = text-length a.«data».now in
    let told = no_room true (hex_text a.«data».now) a.out.now (omega arith) in
    record { value = told.0; out_after = told.1; count_in_bounds = tt }

pub returns : goal.returns
returns c =
    let a = c.args in
    let size = text-length a.«data».now in
    let told = wrote true (hex_text a.«data».now) a.out.now _ refl (sym size) (omega arith) in
    record { value = told.0; out_after = c.put_digits.ensures ∙ told.1; count_in_bounds = omega arith }
