-- `text::hex::decode_hex`: three tests, and the pairs where all pass.
use mathlib.Core.Path.{◌≡◌, sym, ◌∙◌}
use Prim.Native.Nat.{◌-◌, ◌/◌}
use native.Mathlib.Omega.{arith}
use lib.ListN.{length, length-take}
use Rattle.std.specs.Char.{is_ascii_hexdigit}
use Rattle.std.specs.List.{list_all}
use Rattle.std.proofs.Common.{rules}
use Rattle.std.proofs.lemmas.Iterator.{YieldsList-from_slice}
use Rattle.std.proofs.lemmas.Iterator.Search.{all_from_yields_List}
use Rattle.text.specs.Hex.{is_hex, hex_bytes}
use Rattle.text.proofs.Written.{bad, no_room, wrote}
use Rattle.text.proofs.HexSteps.{bytes-length, odd-not-hex, other-not-hex, pairs-hex, digits-all}
use Rattle.text.proofs.hex.decode_hex.Goals as goal

pub returns-then-text-ne0 : goal.returns-then-text-ne0
returns-then-text-ne0 c =
    let a = c.args in
    let told = bad (is_hex a.text.now) (hex_bytes a.text.now) a.out.now (odd-not-hex a.text.now (λ e. c.if-text-ne0.true (omega arith))) in
    record { value = told.0; out_after = told.1; count_in_bounds = tt }

pub returns-then-out-n : goal.returns-then-out-n
returns-then-out-n c =
    let a = c.args in
    let size = bytes-length a.text.now in
    let told = no_room (is_hex a.text.now) (hex_bytes a.text.now) a.out.now (omega arith) in
    record { value = told.0; out_after = told.1; count_in_bounds = tt }

pub returns-then-not-all : goal.returns-then-not-all
returns-then-not-all c =
    let a = c.args in
    let all : c.all.result ≡ list_all is_ascii_hexdigit a.text.now =
    all_from_yields_List is_ascii_hexdigit _ _ c.all.result c.all.ensures.ran (YieldsList-from_slice a.text.now cc) (λ x b q k. search rules) in
    let other = sym (all ∙ digits-all a.text.now) ∙ c.if-not-all.true in
    let told = bad (is_hex a.text.now) (hex_bytes a.text.now) a.out.now (other-not-hex a.text.now other) in
    record { value = told.0; out_after = told.1; count_in_bounds = tt }

pub put_pairs-requires : goal.put_pairs-requires
put_pairs-requires c =
    let a = c.args in
    let all : c.all.result ≡ list_all is_ascii_hexdigit a.text.now =
    all_from_yields_List is_ascii_hexdigit _ _ c.all.result c.all.ensures.ran (YieldsList-from_slice a.text.now cc) (λ x b q k. search rules) in
    (simp length-take (omega arith), sym (all ∙ digits-all a.text.now) ∙ c.if-not-all.false)

pub returns : goal.returns
returns c =
    let a = c.args in
    let all : c.all.result ≡ list_all is_ascii_hexdigit a.text.now =
    all_from_yields_List is_ascii_hexdigit _ _ c.all.result c.all.ensures.ran (YieldsList-from_slice a.text.now cc) (λ x b q k. search rules) in
    let size = bytes-length a.text.now in
    let good = pairs-hex a.text.now (omega arith) (sym (all ∙ digits-all a.text.now) ∙ c.if-not-all.false) in
    let told = wrote (is_hex a.text.now) (hex_bytes a.text.now) a.out.now _ good (sym size) (omega arith) in
    let e : length a.text.now / 2 - 0 ≡ length a.text.now / 2 = omega arith in
    record { value = told.0; out_after = rw (c.put_pairs.ensures, e) told.1; count_in_bounds = omega arith }
