-- The first line. Assumes nothing.
use mathlib.Core.Path.{◌≡◌, refl, sym, subst}
use mathlib.Core.Bool.{true, false, ◌&&◌}
use mathlib.Core.List.{List}
use Prim.Native.Nat.{ℕ}
use native.Mathlib.Omega.{arith}
use borrow.Author.Tests.{eqb-true, eq-eqb, leb-true, le-leb}
use lib.Dec.{eqb, leb}
use lib.ListN.{length}
use Rattle.text.specs.Parts.{parts, tab}
use Rattle.text.specs.Hex.{is_hex, hex_bytes}
use Rattle.text.specs.Decimal.{is_decimal, decimal_value}
use Rattle.buffers.proofs.Split.{split, both}
use Rattle.std.specs.Prelude.{Some, None}
use Rattle.std.proofs.lemmas.Option.{cond_some}
use Rattle.script_replay.specs.Script.{fits, field, is_number, header_valid, header}
use Rattle.script_replay.specs.declared.header.ScriptHeader.{ScriptHeader}
use Rattle.script_replay.specs.Laws.{Header, HeaderExact}
use Rattle.script_replay.proofs.Fields.{all-fields}

good : (line key : List ℕ) (slots : ℕ) → Header line key slots → header line ≡ Some (record { key = key; slots = slots })
unfolding header header_valid
good line key slots h =
    rw (
      h.fields,
      le-leb (length line) 1100 h.fits,
      eq-eqb (length h.digits) 32 h.key_digits,
      h.key_hex,
      h.slots_decimal,
      le-leb (decimal_value h.number) 64 (omega arith),
      le-leb 1 (decimal_value h.number) (omega arith),
      sym h.key_read,
      sym h.slots_read,
    )

pub invalid : (line : List ℕ) → header_valid line ≡ false → header line ≡ None
unfolding header
invalid line e = rw e

pub too_long : (line : List ℕ) → fits line ≡ false → header line ≡ None
unfolding header_valid
too_long line e = invalid line (rw e)

valid : (line : List ℕ) → header_valid line ≡ true → Header line (hex_bytes (field line 0)) (decimal_value (field line 1))
unfolding header_valid
valid line e =
    let two = eqb (length (parts tab line)) 2 in
    let sized = eqb (length (field line 0)) 32 in
    let number = is_number 64 (field line 1) in
    let some = leb 1 (decimal_value (field line 1)) in
    let a = both (fits line) (two && ((sized && is_hex (field line 0)) && (number && some))) e in
    let b = both two ((sized && is_hex (field line 0)) && (number && some)) a.1 in
    let c = both (sized && is_hex (field line 0)) (number && some) b.1 in
    let k = both sized (is_hex (field line 0)) c.0 in
    let n = both number some c.1 in
    let d = both (is_decimal (field line 1)) (leb (decimal_value (field line 1)) 64) n.0 in
    record {
      fits = leb-true (length line) 1100 a.0;
      digits = field line 0;
      number = field line 1;
      fields = all-fields line 2 (eqb-true (length (parts tab line)) 2 b.0);
      key_digits = eqb-true (length (field line 0)) 32 k.0;
      key_hex = k.1;
      key_read = refl;
      slots_decimal = d.0;
      slots_read = refl;
      least = leb-true 1 (decimal_value (field line 1)) n.1;
      most = leb-true (decimal_value (field line 1)) 64 d.1;
    }

only : (line : List ℕ) (h : ScriptHeader) → header line ≡ Some h → Header line h.key h.slots
unfolding header
only line h e =
    let s = cond_some (header_valid line) (record { key = hex_bytes (field line 0); slots = decimal_value (field line 1) }) h e in
    subst (λ (x : ScriptHeader). Header line x.key x.slots) s.1 (valid line s.0)

pub header-exact : HeaderExact
header-exact = record {
  good = good;
  only = only;
  bad = λ line none. split (header_valid line) (λ e. absurd (none _ _ (valid line e))) (invalid line);
}
