-- The first line, as the code reads it. Assumes nothing.
use mathlib.Core.Path.{◌≡◌, refl}
use mathlib.Core.Bool.{true}
use mathlib.Core.List.{List}
use Prim.Native.Nat.{ℕ, ◌≤◌}
use native.Mathlib.Omega.{arith}
use borrow.Author.Tests.{le-leb, eq-eqb}
use lib.ListN.{length}
use Rattle.std.specs.Prelude.{Some}
use Rattle.text.specs.Parts.{parts, tab}
use Rattle.text.specs.Hex.{is_hex, hex_bytes}
use Rattle.text.specs.Decimal.{decimal_value}
use Rattle.text.proofs.HexSteps.{bytes-length}
use Rattle.script_replay.specs.Script.{field, is_number, header_valid, header}

pub key_length : (s : List ℕ) → length s ≡ 32 → length (hex_bytes s) ≡ 16
key_length s h = omega (arith, bytes-length s, h)

pub key_fits : (s : List ℕ) → length s ≡ 32 → length (hex_bytes s) ≤ 16
key_fits s h = omega (arith, key_length s h)

pub header_read : (line : List ℕ) → length line ≤ 1100 → length (parts tab line) ≡ 2 → length (field line 0) ≡ 32 → is_hex (field line 0) ≡ true
    → (key : List ℕ) (slots : ℕ) → key ≡ hex_bytes (field line 0) → is_number 64 (field line 1) ≡ true → slots ≡ decimal_value (field line 1) → 1 ≤ slots
    → Some (record { key = key; slots = slots }) ≡ header line
unfolding header header_valid
header_read line short two digits hex key slots k n v h =
    rw (
      le-leb (length line) 1100 short,
      eq-eqb (length (parts tab line)) 2 two,
      eq-eqb (length (field line 0)) 32 digits,
      hex,
      n,
      le-leb 1 (decimal_value (field line 1)) (omega (arith, v)),
      k,
      v,
    ) refl
