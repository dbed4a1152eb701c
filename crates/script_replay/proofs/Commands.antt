-- The tests of a line, as the code makes them. Assumes nothing.
use mathlib.Core.Path.{◌≡◌, refl, sym, ap, ◌∙◌}
use mathlib.Core.Bool.{true, false}
use mathlib.Core.List.{List}
use Prim.Native.Nat.{ℕ, ◌≤◌}
use native.Mathlib.Omega.{arith}
use borrow.Author.Tests.{le-leb}
use lib.ListN.{length, drop, length-take, length-drop}
use Rattle.text.specs.Parts.{tab, part_start}
use Rattle.text.specs.Hex.{is_hex, hex_bytes}
use Rattle.text.specs.Decimal.{decimal_value, read}
use Rattle.std.specs.Prelude.{Option, Some, None}
use Rattle.std.proofs.lemmas.Option.{cond_some}
use Rattle.text.proofs.Theorems as text
use Rattle.text.proofs.HexSteps.{bytes-length}
use Rattle.script_replay.specs.Script.{field, command, is_number}
use Rattle.script_replay.specs.declared.command.Command.{Command}
use Rattle.spec.specs.Calls.{store_set}
use Rattle.script_replay.specs.Replay.{answered, set_line, carried_out, call_line}

-- ---- numbers

module _ (s : List ℕ) (most : ℕ) (r : Option ℕ) (e : r ≡ read s most) where
  pub number-some : (n : ℕ) → r ≡ Some n → (is_number most s ≡ true) × (decimal_value s ≡ n)
  unfolding read
  number-some n h = cond_some (is_number most s) (decimal_value s) n (sym e ∙ h)

-- ---- fields

-- no field is longer than its line
field-short : (line : List ℕ) (k : ℕ) → length (field line k) ≤ length line
field-short line k =
    let p = field line k in
    let from = drop (part_start tab line k) line in
    omega (arith, ap (λ (l : List ℕ). length l) ((text.parts tab).there line k), length-take (length p) from, length-drop (part_start tab line k) line)

-- so its bytes fit into half of what a line may have
pub bytes_fit : (line name : List ℕ) (k : ℕ) → name ≡ field line k → length line ≤ 1100 → length (hex_bytes name) ≤ 550
bytes_fit line name k e h = omega (arith, bytes-length name, ap (λ (l : List ℕ). length l) e, field-short line k)

-- ---- which line is which

module _ (kv rbp key line : List ℕ) where
  module _ (h : length line ≤ 1100) where
    pub a_command : (c : Command) → command line ≡ Some c → call_line kv rbp key line ≡ carried_out kv rbp key line c
    unfolding call_line
    a_command c e = rw (le-leb (length line) 1100 h, e)

-- ---- the fields of a set

module _ (kv rbp key line : List ℕ) where
  module _ (flags : is_number 4294967295 (field line 2) ≡ true) where
    module _ (iv : is_hex (field line 3) ≡ true) where
      pub value-bad : is_hex (field line 4) ≡ false → set_line kv rbp key line ≡ None
      unfolding set_line
      value-bad e = rw (flags, iv, e)

      pub set-readable : is_hex (field line 4) ≡ true
          → set_line kv rbp key line ≡ Some (answered (store_set kv rbp key (field line 1) (decimal_value (field line 2)) (hex_bytes (field line 3)) (hex_bytes (field line 4))))
      unfolding set_line
      set-readable e = rw (flags, iv, e)

pub same_set : (kv rbp key name name' : List ℕ) (flags flags' : ℕ) (iv iv' value value' : List ℕ) → name ≡ name' → flags ≡ flags' → iv ≡ iv' → value ≡ value'
    → store_set kv rbp key name flags iv value ≡ store_set kv rbp key name' flags' iv' value'
same_set kv rbp key name name' flags flags' iv iv' value value' n f i v = rw (n, f, i, v) refl
