-- `text::decimal::parse_decimal`. The invariant: the digits that are left, read after those that gave `value`, give the text's value.
use mathlib.Core.Path.{◌≡◌}
use Prim.Native.Nat.{◌≤◌}
use lib.ListN.{drop}
use Rattle.text.specs.Decimal.{all_digits, value_after, decimal_value}
use Rattle.text.proofs.decimal.parse_decimal.Given as goal

abbrev pub invariant-loop-c : goal.invariant-loop-c
invariant-loop-c l =
    (l.value ≤ l.most) × (value_after l.value (drop l.c-index l.text) ≡ decimal_value l.text) × (all_digits (drop l.c-index l.text) ≡ all_digits l.text)
