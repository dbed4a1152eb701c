-- `text::decimal::put_decimal`. The invariant: the digits still to come, then what is in place, are the number's and what was behind them.
use mathlib.Core.Path.{◌≡◌}
use mathlib.Core.List.{◌++◌}
use lib.ListN.{drop}
use Rattle.text.specs.Decimal.{digits}
use Rattle.text.proofs.decimal.put_decimal.Given as goal

abbrev pub invariant-loop-i : goal.invariant-loop-i
invariant-loop-i l = digits l.i l.rest ++ drop l.i l.out ≡ digits l.k l.n ++ drop l.k l.initial.out
