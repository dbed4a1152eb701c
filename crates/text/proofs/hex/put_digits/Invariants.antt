-- `text::hex::put_digits`. The invariant: the digits in place, then those of the bytes that are left, are the bytes'; what lies behind is as it was.
use mathlib.Core.Path.{◌≡◌}
use mathlib.Core.List.{◌++◌}
use Prim.Native.Nat.{◌*◌}
use lib.ListN.{take, drop}
use Rattle.text.specs.Hex.{hex_text}
use Rattle.text.proofs.hex.put_digits.Given as goal

abbrev pub invariant-loop-i : goal.invariant-loop-i
invariant-loop-i l = (take (2 * l.i) l.out ++ hex_text (drop l.i l.«data») ≡ hex_text l.«data») × (drop (2 * l.i) l.out ≡ drop (2 * l.i) l.initial.out)
