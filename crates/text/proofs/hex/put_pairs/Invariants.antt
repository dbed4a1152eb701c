-- `text::hex::put_pairs`. The invariant: the bytes in place, then those of the pairs that are left, are the text's.
use mathlib.Core.Path.{◌≡◌}
use mathlib.Core.List.{◌++◌}
use Prim.Native.Nat.{◌*◌}
use lib.ListN.{take, drop}
use Rattle.text.specs.Hex.{hex_bytes}
use Rattle.text.proofs.hex.put_pairs.Given as goal

abbrev pub invariant-loop-i : goal.invariant-loop-i
invariant-loop-i l = take l.i l.out ++ hex_bytes (drop (2 * l.i) l.text) ≡ hex_bytes l.text
