-- `mix::codec::put_sends`. The invariant: the header, the sends passed, and what stood behind them.
use Prim.Native.Nat.{◌+◌, ◌*◌}
use mathlib.Core.Path.{◌≡◌}
use mathlib.Core.List.{◌++◌, map, flatten}
use lib.ListN.{take, drop}
use Rattle.mix.specs.Send.{send_bytes}
use Rattle.mix.proofs.codec.put_sends.Given as goal

abbrev pub invariant-loop-i : goal.invariant-loop-i
invariant-loop-i l = l.b ≡ (take 9 l.initial.b ++ flatten (map send_bytes (take l.i l.sends))) ++ drop (9 + 9 * l.i) l.initial.b
