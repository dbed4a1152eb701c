-- `mix::codec::sends_valid`. The invariant: what is left decides.
use mathlib.Core.Path.{◌≡◌}
use lib.ListN.{drop}
use Rattle.buffers.specs.Bytes.{every}
use Rattle.mix.specs.Mix.{sends_at}
use Rattle.mix.specs.Send.{send_valid}
use Rattle.mix.proofs.codec.sends_valid.Given as goal

abbrev pub invariant-loop-i : goal.invariant-loop-i
invariant-loop-i l = every send_valid (drop l.i (sends_at l.count l.b)) ≡ every send_valid (sends_at l.count l.b)
