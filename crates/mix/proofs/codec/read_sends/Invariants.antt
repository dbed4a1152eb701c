-- `mix::codec::read_sends`. The invariant: the sends passed, and muted ones.
use mathlib.Core.Path.{◌≡◌}
use Rattle.mix.specs.Mix.{read_sends}
use Rattle.mix.proofs.codec.read_sends.Given as goal

abbrev pub invariant-loop-i : goal.invariant-loop-i
invariant-loop-i l = l.sends ≡ read_sends l.i l.b
