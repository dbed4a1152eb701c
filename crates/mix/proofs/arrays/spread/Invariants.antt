-- `mix::arrays::spread`. The invariant: the parts of the sends passed, and what stood behind them.
use Prim.Native.Nat.{ℕ}
use mathlib.Core.Path.{◌≡◌}
use mathlib.Core.List.{List, ◌++◌, map}
use lib.ListN.{take, drop}
use Rattle.mix.specs.Arrays.{send_tag, send_level, send_pan}
use Rattle.mix.specs.declared.monitor.AuxSend.{AuxSend}
use Rattle.mix.proofs.arrays.spread.Given as goal

-- an array's front is the parts of the first i sends
abbrev pub Filled : {A : Type 0} → (AuxSend → A) → List AuxSend → ℕ → List A → List A → Type 0
Filled part sends i old now = now ≡ map part (take i sends) ++ drop i old

abbrev pub invariant-loop-i : goal.invariant-loop-i
invariant-loop-i l =
    Filled send_tag l.send-items l.i l.initial.tags l.tags × Filled send_level l.send-items l.i l.initial.levels l.levels × Filled send_pan l.send-items l.i l.initial.pans l.pans
