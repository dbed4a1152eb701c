-- What is known of an array that is passed by value: each element fits. Assumes nothing.
use Rattle.std.proofs.Common.{ℕ, zero, suc, ◌^◌, ◌<◌, List, [], ◌∷◌, get_or, pow_pos}
use mir.Syntax.{Width}
use mir.Val.{Val, bits}
use denote.Laws.{Is}
use denote.Plain.{UInt}
use denote.Array.{Array, each}
use denote.Shadow.{shadow}

each_fits : (w : Width) (xs : List ℕ) (us : List Val) → shadow (each ℕ (UInt w).own_val xs us) → (i : ℕ) → get_or xs i 0 < 2 ^ bits w
each_fits w [] [] s i = pow_pos (bits w)
each_fits w [] (u ∷ us) s i = absurd s
each_fits w (x ∷ xs) [] s i = absurd s
each_fits w (x ∷ xs) (u ∷ us) s zero = s.0.1
each_fits w (x ∷ xs) (u ∷ us) s (suc i) = each_fits w xs us s.1 i

pub array_fits : (w : Width) (n : ℕ) (xs : List ℕ) (vs : List Val) → Is (Array (UInt w) n) xs vs → (i : ℕ) → get_or xs i 0 < 2 ^ bits w
array_fits w n xs vs p i = each_fits w xs p.0 p.1.1 i
