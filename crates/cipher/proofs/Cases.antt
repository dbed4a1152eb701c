-- A case for each result of a test, with the equation at hand. Assumes nothing.
use Rattle.std.proofs.Common.{◌≡◌, Bool, true, false, refl}

pub by-test : {A : Type 0} (t : Bool) → (t ≡ true → A) → (t ≡ false → A) → A
by-test true f g = f refl
by-test false f g = g refl
