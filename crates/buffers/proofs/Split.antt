-- Case analysis that keeps the equation, as a term: a recursive call may stand in a branch.
use mathlib.Core.Path.{◌≡◌, refl, sym}
use mathlib.Core.Bool.{Bool, true, false, not, ◌&&◌, ◌||◌}
use mathlib.Core.Option.{Option, none, some}
use Prim.Native.Nat.{ℕ}
use native.Mathlib.Omega.{arith}
use Rattle.buffers.specs.Bytes.{is_some}

pub split {ℓ} : {P : Type ℓ} (b : Bool) → (b ≡ true → P) → (b ≡ false → P) → P
split true f g = f refl
split false f g = g refl

pub split_o {ℓ κ} : {A : Type ℓ} {P : Type κ} (o : Option A) → (o ≡ none → P) → ((a : A) → o ≡ some a → P) → P
split_o none f g = f refl
split_o (some a) f g = g a refl

-- two values of one test
pub clash {ℓ} : {P : Type ℓ} (b : Bool) → b ≡ true → b ≡ false → P
clash b p q = let z : ◌≡◌ {A = ℕ} 0 1 = cc in absurd (omega arith)

pub clash_o {ℓ κ} : {A : Type ℓ} {P : Type κ} (o : Option A) {a : A} → o ≡ none → o ≡ some a → P
clash_o o p q = let z : ◌≡◌ {A = ℕ} 0 1 = cc in absurd (omega arith)

pub both : (a b : Bool) → (a && b) ≡ true → (a ≡ true) × (b ≡ true)
both true b e = (refl, e)
both false b e = clash false e refl

pub neither : (a b : Bool) → (a || b) ≡ false → (a ≡ false) × (b ≡ false)
neither true b e = clash true refl e
neither false b e = (refl, e)

pub not-false-is : (b : Bool) → not b ≡ false → b ≡ true
not-false-is true e = refl
not-false-is false e = sym e

pub not_true_is : (b : Bool) → not b ≡ true → b ≡ false
not_true_is true e = sym e
not_true_is false e = refl

-- what a test of an option says
pub not_some : {A : Type 0} (o : Option A) → is_some o ≡ false → o ≡ none
not_some none e = refl
not_some (some a) e = clash true refl e

pub is-some : {A : Type 0} (o : Option A) (a : A) → o ≡ some a → is_some o ≡ true
is-some o a e = rw e
