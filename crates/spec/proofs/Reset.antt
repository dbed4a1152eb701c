-- The exact condition for a reset's 0, and what it gives.
use mathlib.Core.Path.{◌≡◌, refl}
use mathlib.Core.Bool.{true}
use mathlib.Core.List.{List, []}
use Prim.Native.Nat.{ℕ}
use lib.ListN.{length}
use Rattle.buffers.specs.Bytes.{zeros}
use Rattle.spec.specs.Status.{ok, refuse_if, on_ok}
use Rattle.spec.specs.Area.{kv_format, rbp_format, sized}
use Rattle.spec.specs.Calls.{areas, area_lengths, store_reset}
use Rattle.spec.specs.Demand2.{done, ResetExact}
use Rattle.buffers.proofs.Split.{not-false-is}
use Rattle.spec.proofs.Status.{all-passed}

resettable : (kv rbp : List ℕ) → (store_reset kv rbp).answer.status ≡ ok → (sized kv_format kv ≡ true) × (sized rbp_format rbp ≡ true)
unfolding store_reset
resettable kv rbp h = let p = all-passed (area_lengths (areas kv rbp)) refl h in (not-false-is _ p.0, not-false-is _ p.1.0)

cleared : (kv rbp : List ℕ) → (sized kv_format kv ≡ true) × (sized rbp_format rbp ≡ true)
    → store_reset kv rbp ≡ done (areas (zeros (length kv)) (zeros (length rbp))) [] []
unfolding store_reset refuse_if on_ok
cleared kv rbp s = rw (s.0, s.1)

pub reset_exact : ResetExact
reset_exact kv rbp = record { condition = (resettable kv rbp, λ s. rw (cleared kv rbp s)); gives = cleared kv rbp }
