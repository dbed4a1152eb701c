-- A device key that was prepared where the flags ask for keys. Assumes nothing.
use mathlib.Core.Path.{◌≡◌, sym, ap, ◌∙◌}
use mathlib.Core.Bool.{Bool, cond}
use mathlib.Core.List.{List}
use Prim.Native.Nat.{ℕ}
use Rattle.cipher.specs.declared.kdf.DeviceKey.{DeviceKey}
use Rattle.cipher.specs.Device.{prepared, bare}
use Rattle.buffers.proofs.Split.{split}
use Rattle.records.specs.Parts.{needs_keys, ReadyFor}

-- what `prepare_if` gives
module _ (wanted : Bool) (key : List ℕ) (d : DeviceKey) (e : d ≡ cond wanted (prepared key) (bare key)) where
  pub key-kept : d.key ≡ key
  unfolding prepared bare
  key-kept = ap (λ (x : DeviceKey). x.key) e ∙ split wanted (λ w. rw w) (λ w. rw w)

  pub ready_for : (flags : ℕ) → wanted ≡ needs_keys flags → ReadyFor flags d
  ready_for flags w h =
      let own : d ≡ prepared key = e ∙ ap (λ (b : Bool). cond b (prepared key) (bare key)) (w ∙ h) in
      own ∙ ap prepared (sym key-kept)
