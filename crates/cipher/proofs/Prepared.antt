-- What a prepared device key holds. Assumes nothing.
use Rattle.std.proofs.Common.{◌≡◌, ℕ, List, replicate, sym, ap, ◌∙◌}
use Rattle.cipher.specs.declared.kdf.DeviceKey.{DeviceKey}
use Rattle.cipher.specs.Aes.{expand_key, encrypt_with}
use Rattle.cipher.specs.Device.{prepared}

pub prepared-parts : (d : DeviceKey) → d ≡ prepared d.key → (d.keys ≡ expand_key d.key) × (d.zero ≡ encrypt_with d.keys (replicate 16 0))
unfolding prepared
prepared-parts d e =
    let keys : d.keys ≡ expand_key d.key = ap (λ (x : DeviceKey). x.keys) e in
    (keys, ap (λ (x : DeviceKey). x.zero) e ∙ sym (ap (λ (k : List ℕ). encrypt_with k (replicate 16 0)) keys))
