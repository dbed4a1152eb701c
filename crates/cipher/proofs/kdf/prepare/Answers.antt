-- `cipher::kdf::prepare`: the expansion, and the zero block under it.
use Rattle.std.proofs.Common.{◌≡◌, ℕ, List, replicate, ap, ◌∙◌}
use Rattle.cipher.specs.declared.kdf.DeviceKey.{DeviceKey}
use Rattle.cipher.specs.Aes.{expand_key, encrypt_with}
use Rattle.cipher.specs.Device.{prepared}
use Rattle.cipher.proofs.kdf.prepare.Goals as goal

parts : (key ks z : List ℕ) → ks ≡ expand_key key → z ≡ encrypt_with ks (replicate 16 0)
    → ◌≡◌ {A = DeviceKey} (record { key = key; keys = ks; zero = z }) (prepared key)
unfolding prepared
parts key ks z e f = λ i. record { key = key; keys = e i; zero = (f ∙ ap (λ (w : List ℕ). encrypt_with w (replicate 16 0)) e) i }

pub returns : goal.returns
returns c =
    let zero : c.store-zero.result ≡ encrypt_with c.new-2.result.cipher.keys.now (replicate 16 0) = c.store-zero.ensures ∙ c.new-2.result.encrypted in
    parts _ _ _ c.expand_key-keys.ensures (zero ∙ ap (λ (k : List ℕ). encrypt_with k (replicate 16 0)) (c.new-2.ensures ∙ c.new.ensures))
