-- The device key, prepared for the derivations of one call.
use Rattle.std.specs.Prelude.{◌≡◌, ℕ, List, replicate}
use Rattle.cipher.specs.declared.kdf.DeviceKey.{DeviceKey}
use Rattle.cipher.specs.Aes.{expand_key, encrypt_with}

-- the key, its expansion, and CIPH_K(0^128), from which SP 800-38B, 6.1, makes the subkeys
unfoldable pub prepared : List ℕ → DeviceKey
prepared key = record { key = key; keys = expand_key key; zero = encrypt_with (expand_key key) (replicate 16 0) }

-- the key alone, where no key is to be derived
unfoldable pub bare : List ℕ → DeviceKey
bare key = record { key = key; keys = replicate 44 0; zero = replicate 16 0 }

-- a device key with what belongs to it, from which keys are derived
abbrev pub IsPrepared : DeviceKey → Type 0
IsPrepared device = device ≡ prepared device.key
