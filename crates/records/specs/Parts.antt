-- Definitions of spec in the parts that the code computes.
use Rattle.std.specs.Prelude.{◌≡◌, Bool, true, cond, ◌&&◌, ◌||◌, List, ◌++◌, ℕ, ◌+◌, eqb, leb, length}
use Rattle.cipher.specs.declared.kdf.DeviceKey.{DeviceKey}
use Rattle.cipher.specs.Device.{IsPrepared}
use Rattle.cipher.specs.Cmac.{cmac}
use Rattle.buffers.specs.Bytes.{zeros, all_zero}
use Rattle.spec.specs.Name.{Name}
use Rattle.spec.specs.Record.{require_confidentiality, require_integrity, valid_flags, max_data_size, metadata_size_of, revision_of, data_size_of, flags_of, iv_of, tag_of, auth_key}

-- a record with these flags is encrypted or has a CMAC, so that keys are derived for it
abbrev pub needs_keys : ℕ → Bool
needs_keys flags = require_confidentiality flags || require_integrity flags

-- the device key that is lent to whatever may derive keys: where no flag asks for one, any will do
abbrev pub ReadyFor : ℕ → DeviceKey → Type 0
ReadyFor flags device = needs_keys flags ≡ true → IsPrepared device

-- `well_formed` in two halves: what the metadata says, and the zeros
unfoldable pub fields_valid : List ℕ → Bool
fields_valid r =
    eqb (metadata_size_of r) 20 && (eqb (revision_of r) 1 && (valid_flags (flags_of r) && (leb (data_size_of r) max_data_size && eqb (length r) (data_size_of r + 36))))

unfoldable pub zeros_valid : List ℕ → Bool
zeros_valid r = (require_confidentiality (flags_of r) || all_zero (iv_of r)) && (require_integrity (flags_of r) || all_zero (tag_of r))

-- `record_cmac`, of metadata and data as stored that stand side by side
unfoldable pub cmac_over : List ℕ → Name → List ℕ → List ℕ
cmac_over key name covered = cmac (auth_key key name) (name ++ covered)

-- `sealed_tag`, of the same
unfoldable pub tag_over : List ℕ → Name → ℕ → List ℕ → List ℕ
tag_over key name flags covered = cond (require_integrity flags) (cmac_over key name covered) (zeros 16)
