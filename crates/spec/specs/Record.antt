-- 01, "The record": metadata (20 bytes), the stored data, 16 bytes of CMAC.
--   write_once .. require_replay_protection, valid_flags   the flags of a record, and which are good
--   metadata, seal_record, Sealable                        what a set makes of its arguments; what it has tested of them
--   metadata_size_of .. tag_of                             the parts of a record, which is the bytes that a record length counts
--   well_formed, mac_ok, plaintext                         the tests of a record, and its data
-- Which revision is written and which are read is decided here alone.
use Rattle.std.specs.Prelude.{◌≡◌, Bool, true, cond, not, ◌&&◌, ◌||◌, List, ◌++◌, ℕ, ◌+◌, ◌-◌, ◌/◌, ◌%◌, ◌≤◌, eqb, leb, ltb, length, take, drop}
use Rattle.cipher.specs.Cmac.{cmac}
use Rattle.cipher.specs.Ctr.{ctr}
use Rattle.cipher.specs.Kdf.{derived_key, enc_prefix, auth_prefix}
use Rattle.buffers.specs.Bytes.{bytes_eq, zeros, all_zero, le_bytes, u16_at, u32_at}
use Rattle.spec.specs.Name.{Name}

-- Flags: 1 write once, 2 confidentiality, 4 integrity, 8 replay protection
abbrev pub write_once : ℕ → Bool
write_once flags = eqb (flags % 2) 1

abbrev pub require_confidentiality : ℕ → Bool
require_confidentiality flags = eqb (flags / 2 % 2) 1

abbrev pub require_integrity : ℕ → Bool
require_integrity flags = eqb (flags / 4 % 2) 1

abbrev pub require_replay_protection : ℕ → Bool
require_replay_protection flags = eqb (flags / 8 % 2) 1

-- "Replay protection needs integrity. Other bits are refused."
unfoldable pub valid_flags : ℕ → Bool
valid_flags flags = ltb flags 16 && (not (require_replay_protection flags) || require_integrity flags)

-- 01: "at most 480"
abbrev pub max_data_size : ℕ
max_data_size = 480

-- metadata size 20 (2), revision 1 (2), data size (4), flags (4), IV (8)
unfoldable pub metadata : ℕ → ℕ → List ℕ → List ℕ
metadata data_size flags iv = le_bytes 2 20 ++ (le_bytes 2 1 ++ (le_bytes 4 data_size ++ (le_bytes 4 flags ++ iv)))

-- the fields of a record r, which is the bytes that a record length counts
abbrev pub metadata_size_of : List ℕ → ℕ
metadata_size_of r = u16_at r 0

abbrev pub revision_of : List ℕ → ℕ
revision_of r = u16_at r 2

abbrev pub data_size_of : List ℕ → ℕ
data_size_of r = u32_at r 4

abbrev pub flags_of : List ℕ → ℕ
flags_of r = u32_at r 8

abbrev pub iv_of : List ℕ → List ℕ
iv_of r = take 8 (drop 12 r)

abbrev pub metadata_of : List ℕ → List ℕ
metadata_of r = take 20 r

-- 01: "the data as stored"
abbrev pub stored_data_of : List ℕ → List ℕ
stored_data_of r = take (length r - 36) (drop 20 r)

abbrev pub tag_of : List ℕ → List ℕ
tag_of r = drop (length r - 16) r

-- 01: "well formed"
unfoldable pub well_formed : List ℕ → Bool
well_formed r =
    eqb (metadata_size_of r) 20 && (eqb (revision_of r) 1 && (valid_flags (flags_of r) && (leb (data_size_of r) max_data_size && (eqb (length r) (data_size_of r + 36)
    && ((require_confidentiality (flags_of r) || all_zero (iv_of r)) && (require_integrity (flags_of r) || all_zero (tag_of r)))))))

-- the keys that a name has under a device key
unfoldable pub enc_key : List ℕ → Name → List ℕ
enc_key key name = derived_key key enc_prefix name

unfoldable pub auth_key : List ℕ → Name → List ℕ
auth_key key name = derived_key key auth_prefix name

-- what counter mode with a name's key makes of data: encryption and decryption alike
unfoldable pub crypt : List ℕ → Name → List ℕ → List ℕ → List ℕ
crypt key name iv value = ctr (enc_key key name) iv value

-- "The CMAC covers the name, the metadata and the data as stored, under the AUTH key."
unfoldable pub record_cmac : List ℕ → Name → List ℕ → List ℕ → List ℕ
record_cmac key name meta stored = cmac (auth_key key name) (name ++ (meta ++ stored))

-- "Without confidentiality the IV is zero whatever was lent."
unfoldable pub sealed_iv : ℕ → List ℕ → List ℕ
sealed_iv flags iv = cond (require_confidentiality flags) iv (zeros 8)

unfoldable pub sealed_data : List ℕ → Name → ℕ → List ℕ → List ℕ → List ℕ
sealed_data key name flags iv value = cond (require_confidentiality flags) (crypt key name iv value) value

-- "Without integrity the 16 bytes are zero."
unfoldable pub sealed_tag : List ℕ → Name → ℕ → List ℕ → List ℕ → List ℕ
sealed_tag key name flags meta stored = cond (require_integrity flags) (record_cmac key name meta stored) (zeros 16)

-- what a set has tested of its arguments before it seals them
pub record Sealable (flags : ℕ) (iv value : List ℕ) : Type 0 where
  pub flags_valid : valid_flags flags ≡ true
  pub iv_is_sized : length iv ≡ 8
  pub value_sized : length value ≤ max_data_size

-- the record that a set makes of its arguments
unfoldable pub seal_record : List ℕ → Name → ℕ → List ℕ → List ℕ → List ℕ
seal_record key name flags iv value =
    let meta = metadata (length value) flags (sealed_iv flags iv) in
    let stored = sealed_data key name flags iv value in
    meta ++ (stored ++ sealed_tag key name flags meta stored)

-- the record's CMAC is the computed one, in all sixteen bytes
unfoldable pub mac_ok : List ℕ → Name → List ℕ → Bool
mac_ok key name r = bytes_eq (record_cmac key name (metadata_of r) (stored_data_of r)) (tag_of r)

-- the data of a record, decrypted where flag 2 is set
unfoldable pub plaintext : List ℕ → Name → List ℕ → List ℕ
plaintext key name r = take (data_size_of r) (cond (require_confidentiality (flags_of r)) (crypt key name (iv_of r) (stored_data_of r)) (stored_data_of r))
