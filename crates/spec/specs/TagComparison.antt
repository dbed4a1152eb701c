-- 02, No. 3, "Compare every byte": the two comparisons of a record's CMAC, "with the computed CMAC or with the chip's", which are `mac_difference` and
-- `copy_difference` of crate records. Each hands back `diff_accumulate` of the two, "the bitwise or of the sixteen pairs' exclusive ors", and what that number
-- is stands in the laws of crate buffers.
use Rattle.std.specs.Prelude.{◌≡◌, ◌↔◌, true, List, ◌++◌, ℕ, length}
use Rattle.std.proofs.Math.Option.{some}
use Rattle.cipher.specs.Cmac.{cmac}
use Rattle.cipher.specs.Kdf.{derived_key, auth_prefix}
use Rattle.buffers.specs.Compare.{diff_accumulate}
use Rattle.spec.specs.Record.{metadata_of, stored_data_of, tag_of, well_formed, record_cmac, mac_ok}
use Rattle.spec.specs.Area.{rbp_format, lookup}
use Rattle.spec.specs.Decisions.{tag_matches}

-- of a record r under a device key and a name, and a copy that a chip may keep of its CMAC
pub record TagComparison (key name r copy : List ℕ) : Type 0 where
  -- the computed CMAC, whatever the flags
  pub computed_is : record_cmac key name (metadata_of r) (stored_data_of r) ≡ cmac (derived_key key auth_prefix name) (name ++ (metadata_of r ++ stored_data_of r))
  -- sixteen pairs: of the computed CMAC, of the stored one, of what any chip holds
  pub computed_length : length (record_cmac key name (metadata_of r) (stored_data_of r)) ≡ 16
  pub stored_length : well_formed r ≡ true → length (tag_of r) ≡ 16
  pub kept_length : (rbp : List ℕ) → lookup rbp_format rbp name ≡ some copy → length copy ≡ 16
  -- "yes is exactly a 0 there": with the computed CMAC (11), and with the chip's (12)
  pub computed : well_formed r ≡ true → (mac_ok key name r ≡ true) ↔ (diff_accumulate (record_cmac key name (metadata_of r) (stored_data_of r)) (tag_of r) ≡ 0)
  pub kept : well_formed r ≡ true → length copy ≡ 16 → (tag_matches (some copy) r ≡ true) ↔ (diff_accumulate copy (tag_of r) ≡ 0)
