-- A valid record, as the code tests it, and what its CMAC covers. Assumes nothing.
use mathlib.Core.Path.{◌≡◌}
use mathlib.Core.Bool.{false, ◌&&◌, and_assoc}
use mathlib.Core.List.{List}
use Prim.Native.Nat.{ℕ, ◌+◌, ◌-◌, ◌<◌}
use native.Mathlib.Omega.{arith}
use lib.ListN.{length, take}
use lib.Seq.{take-add}
use Rattle.spec.specs.Record.{metadata_of, stored_data_of, well_formed, record_cmac}
use Rattle.buffers.proofs.Split.{split}
use Rattle.spec.proofs.Record.{ValidRecord, valid-record}
use Rattle.records.specs.Parts.{fields_valid, zeros_valid, cmac_over}

pub valid-halves : (r : List ℕ) → well_formed r ≡ (fields_valid r && zeros_valid r)
unfolding well_formed fields_valid zeros_valid
valid-halves r = simp and_assoc

pub short-invalid : (r : List ℕ) → length r < 36 → well_formed r ≡ false
short-invalid r h = split (well_formed r) (λ e. let v = valid-record r e in absurd (omega arith)) (λ e. e)

-- metadata and stored data stand side by side
pub covered-cmac : (key name r : List ℕ) → ValidRecord r
    → cmac_over key name (take (length r - 16) r) ≡ record_cmac key name (metadata_of r) (stored_data_of r)
unfolding cmac_over record_cmac
covered-cmac key name r v =
    let h = v.record_length in
    let e : length r - 16 ≡ 20 + (length r - 36) = omega arith in
    rw (e, take-add 20 (length r - 36) r)
