-- The two comparisons of a record's CMAC decide as the tests of the definitions do.
use mathlib.Core.Path.{◌≡◌, refl, sym, ap, ◌∙◌}
use mathlib.Core.Logic.{◌↔◌}
use mathlib.Core.Bool.{Bool, true}
use mathlib.Core.List.{List}
use mathlib.Core.Option.{some}
use Prim.Native.Nat.{ℕ, ◌*◌, ◌<◌}
use native.Mathlib.Omega.{arith}
use borrow.Author.Tests.{eqb-true, eq-eqb}
use lib.Dec.{eqb}
use lib.ListN.{length, take, drop, length-drop}
use lib.Seq.{length-take-le}
use Rattle.buffers.specs.Compare.{diff_accumulate}
use Rattle.buffers.proofs.Folds.{diff-test}
use Rattle.buffers.proofs.Split.{split_o, clash_o}
use Rattle.spec.specs.Record.{metadata_of, stored_data_of, tag_of, well_formed, auth_key, record_cmac, mac_ok}
use Rattle.spec.specs.Area.{rbp_format, slot_count, slot_of, lookup}
use Rattle.spec.specs.Decisions.{tag_matches, record_of}
use Rattle.spec.specs.TagComparison.{TagComparison}
use Rattle.spec.proofs.Intact.{lookup-shape}
use Rattle.spec.proofs.Record.{record_cmac-length, valid-record, valid-tag-length}

stored_length : (r : List ℕ) → well_formed r ≡ true → length (tag_of r) ≡ 16
stored_length r h = valid-tag-length r (valid-record r h)

-- an entry of the chip keeps sixteen bytes
slot-long : (rbp : List ℕ) (i : ℕ) → i < slot_count rbp_format rbp → length (take 82 (drop (i * 82) rbp)) ≡ 82
slot-long rbp i h = length-take-le 82 (drop (i * 82) rbp) (omega (arith, length-drop (i * 82) rbp, h))

pub kept_length : (name copy rbp : List ℕ) → lookup rbp_format rbp name ≡ some copy → length copy ≡ 16
kept_length name copy rbp e =
    let shape = lookup-shape rbp_format rbp name in
    split_o (slot_of rbp_format rbp name)
    (λ z. clash_o (lookup rbp_format rbp name) (shape.none_there z) e)
    (λ slot z.
    let held = (shape.slot slot).0 z in
    let wide : length slot ≡ 82 = sym (ap length held.slot_is) ∙ slot-long rbp held.i held.in_range in
    let payload : copy ≡ take 16 (drop 66 slot) = ap record_of (sym e ∙ shape.payload slot z) in
    ap length payload ∙ length-take-le 16 (drop 66 slot) (omega (arith, length-drop 66 slot)))

pub mac_decided : (key name r : List ℕ) → well_formed r ≡ true
    → eqb (diff_accumulate (record_cmac key name (metadata_of r) (stored_data_of r)) (tag_of r)) 0 ≡ mac_ok key name r
unfolding mac_ok
mac_decided key name r h =
    diff-test (record_cmac key name (metadata_of r) (stored_data_of r)) (tag_of r) (record_cmac-length key name (metadata_of r) (stored_data_of r) ∙ sym (stored_length r h))

pub copy-decided : (copy r : List ℕ) → length copy ≡ 16 → well_formed r ≡ true → eqb (diff_accumulate copy (tag_of r)) 0 ≡ tag_matches (some copy) r
copy-decided copy r k h = diff-test copy (tag_of r) (k ∙ sym (stored_length r h))

-- a number that is tested for 0
tested : (n : ℕ) (t : Bool) → eqb n 0 ≡ t → (t ≡ true) ↔ (n ≡ 0)
tested n t e = (λ p. eqb-true n 0 (e ∙ p), λ z. sym e ∙ eq-eqb n 0 z)

pub tag_comparison : (key name r copy : List ℕ) → TagComparison key name r copy
unfolding record_cmac auth_key
tag_comparison key name r copy = record {
  computed_is = refl;
  computed_length = record_cmac-length key name (metadata_of r) (stored_data_of r);
  stored_length = stored_length r;
  kept_length = kept_length name copy;
  computed = λ h. tested _ _ (mac_decided key name r h);
  kept = λ h k. tested _ _ (copy-decided copy r k h);
}
