-- `mix::find::find_encoded_mix`: 1 and 2, then what the search gives with keys prepared from the device key.
use mathlib.Core.Path.{sym, ap, ◌∙◌}
use mathlib.Core.List.{List}
use Prim.Native.Nat.{ℕ}
use native.Mathlib.Omega.{arith}
use Rattle.cipher.specs.declared.kdf.DeviceKey.{DeviceKey}
use Rattle.cipher.specs.Device.{prepared}
use Rattle.mix.specs.Calls.{find_encoded_mix}
use Rattle.spec.proofs.Status.{answer-refused}
use Rattle.mix.proofs.FindLaws.{find-exact}
use Rattle.mix.proofs.Tried.{key_is_sized}
use Rattle.mix.proofs.Found.{guard_refuses}
use Rattle.spec.specs.Status.{first_of}
use Rattle.spec.specs.Decisions.{key_sized}
use Rattle.store.specs.Parts.{area_tests}
use Rattle.store.proofs.Tests.{refused_number, handed_on}
use Rattle.mix.proofs.find.find_encoded_mix.Goals as goal

pub returns-then-mix_buf-lt-MAX_MIX : goal.returns-then-mix_buf-lt-MAX_MIX
returns-then-mix_buf-lt-MAX_MIX c =
    let a = c.args in
    sym ((find-exact a.kv.now a.rbp.now a.device_key.now).short a.session_id a.mix_buf.now c.if-mix_buf-lt-MAX_MIX.true)

pub returns-in_err-guard_areas : goal.returns-in_err-guard_areas
unfolding find_encoded_mix
returns-in_err-guard_areas c =
    let a = c.args in
    let e = c.in_err-guard_areas.field-0.0 in
    let buf = a.mix_buf.now in
    rw (handed_on _ e c.from_residual.ensures)
    (answer-refused _ _ _ buf
    (guard_refuses a.kv.now a.rbp.now a.device_key.now a.session_id buf c.if-mix_buf-lt-MAX_MIX.false _ c.in_err-guard_areas.ensures (refused_number e))
    (refused_number e))

pub array-requires : goal.array-requires
array-requires c =
    let a = c.args in
    (omega arith, key_is_sized a.kv.now a.rbp.now a.device_key.now (sym c.in_ok-guard_areas.ensures))

pub invariant_of-records : goal.invariant_of-records
unfolding prepared
invariant_of-records c =
    let a = c.args in
    let e = c.prepare-device.ensures in
    let key = ap (λ (d : DeviceKey). d.key) e in
    record {
      passed = ap (λ (k : List ℕ). first_of (area_tests a.kv.now a.rbp.now (key_sized k))) (key ∙ c.array.ensures)
          ∙ sym c.in_ok-guard_areas.ensures;
      prepared = e ∙ ap prepared (sym key);
    }

pub returns : goal.returns
unfolding prepared
returns c =
    let a = c.args in
    let key = ap (λ (d : DeviceKey). d.key) c.prepare-device.ensures ∙ c.array.ensures in
    c.find.ensures ∙ ap (λ (k : List ℕ). find_encoded_mix a.kv.now a.rbp.now k a.session_id a.mix_buf.now) key
