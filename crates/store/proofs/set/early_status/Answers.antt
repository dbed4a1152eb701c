-- `store::set::early_status`: the areas and the lengths, then 3, 4, 5.
use mathlib.Core.Path.{◌≡◌, refl, sym, ap, ◌∙◌}
use mathlib.Core.Bool.{Bool, ◌&&◌}
use borrow.Author.Tests.{eq-eqb, ne_eqb}
use Rattle.spec.specs.Status.{first_of}
use Rattle.spec.specs.Decisions.{key_sized, iv_sized}
use Rattle.store.specs.Parts.{area_tests, set_arguments}
use Rattle.store.proofs.Tests.{stopped, went_on, two-besides}
use Rattle.store.proofs.set.early_status.Goals.{then-device_key-eq16, else-device_key-eq16}
use Rattle.store.proofs.set.early_status.Goals as goal

pub returns-in_err-guard_areas : goal.returns-in_err-guard_areas
returns-in_err-guard_areas c =
    let args = c.args in
    let key = args.device_key.now in
    let iv = args.iv.now in
    let arguments = set_arguments args.name.now args.flags args.«data».now in
    let lengths : c.if-device_key-eq16.guard_areas ≡ (key_sized key && iv_sized iv) = elim c.if-device_key-eq16.branch [
      | then-device_key-eq16 w ↦ rw (eq-eqb _ 16 w.if-device_key-eq16.true) w.guard_areas-is
      | else-device_key-eq16 w ↦ rw (ne_eqb _ 16 w.if-device_key-eq16.false) (w.guard_areas-is ∙ ne_eqb _ 16 w.if-device_key-eq16.false)
    ] in
    let tested = c.in_err-guard_areas.ensures ∙ ap (λ (l : Bool). first_of (area_tests args.kv.now args.rbp.now l)) lengths in
    stopped (area_tests args.kv.now args.rbp.now (key_sized key && iv_sized iv)) arguments _ _ c.from_residual.ensures tested
    ∙ sym (two-besides args.kv.now args.rbp.now arguments (key_sized key) (iv_sized iv))

pub returns : goal.returns
returns c =
    let args = c.args in
    let key = args.device_key.now in
    let iv = args.iv.now in
    let arguments = set_arguments args.name.now args.flags args.«data».now in
    let lengths : c.if-device_key-eq16.guard_areas ≡ (key_sized key && iv_sized iv) = elim c.if-device_key-eq16.branch [
      | then-device_key-eq16 w ↦ rw (eq-eqb _ 16 w.if-device_key-eq16.true) w.guard_areas-is
      | else-device_key-eq16 w ↦ rw (ne_eqb _ 16 w.if-device_key-eq16.false) (w.guard_areas-is ∙ ne_eqb _ 16 w.if-device_key-eq16.false)
    ] in
    let tested = c.in_ok-guard_areas.ensures ∙ ap (λ (l : Bool). first_of (area_tests args.kv.now args.rbp.now l)) lengths in
    went_on (area_tests args.kv.now args.rbp.now (key_sized key && iv_sized iv)) arguments refl tested _ c.argument_status.ensures
    ∙ sym (two-besides args.kv.now args.rbp.now arguments (key_sized key) (iv_sized iv))
