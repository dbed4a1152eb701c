-- `store::incremental::set_finalize`: what the tests say, then a set of what is held.
use mathlib.Core.Path.{◌≡◌, refl, ap, ◌∙◌}
use Prim.Native.Nat.{ℕ}
use native.Mathlib.Omega.{arith}
use lib.ListN.{length}
use borrow.Author.Rules.{rules}
use Rattle.spec.specs.Calls.{areas}
use Rattle.store.proofs.Tests.{refused_number, handed_status}
use Rattle.store.proofs.IncrementalCall.{Given, refused-early, complete, is_set}
use Rattle.store.proofs.incremental.set_finalize.Goals as goal

pub returns-in_err-finalize_status : goal.returns-in_err-finalize_status
returns-in_err-finalize_status c =
    let args = c.args in
    ap (λ (s : ℕ). Given s (areas args.kv.now args.rbp.now)) (handed_status _ _ c.from_residual.ensures)
    ∙ refused-early args.kv.now args.rbp.now args.device_key.now args.handle args.staging.now
    _ c.in_err-finalize_status.ensures (search rules) (refused_number _)

pub slice_bounds-set-end : goal.slice_bounds-set-end
slice_bounds-set-end c =
    let args = c.args in
    let all = complete args.kv.now args.rbp.now args.device_key.now args.handle args.staging.now 0 c.in_ok-finalize_status.ensures refl in
    let fits = all.name_short in
    let long : length c.args.handle.name ≡ 64 = search rules in
    omega arith

pub slice_bounds-set-end-3 : goal.slice_bounds-set-end-3
slice_bounds-set-end-3 c =
    let args = c.args in
    let all = complete args.kv.now args.rbp.now args.device_key.now args.handle args.staging.now 0 c.in_ok-finalize_status.ensures refl in
    let whole = all.all_held in
    let small = all.size_small in
    let long = all.staging_is_sized in
    omega arith

pub returns : goal.returns
returns c =
    let args = c.args in
    is_set args.kv.now args.rbp.now args.device_key.now args.handle args.staging.now 0 c.in_ok-finalize_status.ensures refl
    _ c.set.ensures
