-- `store::guard::early_status`: the areas and the lengths, then 3.
use mathlib.Core.Bool.{not}
use mathlib.Core.List.{[], ◌∷◌}
use Rattle.spec.specs.Status.{◌when◌}
use Rattle.store.specs.Parts.{area_tests}
use Rattle.store.proofs.Tests.{stopped}
use Rattle.store.proofs.guard.early_status.Goals as goal

pub returns-in_err-guard_areas : goal.returns-in_err-guard_areas
returns-in_err-guard_areas c =
    let args = c.args in
    stopped (area_tests args.kv.now args.rbp.now args.lengths) ((3 when not args.named) ∷ []) _ _ c.from_residual.ensures c.in_err-guard_areas.ensures
