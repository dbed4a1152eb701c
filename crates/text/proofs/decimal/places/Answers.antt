-- `text::decimal::places`: one more than the power of ten that the library finds.
use mathlib.Core.Path.{ap, ◌∙◌}
use Prim.Native.Nat.{ℕ, ◌+◌}
use Rattle.text.proofs.DecimalSteps.{places-found}
use Rattle.text.proofs.decimal.places.Goals as goal

pub returns : goal.returns
returns c =
    let log = c.checked_ilog10 in
    ap (λ (k : ℕ). k + 1) c.unwrap_or.ensures ∙ places-found c.args.n log.result log.ensures.none log.ensures.power_le log.ensures.next_power_gt log.ensures.bound
