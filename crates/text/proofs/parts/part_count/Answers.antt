-- `text::parts::part_count`: one more than separators.
use mathlib.Core.Path.{◌≡◌, ap, sym, ◌∙◌}
use Prim.Native.Nat.{ℕ, ◌+◌}
use Rattle.std.specs.Prelude.{count_by, ◌==◌}
use Rattle.std.proofs.Common.{rules}
use Rattle.std.proofs.iter.runs.Made.{chains}
use Rattle.text.proofs.PartLaws.{count-parts}
use Rattle.text.proofs.parts.part_count.Goals as goal

pub returns : goal.returns
returns c =
    let a = c.args in
    let n : c.count.result ≡ count_by (λ x. x == a.separator) a.s.now = search (rules, chains) in
    ap (λ (k : ℕ). k + 1) n ∙ sym (count-parts a.separator a.s.now)
