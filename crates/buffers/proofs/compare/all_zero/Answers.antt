-- `buffers::compare::all_zero`: the decision at the end of an or over all bytes.
use mathlib.Core.Path.{◌≡◌, ap, ◌∙◌}
use Rattle.std.specs.List.{fold}
use Prim.Native.Nat.{ℕ}
use lib.Bits.{bit_or}
use lib.Dec.{eqb}
use Rattle.std.proofs.Common.{rules}
use Rattle.std.proofs.iter.runs.Made.{chains}
use Rattle.buffers.proofs.Folds.{fold-test}
use Rattle.buffers.proofs.compare.all_zero.Goals as goal

pub returns : goal.returns
returns c =
    let or : c.fold.result ≡ fold bit_or 0 c.args.s.now = search (rules, chains) in
    ap (λ (n : ℕ). eqb n 0) or ∙ fold-test c.args.s.now 0
