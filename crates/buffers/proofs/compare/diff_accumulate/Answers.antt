-- `buffers::compare::diff_accumulate`: an or over the exclusive ors of all pairs.
use mathlib.Core.Path.{◌∙◌}
use Prim.Native.Nat.{ℕ}
use lib.Bits.{bit_or, bit_xor}
use Rattle.buffers.specs.Compare.{or_all, diff_accumulate}
use Rattle.std.proofs.Common.{rules}
use Rattle.std.proofs.lemmas.Iterator.{YieldsList-from_slice, YieldsList-from_zip}
use Rattle.std.proofs.lemmas.Iterator.Consumers.{fold_from_yields_List}
use Rattle.buffers.proofs.Folds.{pairs-fold}
use Rattle.buffers.proofs.compare.diff_accumulate.Goals as goal

pub returns : goal.returns
unfolding or_all diff_accumulate
returns c =
    let a = c.args.a.now in
    let b = c.args.b.now in
    let pairs = YieldsList-from_zip {s = c.zip.result} (YieldsList-from_slice a cc) (YieldsList-from_slice b cc) in
    fold_from_yields_List _ (λ (n : ℕ) (p : ℕ × ℕ). bit_or n (bit_xor p.0 p.1)) 0 c.fold.result c.fold.ensures.ran pairs (λ n x r q k. search rules)
    ∙ pairs-fold a b 0
