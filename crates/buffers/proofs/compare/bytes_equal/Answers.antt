-- `buffers::compare::bytes_equal`: the lengths' test, and the decision at the end.
use mathlib.Core.Path.{sym, ap, ◌∙◌}
use Prim.Native.Nat.{ℕ}
use borrow.Author.Tests.{ne_eqb}
use lib.Dec.{eqb}
use lib.ListN.{length}
use Rattle.buffers.proofs.Bytes.{lengths_differ}
use Rattle.buffers.proofs.Folds.{diff-test}
use Rattle.buffers.proofs.compare.bytes_equal.Goals as goal

pub returns-then-a-b : goal.returns-then-a-b
returns-then-a-b c = ap (λ (n : ℕ). eqb n 0) c.diff_accumulate.ensures ∙ diff-test c.args.a.now c.args.b.now c.if-a-b.true

pub returns-else-a-b : goal.returns-else-a-b
returns-else-a-b c =
    let a = c.args.a.now in
    let b = c.args.b.now in
    ne_eqb (length a) (length b) c.if-a-b.false ∙ sym (lengths_differ a b c.if-a-b.false)
