-- `slots::slot::has_prefix`: a name that is shorter has not the prefix.
use mathlib.Core.Path.{sym, ◌∙◌}
use native.Mathlib.Omega.{arith}
use borrow.Author.Tests.{lt-leb}
use lib.ListN.{length, take, length-take}
use Rattle.buffers.proofs.Bytes.{lengths_differ}
use Rattle.slots.proofs.slot.has_prefix.Goals as goal

pub returns-else-prefix-name : goal.returns-else-prefix-name
returns-else-prefix-name c =
    let p = c.args.prefix.now in
    let n = c.args.name.now in
    lt-leb (length p) (length n) (omega (arith, c.if-prefix-name.false)) ∙ sym (lengths_differ p (take (length p) n) (λ e. omega (arith, e, length-take (length p) n, c.if-prefix-name.false)))
