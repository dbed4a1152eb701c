-- `slots::names::valid_prefix`: a test of the length, then the bytes.
use borrow.Author.Tests.{lt-leb, le-leb}
use lib.ListN.{length}
use Rattle.spec.specs.Name.{valid_prefix}
use Rattle.slots.proofs.names.valid_prefix.Goals as goal

pub returns-then-p-le64 : goal.returns-then-p-le64
unfolding valid_prefix
returns-then-p-le64 c = rw (le-leb (length c.args.p.now) 64 c.if-p-le64.true) c.valid_name_bytes.ensures

pub returns-else-p-le64 : goal.returns-else-p-le64
unfolding valid_prefix
returns-else-p-le64 c = rw (lt-leb (length c.args.p.now) 64 c.if-p-le64.false)
