-- `keys::format::put_header`. The invariant: the mark and the fields so far, then the buffer as it was.
use Rattle.std.proofs.Common.{◌≡◌}
use Rattle.keys.proofs.Written.{with_fields}
use Rattle.keys.proofs.format.put_header.Given as goal

abbrev pub invariant-loop-i : goal.invariant-loop-i
invariant-loop-i l = l.dst ≡ with_fields l.i l.field-items l.fn.dst
