-- `buffers::numbers::put_le`. The invariant: the bytes in place, then those of the rest, are the value's.
use mathlib.Core.Path.{◌∙◌}
use native.Mathlib.Omega.{arith}
use lib.ListN.{length}
use Rattle.buffers.proofs.LittleEndian.{put_step}
use Rattle.buffers.proofs.numbers.put_le.Goals as goal

pub loop-byte-preserved : goal.loop-byte-preserved
loop-byte-preserved c =
    let l = c.loop-byte in
    put_step l.dst (length c.args.dst.now) l.byte-index l.rest (omega arith) (omega arith) ∙ l.invariant
