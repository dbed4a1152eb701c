-- `keys::format::put_header`: each field stands behind the one before it.
use Rattle.std.proofs.Common.{◌≡◌, arith}
use Rattle.keys.specs.KeyFile.{key_file_header}
use Rattle.keys.proofs.Written.{one-more-field}
use Rattle.keys.proofs.format.put_header.Goals as goal

pub loop-i-init : goal.loop-i-init
loop-i-init c = c.paste.ensures

pub loop-i-preserved : goal.loop-i-preserved
loop-i-preserved c = one-more-field c.loop-i.i _ c.args.dst.now _ _ c.loop-i-test.true c.loop-i.invariant c.put_le_at.ensures

pub returns : goal.returns
unfolding key_file_header
returns c = let e : c.loop-i.i ≡ 7 = omega arith in rw e at c.loop-i.invariant
