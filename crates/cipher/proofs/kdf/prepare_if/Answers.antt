-- `cipher::kdf::prepare_if`: a case for each answer.
use Rattle.cipher.specs.Device.{bare}
use Rattle.cipher.proofs.kdf.prepare_if.Goals as goal

pub returns-then-wanted : goal.returns-then-wanted
returns-then-wanted c = rw c.if-wanted.true c.prepare.ensures

pub returns : goal.returns
unfolding bare
returns c = rw c.if-wanted.false
