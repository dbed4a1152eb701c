-- `cipher::ctr::ctr_xor` starts at the count 0.
use Rattle.cipher.specs.Ctr.{ctr}
use Rattle.cipher.proofs.ctr.ctr_xor.Goals as goal

pub returns : goal.returns
unfolding ctr
returns c = c.ctr_xor_at.ensures
