-- `cipher::ctr::crypt` starts at the count 0.
use Rattle.cipher.specs.Ctr.{ctr}
use Rattle.cipher.proofs.ctr.crypt.Goals as goal

pub returns : goal.returns
unfolding ctr
returns c = c.crypt_at.ensures
