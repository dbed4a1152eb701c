-- `cipher::cmac::CmacState::begin` keeps the expanded key alone.
use Rattle.std.proofs.Common.{refl}
use Rattle.cipher.specs.CmacState.{begun}
use Rattle.cipher.proofs.cmac.CmacState.begin.Goals as goal

pub returns : goal.returns
unfolding begun
returns c = refl
