-- `cipher::cmac::CmacState::pending_part`: with its key it is the state.
use Rattle.std.proofs.Common.{refl}
use Rattle.cipher.specs.Pending.{state_with}
use Rattle.cipher.proofs.cmac.CmacState.pending_part.Goals as goal

pub returns : goal.returns
unfolding state_with
returns c = refl
