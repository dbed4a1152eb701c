-- `cipher::cmac::CmacState::keyed` holds the expanded key.
use Rattle.std.proofs.Common.{ℕ, List, replicate, ap}
use Rattle.cipher.specs.CmacState.{keyed}
use Rattle.cipher.proofs.Fold.{state}
use Rattle.cipher.proofs.cmac.CmacState.keyed.Goals as goal

pub returns : goal.returns
unfolding keyed
returns c = ap (λ (ks : List ℕ). state (replicate 16 0) 0 ks) c.expand_key-keys.ensures
