-- `cipher::aes::Cipher::round_key`: four words of the expanded key.
use Rattle.std.proofs.Common.{refl}
use Rattle.cipher.specs.Aes.{kept_key}
use Rattle.cipher.specs.Columns.{columns_state}
use Rattle.cipher.proofs.aes.Cipher.round_key.Goals as goal

pub returns : goal.returns
unfolding columns_state kept_key
returns c = refl
