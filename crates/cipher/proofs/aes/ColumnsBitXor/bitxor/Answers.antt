-- `cipher::aes::Columns ^ Columns`: the exclusive or of two numbers is that of their words.
use Rattle.cipher.specs.Aes.{add_round_key}
use Rattle.cipher.specs.Columns.{columns_state}
use Rattle.cipher.proofs.Words.{state-ext, number-xor}
use Rattle.cipher.proofs.aes.ColumnsBitXor.bitxor.Goals as goal

pub returns : goal.returns
unfolding columns_state add_round_key
returns c = state-ext (number-xor _ _) (number-xor _ _) (number-xor _ _) (number-xor _ _)
