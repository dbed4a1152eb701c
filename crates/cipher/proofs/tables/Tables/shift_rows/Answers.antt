-- `cipher::aes::shift_rows`: its four columns are those that `unmixed` gives.
use Rattle.std.proofs.Common.{rules}
use Rattle.cipher.specs.Aes.{shift_rows, sub_bytes, sub_word, diagonal}
use Rattle.cipher.specs.Columns.{columns_state}
use Rattle.cipher.proofs.Words.{state-ext}
use Rattle.cipher.proofs.tables.Tables.shift_rows.Goals as goal

pub returns : goal.returns
unfolding columns_state shift_rows sub_bytes sub_word diagonal
returns c = state-ext (search rules) (search rules) (search rules) (search rules)
