-- `cipher::mac_key::MacKey::new`: four zero columns are the block of zeros.
use Rattle.std.proofs.Common.{ap}
use Rattle.cipher.specs.Aes.{number_word, word_at, state_of, block_of, encrypt_with}
use Rattle.cipher.specs.Columns.{columns_state}
use Rattle.cipher.proofs.mac_key.MacKey.new.Goals as goal

pub invariant_of-result : goal.invariant_of-result
unfolding encrypt_with columns_state number_word state_of word_at
invariant_of-result c = record { encrypted = ap block_of c.encrypt-zero.ensures }
