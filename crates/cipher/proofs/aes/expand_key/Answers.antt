-- `cipher::aes::expand_key`: the words that the tables give.
use Rattle.cipher.proofs.aes.expand_key.Goals as goal

pub returns : goal.returns
returns c = c.expand_key.ensures
