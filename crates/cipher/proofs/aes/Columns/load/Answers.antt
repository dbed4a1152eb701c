-- `cipher::aes::load`: the front of a block is the block.
use Rattle.cipher.proofs.aes.Columns.load.Goals as goal

pub returns : goal.returns
returns c = c.load_at.ensures
