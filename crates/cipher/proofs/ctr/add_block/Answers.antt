-- `cipher::ctr::add_block`: the four words of the block.
use Rattle.cipher.specs.Columns.{columns_state}
use Rattle.cipher.proofs.Stream.{words-added}
use Rattle.cipher.proofs.ctr.add_block.Goals as goal

pub returns : goal.returns
unfolding columns_state
returns c =
    words-added (columns_state c.args.s) c.args.part.now _ _ _ _ c.requires c.add_word.ensures c.add_word-2.ensures
    c.add_word-3.ensures c.add_word-4.ensures
