-- `cipher::aes::load_at`: the four columns are the words of the block.
use Rattle.std.proofs.Common.{◌∙◌, add-zero}
use Rattle.cipher.specs.Aes.{state_of}
use Rattle.cipher.specs.Columns.{columns_state}
use Rattle.cipher.proofs.Words.{state-ext}
use Rattle.cipher.proofs.States.{word-drop}
use Rattle.cipher.proofs.aes.Columns.load_at.Goals as goal

pub returns : goal.returns
unfolding columns_state state_of
returns c =
    let l = c.args.bytes.now in
    let i = c.args.i in
    state-ext (c.word_at.ensures ∙ (rw add-zero at (word-drop l i 0))) (c.word_at-2.ensures ∙ word-drop l i 4)
    (c.word_at-3.ensures ∙ word-drop l i 8) (c.word_at-4.ensures ∙ word-drop l i 12)
