-- `cipher::aes::encrypt_block`: the block as a state, encrypted, and as a block again.
use Rattle.std.proofs.Common.{ap, ◌∙◌}
use Rattle.cipher.specs.Aes.{block_of, kept_key, encrypt_with, cipher}
use Rattle.cipher.specs.Columns.{columns_state}
use Rattle.cipher.proofs.aes.Cipher.encrypt_block.Goals as goal

pub returns : goal.returns
unfolding encrypt_with columns_state
returns c =
    c.store.ensures ∙ ap block_of (c.encrypt.ensures ∙ ap (cipher (kept_key _)) c.load.ensures)
