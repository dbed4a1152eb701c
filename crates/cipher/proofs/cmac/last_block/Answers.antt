-- `cipher::cmac::last_block`: over a block of zeros the bytes stand as they are.
use Rattle.std.proofs.Common.{ℕ, List, length, ap, ◌∙◌}
use Rattle.cipher.specs.Aes.{block_of}
use Rattle.cipher.specs.Columns.{columns_state}
use Rattle.cipher.specs.Cmac.{double}
use Rattle.cipher.specs.CmacState.{closed_block}
use Rattle.cipher.proofs.Closing.{pasted_block}
use Rattle.cipher.proofs.cmac.last_block.Goals as goal

pub returns : goal.returns
returns c =
    let w = c.args.rest.now in
    let k = double (block_of (columns_state c.args.zero)) in
    c.close_block.ensures ∙ ap (λ (l : List ℕ). closed_block l (length w) k (double k)) (pasted_block w c.requires _ c.paste.ensures)
