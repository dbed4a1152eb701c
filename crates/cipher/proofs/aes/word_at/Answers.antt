-- `cipher::aes::word_at`: a number made of four bytes of the block has them as its word.
use Rattle.std.proofs.Common.{ℕ, ◌+◌, ◌<◌, get_or}
use Rattle.cipher.specs.Aes.{word_at}
use Rattle.cipher.proofs.Words.{word_of}
use Rattle.cipher.proofs.aes.word_at.Goals as goal

pub returns : goal.returns
unfolding word_at
returns c =
    let i = c.args.i in
    let fits : (j : ℕ) → get_or c.args.bytes.now j 0 < 256 = λ j. (c.type_inv.bytes j).fits in
    word_of _ _ _ _ _ (fits i) (fits (i + 1)) (fits (i + 2)) (fits (i + 3)) c.be32_at.ensures
