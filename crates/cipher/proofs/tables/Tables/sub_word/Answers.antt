-- `cipher::tables::Tables::sub_word`: the four substitutes are the bytes of the word.
use Rattle.cipher.specs.Aes.{number_word, sub_word}
use Rattle.cipher.proofs.Words.{word_of}
use Rattle.cipher.proofs.Mix.{sub-lt}
use Rattle.cipher.proofs.tables.Tables.sub_word.Goals as goal

pub returns : goal.returns
unfolding number_word sub_word
returns c =
    let bytes = c.to_be_bytes.ensures in
    let b0 = rw bytes at c.substitute.ensures in
    let b1 = rw bytes at c.substitute-2.ensures in
    let b2 = rw bytes at c.substitute-3.ensures in
    let b3 = rw bytes at c.substitute-4.ensures in
    word_of _ _ _ _ _ (sub-lt _) (sub-lt _) (sub-lt _) (sub-lt _) (rw (← b0, ← b1, ← b2, ← b3) c.from_be_bytes.ensures)
