-- `cipher::aes::Columns::store` writes the bytes of the columns in order.
use Rattle.std.proofs.Common.{ℕ, List, replicate, ap, ◌∙◌, ap₂}
use Rattle.buffers.specs.Bytes.{put_at}
use Rattle.cipher.specs.Aes.{block_of, word_bytes, number_word}
use Rattle.cipher.specs.Columns.{columns_state}
use Rattle.cipher.proofs.aes.Columns.store.Goals as goal

pub returns : goal.returns
unfolding block_of word_bytes columns_state number_word
returns c =
    let put : ℕ → List ℕ → List ℕ → List ℕ = λ i d s. put_at d i s in
    let one = c.paste.ensures ∙ ap (put 0 (replicate 16 0)) c.to_be_bytes.ensures in
    let two = c.paste-2.ensures ∙ ap₂ (put 4) one c.to_be_bytes-2.ensures in
    let three = c.paste-3.ensures ∙ ap₂ (put 8) two c.to_be_bytes-3.ensures in
    c.paste-4.ensures ∙ ap₂ (put 12) three c.to_be_bytes-4.ensures
