-- `cipher::ctr::add_word`: the bytes of the sum, put in the place of the word.
use Rattle.std.proofs.Common.{◌+◌, ◌++◌, take, drop, sym, ap, ◌∙◌, append_assoc}
use Rattle.buffers.specs.Bytes.{put_at}
use Rattle.cipher.specs.Aes.{Word, number_word, word_bytes, xor_word}
use Rattle.cipher.proofs.Words.{number-xor}
use Rattle.cipher.proofs.ctr.add_word.Goals as goal

pub returns : goal.returns
unfolding word_bytes number_word
returns c =
    let l = c.args.buf.now in
    let i = c.args.i in
    let w = c.args.w in
    let sum = number-xor c.word_at.result w ∙ ap (λ (v : Word). xor_word v (number_word w)) c.word_at.ensures in
    c.paste.ensures ∙ ap (put_at l i) c.to_be_bytes.ensures ∙ sym (append_assoc (take i l) _ (drop (i + 4) l))
    ∙ ap (λ (v : Word). take i l ++ word_bytes v ++ drop (i + 4) l) sum
