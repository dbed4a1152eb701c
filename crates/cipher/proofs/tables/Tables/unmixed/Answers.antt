-- `cipher::tables::Tables::unmixed`: the bytes of the word are bytes 1 and 2 of the entries, which are the substitutes.
use Rattle.std.proofs.Common.{ℕ, List, get_or, ap, ◌∙◌}
use Rattle.cipher.specs.Aes.{Word, number_word, sub_word, diagonal}
use Rattle.cipher.specs.Tables.{mix_word}
use Rattle.cipher.proofs.Words.{word_of}
use Rattle.cipher.proofs.Mix.{sub-lt}
use Rattle.cipher.proofs.tables.Tables.unmixed.Goals as goal

pub returns : goal.returns
unfolding number_word sub_word diagonal mix_word
returns c =
    let byte : ℕ → List ℕ → ℕ = λ i l. get_or l i 0 in
    let b0 = ap (byte 1) c.to_be_bytes-2.ensures ∙ ap (λ (w : Word). w.b1) (rw c.to_be_bytes.ensures at c.mix_entry.ensures) in
    let b1 = ap (byte 1) c.to_be_bytes-4.ensures ∙ ap (λ (w : Word). w.b1) (rw c.to_be_bytes-3.ensures at c.mix_entry-2.ensures) in
    let b2 = ap (byte 2) c.to_be_bytes-6.ensures ∙ ap (λ (w : Word). w.b2) (rw c.to_be_bytes-5.ensures at c.mix_entry-3.ensures) in
    let b3 = ap (byte 2) c.to_be_bytes-8.ensures ∙ ap (λ (w : Word). w.b2) (rw c.to_be_bytes-7.ensures at c.mix_entry-4.ensures) in
    word_of _ _ _ _ _ (sub-lt _) (sub-lt _) (sub-lt _) (sub-lt _) (rw (← b0, ← b1, ← b2, ← b3) c.from_be_bytes.ensures)
