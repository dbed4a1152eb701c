-- `cipher::tables::Tables::last_column_part`: each byte's entry, turned to its row.
use Rattle.std.proofs.Common.{ap, ◌∙◌, rules}
use Rattle.cipher.specs.Aes.{Word, number_word, rot_word}
use Rattle.cipher.specs.Columns.{columns_state}
use Rattle.cipher.specs.FirstRound.{last_column_part}
use Rattle.cipher.proofs.Words.{state-ext, turned-1, turned-2, turned_3}
use Rattle.cipher.proofs.tables.Tables.last_column_part.Goals as goal

pub returns : goal.returns
unfolding columns_state last_column_part number_word
returns c =
    let bytes = c.to_be_bytes.ensures in
    state-ext (ap number_word c.rotate_right.ensures ∙ turned_3 _ (search rules) ∙ ap rot_word (rw bytes at c.mix_entry.ensures))
    (ap number_word c.rotate_right-2.ensures ∙ turned-2 _ (search rules) ∙ ap (λ (v : Word). rot_word (rot_word v)) (rw bytes at c.mix_entry-2.ensures))
    (ap number_word c.rotate_right-3.ensures ∙ turned-1 _ (search rules)
    ∙ ap (λ (v : Word). rot_word (rot_word (rot_word v))) (rw bytes at c.mix_entry-3.ensures))
    (rw bytes at c.mix_entry-4.ensures)
