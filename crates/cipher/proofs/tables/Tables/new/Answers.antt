-- `cipher::tables::Tables::new`: the S-box is figure 7, and each of the other's entries is MixColumns of the S-box's entry.
use Rattle.std.proofs.Common.{map, ap}
use Rattle.cipher.specs.Field.{xtime}
use Rattle.cipher.specs.Aes.{word_number}
use Rattle.cipher.specs.Tables.{mix_table, mix_entry, mix_word}
use Rattle.cipher.proofs.Figure.{by-rule}
use Rattle.cipher.proofs.tables.Tables.new.Goals as goal

pub invariant_of-result : goal.invariant_of-result
unfolding mix_table mix_entry mix_word word_number xtime
invariant_of-result c = record { right = (ap (map mix_entry) by-rule, by-rule) }
