-- `cipher::ctr::counter_columns`: the words of the IV, then those of the count.
use Rattle.std.proofs.Common.{sym, refl, ◌∙◌, w8}
use borrow.Kind.Array.{e_int, good_length}
use Rattle.cipher.specs.Columns.{columns_state}
use Rattle.cipher.proofs.Words.{state-ext}
use Rattle.cipher.proofs.Stream.{counter_words}
use Rattle.cipher.proofs.ctr.counter_columns.Goals as goal

pub returns : goal.returns
unfolding columns_state
returns c =
    let sized = good_length (e_int w8) 8 c.args.iv _ c.well_formed.0 in
    state-ext c.word_at.ensures c.word_at-2.ensures refl refl ∙ sym (counter_words c.args.iv c.args.count sized)
