-- `cipher::aes::Cipher::shared_round`: two keys and one round, then the last column's part.
use Rattle.std.proofs.Common.{ap, ◌∙◌, ap₂}
use Rattle.cipher.specs.Aes.{State, sub_bytes, shift_rows, mix_columns, add_round_key, after_rounds}
use Rattle.cipher.specs.Columns.{columns_state}
use Rattle.cipher.specs.FirstRound.{last_column_part, shared_round}
use Rattle.cipher.proofs.aes.Cipher.shared_round.Goals as goal

pub returns : goal.returns
unfolding columns_state shared_round after_rounds
returns c =
    let keyed = c.bitxor-s.ensures ∙ ap (λ (k : State). add_round_key k (columns_state c.args.x)) c.round_key.ensures in
    let mixed = c.mix_columns.ensures ∙ ap (λ (s : State). mix_columns (shift_rows (sub_bytes s))) keyed in
    let round = c.bitxor-after.ensures ∙ ap₂ add_round_key c.round_key-2.ensures mixed in
    c.bitxor.ensures ∙ ap₂ add_round_key (c.last_column_part.ensures ∙ ap (λ (s : State). last_column_part s.c3) keyed) round
