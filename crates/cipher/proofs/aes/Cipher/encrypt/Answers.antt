-- `cipher::aes::Cipher::encrypt`: no round is done before the first key is added.
use Rattle.std.proofs.Common.{ap, ◌∙◌}
use Rattle.cipher.specs.Aes.{State, add_round_key, after_rounds}
use Rattle.cipher.specs.Columns.{columns_state}
use Rattle.cipher.proofs.aes.Cipher.encrypt.Goals as goal

pub returns : goal.returns
unfolding after_rounds columns_state
returns c =
    let lent = columns_state c.args.s in
    c.rounds_from.ensures lent (c.bitxor.ensures ∙ ap (λ (k : State). add_round_key k lent) c.round_key.ensures)
