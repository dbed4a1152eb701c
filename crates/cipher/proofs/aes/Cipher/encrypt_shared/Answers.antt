-- `cipher::aes::Cipher::encrypt_shared`: with its last column's part the state is whole again, after one round.
use Rattle.std.proofs.Common.{sym, ap, ◌∙◌, ap₂}
use Rattle.cipher.specs.Aes.{Word, xor_word, kept_key, add_round_key}
use Rattle.cipher.specs.Columns.{columns_state}
use Rattle.cipher.specs.FirstRound.{last_column_part}
use Rattle.cipher.proofs.Words.{number-xor}
use Rattle.cipher.proofs.SharedRound.{shared-whole}
use Rattle.cipher.proofs.aes.Cipher.encrypt_shared.Goals as goal

pub returns : goal.returns
unfolding columns_state add_round_key kept_key
returns c = λ s low shared.
    let ks = c.args.self.keys.now in
    let last = c.last_column_part.ensures ∙ ap last_column_part (number-xor _ _ ∙ ap (λ (v : Word). xor_word v (kept_key ks 0).c3) (sym low)) in
    c.rounds_from.ensures s (c.bitxor-x.ensures ∙ ap₂ add_round_key last shared ∙ shared-whole (kept_key ks) s)
