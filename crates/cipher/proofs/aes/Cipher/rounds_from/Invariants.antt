-- `cipher::aes::Cipher::rounds_from`. The invariant: `state` is the state after r rounds of whatever state the columns lent are after the first few.
use Rattle.std.proofs.Common.{◌≡◌}
use Rattle.cipher.specs.Aes.{State, after_rounds, kept_key}
use Rattle.cipher.specs.Columns.{columns_state}
use Rattle.cipher.proofs.aes.Cipher.rounds_from.Given as goal

abbrev pub invariant-loop-r : goal.invariant-loop-r
invariant-loop-r l =
    let keys = kept_key l.self.keys.now in
    (x : State) → columns_state l.initial.state ≡ after_rounds keys l.from x → columns_state l.state ≡ after_rounds keys l.r x
