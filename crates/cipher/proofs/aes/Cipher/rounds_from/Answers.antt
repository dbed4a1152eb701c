-- `cipher::aes::Cipher::rounds_from`. The invariant: `state` is the state after r rounds of whatever state the columns lent are after the first few.
use Rattle.std.proofs.Common.{◌≡◌, ap, ◌∙◌, ap₂, add-one, arith}
use Rattle.cipher.specs.Aes.{State, after_rounds, mix_columns, shift_rows, sub_bytes, add_round_key, cipher}
use Rattle.cipher.specs.Columns.{columns_state}
use Rattle.cipher.proofs.aes.Cipher.rounds_from.Goals as goal

pub loop-r-init : goal.loop-r-init
unfolding columns_state
loop-r-init c = λ x e. e

pub loop-r-preserved : goal.loop-r-preserved
unfolding after_rounds
loop-r-preserved c = λ x e.
    let mixed = c.mix_columns.ensures ∙ ap (λ (t : State). mix_columns (shift_rows (sub_bytes t))) (c.loop-r.invariant x e) in
    rw add-one (c.bitxor-state.ensures ∙ ap₂ add_round_key (rw add-one at c.round_key.ensures) mixed)

pub returns : goal.returns
unfolding cipher
returns c = λ x e.
    let l = c.loop-r in
    let nine : l.r ≡ 9 = omega arith in
    let shifted = c.shift_rows.ensures ∙ ap (λ (t : State). shift_rows (sub_bytes t)) (rw nine at (l.invariant x e)) in
    c.bitxor.ensures ∙ ap₂ add_round_key c.round_key-2.ensures shifted
