-- `mix::send::send_valid`: the tag, then what it asks of level and pan.
use mathlib.Core.Path.{sym, ◌∙◌}
use native.Mathlib.Omega.{arith}
use Rattle.mix.proofs.Sends.{level-read, pan-read, valid-muted, valid-level, bad-level, bad-tag, valid-pan, bad-level-pan}
use Rattle.mix.proofs.send.send_valid.Goals as goal

pub returns-in-0 : goal.returns-in-0
returns-in-0 c = valid-muted c.args.b.now c.in-0.is _ c.all_zero.ensures

pub returns-then-level_bits_in_range : goal.returns-then-level_bits_in_range
returns-then-level_bits_in_range c =
    let b = c.args.b.now in
    let l = sym (level-read b _ _ c.le_at.ensures c.level_bits_in_range.ensures) ∙ c.if-level_bits_in_range.true in
    valid-level b c.in-1.is l _ c.all_zero-then-level_bits_in_range.ensures

pub returns-else-level_bits_in_range : goal.returns-else-level_bits_in_range
returns-else-level_bits_in_range c =
    let b = c.args.b.now in
    let no = c.if-level_bits_in_range.false in
    no ∙ bad-level b c.in-1.is (sym (level-read b _ _ c.le_at.ensures c.level_bits_in_range.ensures) ∙ no)

pub returns-then-level_bits_in_range-2 : goal.returns-then-level_bits_in_range-2
returns-then-level_bits_in_range-2 c =
    let b = c.args.b.now in
    let l = sym (level-read b _ _ c.le_at-in-2.ensures c.level_bits_in_range-in-2.ensures) ∙ c.if-level_bits_in_range-2.true in
    valid-pan b c.in-2.is l _ (pan-read b _ _ c.le_at-then-level_bits_in_range-2.ensures c.pan_bits_in_range.ensures)

pub returns-else-level_bits_in_range-2 : goal.returns-else-level_bits_in_range-2
returns-else-level_bits_in_range-2 c =
    let b = c.args.b.now in
    let no = c.if-level_bits_in_range-2.false in
    no ∙ bad-level-pan b c.in-2.is (sym (level-read b _ _ c.le_at-in-2.ensures c.level_bits_in_range-in-2.ensures) ∙ no)

pub returns-in_default : goal.returns-in_default
returns-in_default c = bad-tag c.args.b.now (λ z. omega (arith, z)) (λ z. omega (arith, z)) (λ z. omega (arith, z))
