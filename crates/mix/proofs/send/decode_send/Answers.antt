-- `mix::send::decode_send`: level and pan are no NaN's bits.
use mathlib.Core.Path.{ap, ◌∙◌}
use Prim.Native.Nat.{ℕ}
use lib.Ieee.{binary32, of_bits}
use Rattle.mix.specs.Arrays.{send_from}
use Rattle.mix.specs.Range.{level_in_range, pan_in_range}
use Rattle.mix.specs.Send.{tag_at, send_of}
use Rattle.mix.proofs.Sends.{level-of, pan-of, level_bits, pan_bits}
use Rattle.mix.proofs.send.decode_send.Goals as goal

pub float_from_bits-level : goal.float_from_bits-level
float_from_bits-level c =
    level_bits _ (ap (λ (n : ℕ). level_in_range (of_bits binary32 n)) c.le_at-level.ensures ∙ level-of c.args.b.now c.requires.1)

pub float_from_bits-pan : goal.float_from_bits-pan
float_from_bits-pan c =
    pan_bits _ (ap (λ (n : ℕ). pan_in_range (of_bits binary32 n)) c.le_at-pan.ensures ∙ pan-of c.args.b.now c.requires.1)

pub returns : goal.returns
unfolding send_of send_from
returns c =
    c.send_from.ensures
    ∙ (λ i. send_from (tag_at c.args.b.now) (of_bits binary32 (c.le_at-level.ensures i)) (of_bits binary32 (c.le_at-pan.ensures i)))
