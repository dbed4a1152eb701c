-- `mix::send::encode_send`: by the case. A number in range is no NaN.
use mathlib.Core.Path.{sym, ap, ◌∙◌}
use Rattle.buffers.proofs.Split.{both}
use Rattle.mix.specs.Range.{level_in_range}
use Rattle.mix.specs.Send.{send_in_range}
use Rattle.mix.proofs.Bits.{level-not-nan, pan-not-nan}
use Rattle.mix.proofs.send.encode_send.Goals as goal

pub float_to_bits-level : goal.float_to_bits-level
float_to_bits-level c = level-not-nan _ (sym (ap send_in_range c.in-Level.is) ∙ c.requires)

pub float_to_bits-level-in-LevelPan : goal.float_to_bits-level-in-LevelPan
float_to_bits-level-in-LevelPan c = level-not-nan _ (both _ _ (sym (ap send_in_range c.in-LevelPan.is) ∙ c.requires)).0

pub float_to_bits-pan : goal.float_to_bits-pan
float_to_bits-pan c =
    pan-not-nan _ (both (level_in_range c.in-LevelPan.level) _ (sym (ap send_in_range c.in-LevelPan.is) ∙ c.requires)).1
