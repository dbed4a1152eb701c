-- `mix::codec::sends_in_range`: the iterator's test of all sends.
use mathlib.Core.Path.{◌∙◌}
use Rattle.std.proofs.Common.{rules, tests}
use Rattle.std.proofs.lemmas.Iterator.{YieldsList-from_slice}
use Rattle.std.proofs.lemmas.Iterator.Search.{all_from_yields_List}
use Rattle.mix.specs.Send.{send_in_range}
use Rattle.mix.proofs.Lists.{all_every}
use Rattle.mix.proofs.codec.sends_in_range.Goals as goal

pub returns : goal.returns
returns c =
    all_from_yields_List send_in_range _ _ _ c.all.ensures.ran (YieldsList-from_slice c.args.sends.now (cc)) (λ x b q k. search (rules, tests))
    ∙ all_every send_in_range c.args.sends.now
