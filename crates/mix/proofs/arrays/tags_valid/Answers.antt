-- `mix::arrays::tags_valid`: the iterator's test of all tags.
use mathlib.Core.Path.{◌∙◌}
use Rattle.std.proofs.Common.{rules, tests}
use Rattle.std.proofs.lemmas.Iterator.{YieldsList-from_slice}
use Rattle.std.proofs.lemmas.Iterator.Search.{all_from_yields_List}
use lib.Dec.{leb}
use Rattle.mix.proofs.Lists.{all_every}
use Rattle.mix.proofs.arrays.tags_valid.Goals as goal

pub returns : goal.returns
returns c =
    all_from_yields_List (λ t. leb t 2) _ _ _ c.all.ensures.ran (YieldsList-from_slice c.args.tags.now (cc)) (λ x b q k. search (rules, tests))
    ∙ all_every (λ t. leb t 2) c.args.tags.now
