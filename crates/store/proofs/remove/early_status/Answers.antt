-- `store::remove::early_status`: the tests that get and the iterator begin with too.
use mathlib.Core.Path.{◌∙◌}
use Rattle.store.proofs.RemoveCall.{early_is}
use Rattle.store.proofs.remove.early_status.Goals as goal

pub returns : goal.returns
returns c =
    let args = c.args in
    c.early_status.ensures ∙ early_is args.kv.now args.rbp.now args.name.now _ c.valid_name.ensures
