-- `mix::persist::store_valid`: 3, then as set.
use Rattle.spec.specs.Status.{refuse_if, on_ok}
use Rattle.store.proofs.Tests.{is_false, is_true}
use Rattle.mix.specs.Calls.{store_if_valid}
use Rattle.std.proofs.Common.{ap, not}
use Rattle.mix.proofs.persist.store_valid.Goals as goal

pub returns-then-not-mix_named : goal.returns-then-not-mix_named
unfolding store_if_valid refuse_if on_ok
returns-then-not-mix_named c = rw (is_false c.mix_named.ensures (ap not c.if-not-mix_named.true))

pub returns : goal.returns
unfolding store_if_valid refuse_if on_ok
returns c = rw (is_true c.mix_named.ensures (ap not c.if-not-mix_named.false)) c.set.ensures
