-- `mix::persist::store_encoded_mix`: 20, then as a mix's bytes.
use Rattle.spec.specs.Status.{refuse_if, on_ok}
use Rattle.store.proofs.Tests.{is_false, is_true}
use Rattle.mix.specs.Calls.{store_if_valid, store_encoded_mix}
use Rattle.std.proofs.Common.{ap, not}
use Rattle.mix.proofs.persist.store_encoded_mix.Goals as goal

pub returns-then-not-mix_valid : goal.returns-then-not-mix_valid
unfolding store_encoded_mix store_if_valid refuse_if on_ok
returns-then-not-mix_valid c = rw (is_false c.mix_valid.ensures (ap not c.if-not-mix_valid.true))

pub returns : goal.returns
unfolding store_encoded_mix
returns c = rw (is_true c.mix_valid.ensures (ap not c.if-not-mix_valid.false)) c.store_valid.ensures
