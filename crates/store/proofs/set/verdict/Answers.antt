-- `store::set::verdict`: what the name has, then room.
use mathlib.Core.Path.{refl, ◌∙◌}
use Rattle.spec.specs.Record.{require_replay_protection}
use Rattle.spec.specs.Status.{first_of}
use Rattle.spec.specs.Decisions.{set_held, space_tests}
use Rattle.spec.specs.Calls.{room_of}
use Rattle.store.specs.Parts.{binding}
use Rattle.store.proofs.Given.{set_given, space_given}
use Rattle.store.proofs.Tests.{stopped, went_on}
use Rattle.store.proofs.set.verdict.Goals as goal

pub returns-in_err-held_status : goal.returns-in_err-held_status
returns-in_err-held_status c =
    let flags = c.args.flags in
    let b = binding c.args.held in
    stopped (set_held require_replay_protection flags b) (space_tests require_replay_protection flags b (room_of c.args.kv.now c.args.rbp.now))
    _ _ c.from_residual.ensures (c.in_err-held_status.ensures ∙ set_given c.args.held _ c.is_some-tag_held.ensures flags)

pub returns : goal.returns
unfolding set_held
returns c =
    let flags = c.args.flags in
    let b = binding c.args.held in
    let card = c.has_space.ensures in
    let chip = c.has_space-2.ensures in
    let room = c.space_status.ensures ∙ space_given c.args.held _ c.is_some-tag_held.ensures flags _ _ c.is_some.ensures ∙ (λ i. first_of (space_tests require_replay_protection flags b (record { kv = card i; rbp = chip i }))) in
    went_on (set_held require_replay_protection flags b) (space_tests require_replay_protection flags b (room_of c.args.kv.now c.args.rbp.now))
    refl (c.in_ok-held_status.ensures ∙ set_given c.args.held _ c.is_some-tag_held.ensures flags) _ room
