-- `store::get::held_status`: 11, 12 with replay protection and without, 14.
use mathlib.Core.Path.{refl, sym, ◌∙◌}
use mathlib.Core.Bool.{not, ◌&&◌}
use Rattle.spec.specs.Status.{refuse_if}
use Rattle.spec.specs.Record.{require_integrity, require_replay_protection, flags_of, mac_ok}
use Rattle.spec.specs.Decisions.{tag_matches}
use Rattle.store.specs.Parts.{option_of, downgrade_tests, offset_tests}
use Rattle.buffers.proofs.Split.{not_true_is}
use Rattle.store.proofs.Given.{some_option}
use Rattle.store.proofs.Tests.{went_on}
use Rattle.store.proofs.get.held_status.Goals as goal

pub returns : goal.returns
unfolding refuse_if
returns c =
    let s = c.args.stored.bytes.now in
    let wrong = require_integrity (flags_of s) && not (mac_ok c.args.keys.now.device.now.key c.args.keys.now.name.now s) in
    let stale = require_replay_protection (flags_of s) && not (tag_matches (option_of c.args.tag) s) in
    went_on (downgrade_tests c.flags.result c.is_some.result) (offset_tests c.args.offset s) refl c.in_ok-downgrade_status.ensures _ c.offset_status.ensures
    ∙ rw (
      not_true_is wrong (sym c.if-not-is_authentic.ensures),
      not_true_is stale (sym c.if-not-is_fresh.ensures),
      some_option c.args.tag,
      ← c.flags.ensures,
      ← c.is_some.ensures,
    )
