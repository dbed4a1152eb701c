-- `records::flags::valid_flags`: the definition's tests, one by one.
use borrow.Author.Tests.{lt-ltb, le-ltb}
use Rattle.spec.specs.Record.{valid_flags}
use Rattle.records.proofs.flags.valid_flags.Goals as goal

pub returns-then-not-require_replay_protection : goal.returns-then-not-require_replay_protection
unfolding valid_flags
returns-then-not-require_replay_protection c =
    let require-replay-protection = c.require_replay_protection in
    let if1 = c.if-flags-lt16 in
    rw (lt-ltb _ _ if1.true, ← require-replay-protection.ensures, c.if-not-require_replay_protection.true)

pub returns-else-not-require_replay_protection : goal.returns-else-not-require_replay_protection
unfolding valid_flags
returns-else-not-require_replay_protection c =
    let if2 = c.if-not-require_replay_protection in
    let require-replay-protection = c.require_replay_protection in
    let if1 = c.if-flags-lt16 in
    rw (lt-ltb _ _ if1.true, ← require-replay-protection.ensures, if2.false) c.require_integrity.ensures

pub returns-else-flags-lt16 : goal.returns-else-flags-lt16
unfolding valid_flags
returns-else-flags-lt16 c = rw (le-ltb _ _ c.if-flags-lt16.false)
