-- `store::get::is_fresh`: the chip is asked only where the flags do.
use mathlib.Core.Path.{◌≡◌, sym, ap, ◌∙◌}
use mathlib.Core.Bool.{not-not}
use Prim.Native.Nat.{ℕ}
use lib.Dec.{eqb}
use lib.ListN.{length}
use Rattle.spec.proofs.TagComparison.{copy-decided}
use Rattle.store.proofs.Tests.{is_true}
use Rattle.std.proofs.Common.{not, rules}
use Rattle.store.proofs.get.is_fresh.Goals as goal

pub returns-in-Some : goal.returns-in-Some
returns-in-Some c =
    let record-flags = c.flags in
    let flagged = is_true c.require_replay_protection.ensures (ap not c.if-not-require_replay_protection.false) in
    let tag = c.in-Some.tag in
    let sized : length tag ≡ 16 = search rules in
    ap (λ (d : ℕ). eqb d 0) c.copy_difference.ensures
    ∙ copy-decided tag c.args.stored.bytes.now sized c.args.stored.valid
    ∙ rw (← record-flags.ensures, flagged, c.in-Some.is) (sym (not-not _))
