-- `store::get::is_authentic`: the CMAC is asked for where integrity is flagged.
use mathlib.Core.Path.{sym, ap, ◌∙◌}
use mathlib.Core.Bool.{not-not}
use Prim.Native.Nat.{ℕ}
use lib.Dec.{eqb}
use Rattle.spec.proofs.TagComparison.{mac_decided}
use Rattle.store.proofs.Tests.{is_true}
use Rattle.std.proofs.Common.{not}
use Rattle.store.proofs.get.is_authentic.Goals as goal

pub returns : goal.returns
returns c =
    let record-flags = c.flags in
    let require-integrity = c.require_integrity in
    let if1 = c.if-not-require_integrity in
    ap (λ (d : ℕ). eqb d 0) c.mac_difference.ensures
    ∙ mac_decided c.args.keys.now.device.now.key c.args.keys.now.name.now c.args.stored.bytes.now c.args.stored.valid
    ∙ rw (← record-flags.ensures, is_true require-integrity.ensures (ap not if1.false)) (sym (not-not _))
