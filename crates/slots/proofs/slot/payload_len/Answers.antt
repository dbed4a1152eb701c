-- `slots::slot::payload_len`: two bytes, lowest first, on the card; 16 in the chip.
use mathlib.Core.Path.{◌≡◌}
use native.Mathlib.Omega.{arith}
use Rattle.slots.specs.declared.AreaKind.TheVariants.{Kv}
use Rattle.slots.proofs.KindLaws.{numbers}
use Rattle.slots.proofs.slot.payload_len.Goals as goal

pub le_at-requires : goal.le_at-requires
le_at-requires c =
    let k = numbers c.args.kind in
    (omega (arith, k, c.requires), omega arith)

pub returns-in-Kv : goal.returns-in-Kv
returns-in-Kv c =
    let args = c.args in
    let e : args.kind ≡ Kv = c.in-Kv.is in
    rw e c.le_at.ensures
