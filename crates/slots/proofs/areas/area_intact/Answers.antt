-- `slots::areas::area_intact`. The invariant: the slot before i is well shaped, and from there on the area is in order just where it is intact.
use mathlib.Core.Path.{◌≡◌, sym, ap, ◌∙◌}
use mathlib.Core.Bool.{true, false}
use Prim.Native.Nat.{◌+◌, ◌-◌, ◌<◌}
use native.Mathlib.Omega.{arith}
use Rattle.spec.specs.Slots.{in_order}
use Rattle.spec.specs.Area.{slot_count, slot_holder, slot_valid}
use Rattle.spec.proofs.Area.{sized-parts}
use Rattle.slots.specs.Kind.{format_of}
use Rattle.slots.specs.Found.{slot_at}
use Rattle.slots.proofs.AreaLaws.{slot-sized}
use Rattle.slots.proofs.KindLaws.{numbers}
use Rattle.slots.proofs.Order.{intact-chain, chain-turn, chain-blank, chain-end}
use Rattle.slots.proofs.areas.area_intact.Goals.{In-loop-i}
use Rattle.slots.proofs.areas.area_intact.Goals as goal

there : (c : goal.In-loop-i) → c.loop-i.i < slot_count (format_of c.args.kind) c.args.area.now
there c = rw c.slot_count-i-end.ensures at c.loop-i-test.true

pub slot_at-requires : goal.slot_at-requires
slot_at-requires c = (c.requires, (sized-parts (format_of c.args.kind) c.args.area.now c.requires).1)

pub slot_valid-requires : goal.slot_valid-requires
slot_valid-requires c =
    let F = format_of c.args.kind in
    let l = c.args.area.now in
    slot-sized F l c.requires 0 (sized-parts F l c.requires).1 c.slot_at.result.now c.slot_at.ensures

pub returns-then-not-slot_valid : goal.returns-then-not-slot_valid
returns-then-not-slot_valid c =
    let F = format_of c.args.kind in
    let l = c.args.area.now in
    let not-well : slot_valid F (slot_at F l 0) ≡ false = rw c.slot_at.ensures at (sym c.slot_valid.ensures ∙ c.if-not-slot_valid.true) in
    sym (intact-chain F l c.requires ∙ rw not-well)

pub loop-i-init : goal.loop-i-init
loop-i-init c =
    let F = format_of c.args.kind in
    let l = c.args.area.now in
    let well : slot_valid F (slot_at F l 0) ≡ true = rw c.slot_at.ensures at (sym c.slot_valid.ensures ∙ c.if-not-slot_valid.false) in
    (well, sym (intact-chain F l c.requires ∙ rw well))

pub returns-then-area-at-eq0 : goal.returns-then-area-at-eq0
returns-then-area-at-eq0 c =
    let k = numbers c.args.kind in
    let size = c.slot_size-w in
    let some = size.ensures in
    c.all_zero.ensures
    ∙ sym (chain-blank (format_of c.args.kind) c.args.area.now c.requires c.loop-i.i (omega arith) (there (goal.at.returns-then-area-at-eq0 c).In-loop-i)
    size.result size.ensures (omega arith) c.if-area-at-eq0.true)
    ∙ c.loop-i.invariant.1

pub checked-requires : goal.checked-requires
checked-requires c =
    let x = c.slot_at-in-loop-i in
    slot-sized (format_of c.args.kind) c.args.area.now c.requires c.loop-i.i (there (goal.at.checked-requires c).In-loop-i) x.result.now x.ensures

pub returns-in_default : goal.returns-in_default
returns-in_default c =
    let F = format_of c.args.kind in
    let l = c.args.area.now in
    let i = c.loop-i.i in
    let not-well : slot_valid F (slot_at F l i) ≡ false = rw c.slot_at-in-loop-i.ensures at (sym c.in_default.ensures.some) in
    sym (sym c.loop-i.invariant.1 ∙ chain-turn F l i (omega arith) (there (goal.at.returns-in_default c).In-loop-i) false (rw not-well))

pub invariant_of-before : goal.invariant_of-before
invariant_of-before c =
    let F = format_of c.args.kind in
    let l = c.args.area.now in
    let x = c.slot_at-in-loop-i-2 in
    let here = there (goal.at.invariant_of-before c).In-loop-i in
    record { shaped = (slot-sized F l c.requires (c.loop-i.i - 1) (omega arith) x.result.now x.ensures, ap (slot_valid F) x.ensures ∙ c.loop-i.invariant.0) }

pub loop-i-preserved : goal.loop-i-preserved
loop-i-preserved c =
    let F = format_of c.args.kind in
    let l = c.args.area.now in
    let i = c.loop-i.i in
    let inv = c.loop-i.invariant in
    let slot = c.in-Some.ensures in
    let at = slot.parts.1 ∙ c.slot_at-in-loop-i.ensures in
    let well : slot_valid F (slot_at F l i) ≡ true = rw c.slot_at-in-loop-i.ensures at (sym slot.some) in
    let follows : in_order (slot_holder F (slot_at F l (i - 1))) (slot_holder F (slot_at F l i)) ≡ true =
    rw (c.slot_at-in-loop-i-2.ensures, slot.parts.0, at) at (sym c.may_precede.ensures ∙ c.if-not-may_precede.false) in
    let e : i + 1 - 1 ≡ i = omega arith in
    let turn = chain-turn F l i (omega arith) (there (goal.at.loop-i-preserved c).In-loop-i) true (rw (well, follows)) in
    (rw e well, rw e (sym turn ∙ inv.1))

pub returns : goal.returns
returns c =
    let past = rw c.slot_count-i-end.ensures at c.loop-i-test.false in
    sym (chain-end (format_of c.args.kind) c.args.area.now (c.loop-i.i - 1) (omega arith)) ∙ c.loop-i.invariant.1
