-- `slots::areas::Area::first_where`. The invariant: the slot is between the two bounds.
use mathlib.Core.Path.{◌≡◌, sym, ap, ◌∙◌}
use mathlib.Core.Bool.{true, false}
use Prim.Native.Nat.{◌+◌, ◌/◌, ◌<◌}
use native.Mathlib.Omega.{arith}
use lib.ListN.{length}
use Rattle.spec.specs.Area.{slots}
use Rattle.spec.proofs.Area.{sized-parts}
use Rattle.spec.proofs.Chunks.{slots_length}
use Rattle.slots.specs.Kind.{format_of}
use Rattle.slots.specs.Found.{slot_at}
use Rattle.slots.proofs.Order.{first-at-most, upper-half}
use Rattle.slots.proofs.areas.Area.first_where.Goals as goal

pub loop-low-init : goal.loop-low-init
loop-low-init g c =
    let area = c.args.self.now in
    let F = format_of area.kind in
    let l = area.bytes.now in
    rw c.slot_count-high.ensures (omega arith, (sized-parts F l area.sound.0).2, λ t p f. (omega arith, first-at-most F l t))

pub overflow_add-mid : goal.overflow_add-mid
overflow_add-mid g c = let inv = c.loop-low.invariant in let high = inv.0 in let most = inv.1 in omega arith

pub slot-requires : goal.slot-requires
slot-requires g c = let high = c.loop-low.invariant.0 in omega arith

pub loop-low-preserved-then-test : goal.loop-low-preserved-then-test
loop-low-preserved-then-test g c =
    let area = c.args.self.now in
    let loop = c.loop-low in
    let mid = (loop.low + loop.high) / 2 in
    let x = c.slot.result.bytes.now in
    let high = loop.invariant.0 in (
      omega arith,
      loop.invariant.1,
      λ t p f.
          let told : c.test.result ≡ t x = p _ _ c.slot.ensures.kind c.test.ensures in
          let passed : t x ≡ true = sym told ∙ c.if-test.true in
          ((loop.invariant.2 t p f).0, upper-half (format_of area.kind) area.bytes.now t mid x c.slot.ensures.bytes passed),
    )

pub loop-low-preserved : goal.loop-low-preserved
loop-low-preserved g c =
    let area = c.args.self.now in
    let F = format_of area.kind in
    let l = area.bytes.now in
    let loop = c.loop-low in
    let mid = (loop.low + loop.high) / 2 in
    let x = c.slot.result.bytes.now in
    let high = loop.invariant.0 in (
      high,
      loop.invariant.1,
      λ t p f.
          let told : c.test.result ≡ t x = p _ _ c.slot.ensures.kind c.test.ensures in
          let failed : t x ≡ false = sym told ∙ c.if-test.false in
          let there : mid < length (slots F l) = rw (slots_length F l) (omega arith) in
          let below = f mid there (ap t (sym {b = slot_at F l mid} c.slot.ensures.bytes) ∙ failed) in
          (omega arith, (loop.invariant.2 t p f).1),
    )

pub returns : goal.returns
returns g c t p f = let b = c.loop-low.invariant.2 t p f in omega arith
