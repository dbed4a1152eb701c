-- `slots::areas::Area::has_space`: the last slot is free just where one is.
use mathlib.Core.Path.{sym, ◌∙◌}
use Prim.Native.Nat.{suc, ◌-◌, ◌≤◌, ◌<◌}
use native.Mathlib.Omega.{arith}
use Rattle.buffers.proofs.Split.{split}
use Rattle.spec.specs.Area.{slot_count, slot_free}
use Rattle.spec.proofs.Area.{sized-parts}
use Rattle.slots.specs.Kind.{format_of}
use Rattle.slots.proofs.Order.{last-free, last-used}
use Rattle.slots.proofs.areas.Area.has_space.Goals as goal

pub overflow_sub-slot_count : goal.overflow_sub-slot_count
overflow_sub-slot_count c =
    let area = c.args.self.now in
    rw c.slot_count.ensures (sized-parts (format_of area.kind) area.bytes.now area.sound.0).1

pub slot-requires : goal.slot-requires
slot-requires c =
    let area = c.args.self.now in
    let some = (sized-parts (format_of area.kind) area.bytes.now area.sound.0).1 in
    rw c.slot_count.ensures (omega arith)

pub returns : goal.returns
returns c =
    let area = c.args.self.now in
    let F = format_of area.kind in
    let l = area.bytes.now in
    let x = c.slot.result.bytes.now in
    let e = c.slot.ensures.bytes in
    let i = c.slot_count.result - 1 in
    let some = (sized-parts F l area.sound.0).1 in
    let count = c.slot_count.ensures in
    let there : i < slot_count F l = rw count (omega arith) in
    let last : slot_count F l ≤ suc i = rw count (omega arith) in
    c.is_free.ensures ∙ split (slot_free x)
    (λ f. f ∙ sym (last-free F l area.sound.1 i there last x e f))
    (λ f. f ∙ sym (last-used F l area.sound.1 i there last x e f))
