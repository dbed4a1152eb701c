-- `slots::slot::Slot::name`: a used slot's name is within it.
use mathlib.Core.Path.{◌∙◌}
use Prim.Native.Nat.{◌+◌, ◌≤◌}
use native.Mathlib.Omega.{arith}
use lib.ListN.{length, get_or}
use Rattle.spec.proofs.Slot.{used-slot}
use Rattle.slots.specs.Kind.{format_of}
use Rattle.slots.proofs.KindLaws.{numbers}
use Rattle.buffers.proofs.Lists.{part}
use Rattle.slots.proofs.slot.Slot.name.Goals.{After-name_offset-at}
use Rattle.slots.proofs.slot.Slot.name.Goals as goal

-- the name ends within the slot
within : (c : goal.After-name_offset-at) → let s = c.args.self.now.bytes.now in c.name_offset-at.result + get_or s 1 0 ≤ length s
within c =
    let k = numbers c.args.self.now.kind in
    let short = (used-slot (format_of c.args.self.now.kind) c.args.self.now.bytes.now c.requires).name_is_short in
    omega (arith, c.name_offset-at.ensures, c.args.self.now.shaped.0)

pub bounds-self-1 : goal.bounds-self-1
bounds-self-1 c =
    let args = c.args in
    let k = numbers args.self.now.kind in omega arith

pub overflow_add-end : goal.overflow_add-end
overflow_add-end c = omega (arith, within (goal.at.overflow_add-end c).After-name_offset-at)

pub slice_bounds-result-end : goal.slice_bounds-result-end
slice_bounds-result-end c = within (goal.at.slice_bounds-result-end c).After-name_offset-at

pub returns : goal.returns
returns c =
    let args = c.args in
    let name-offset = c.name_offset-at in
    let s = args.self.now.bytes.now in
    part name-offset.result (get_or s 1 0) s ∙ rw name-offset.ensures
