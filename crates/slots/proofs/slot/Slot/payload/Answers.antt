-- `slots::slot::Slot::payload`: a used slot's payload is within it.
use mathlib.Core.Path.{◌∙◌}
use Prim.Native.Nat.{◌+◌, ◌≤◌}
use native.Mathlib.Omega.{arith}
use lib.ListN.{length}
use Rattle.spec.proofs.Slot.{used-slot}
use Rattle.slots.specs.Kind.{format_of}
use Rattle.slots.proofs.KindLaws.{numbers}
use Rattle.buffers.proofs.Lists.{part}
use Rattle.slots.proofs.slot.Slot.payload.Goals.{After-payload_offset-at}
use Rattle.slots.proofs.slot.Slot.payload.Goals as goal

-- the payload ends within the slot
within : (c : goal.After-payload_offset-at)
    → c.payload_offset-at.result + c.payload_len-m.result ≤ length c.args.self.now.bytes.now
within c =
    let k = numbers c.args.self.now.kind in
    let short = (used-slot (format_of c.args.self.now.kind) c.args.self.now.bytes.now c.requires).payload_is_short in
    omega (arith, c.payload_offset-at.ensures, c.payload_len-m.ensures, c.args.self.now.shaped.0)

pub overflow_add-end : goal.overflow_add-end
overflow_add-end c = omega (arith, within (goal.at.overflow_add-end c).After-payload_offset-at)

pub slice_bounds-result-end : goal.slice_bounds-result-end
slice_bounds-result-end c = within (goal.at.slice_bounds-result-end c).After-payload_offset-at

pub returns : goal.returns
returns c =
    let args = c.args in
    let payload-len = c.payload_len-m in
    let payload-offset = c.payload_offset-at in
    part payload-offset.result payload-len.result args.self.now.bytes.now ∙ rw (payload-offset.ensures, payload-len.ensures)
