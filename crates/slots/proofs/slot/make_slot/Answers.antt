-- `slots::slot::make_slot`: cleared, then header, name and payload.
use mathlib.Core.Path.{◌≡◌, ap, ◌∙◌}
use native.Mathlib.Omega.{arith}
use lib.ListN.{length}
use Rattle.buffers.specs.Bytes.{zeros}
use Rattle.buffers.proofs.Bytes.{length-zeros}
use Rattle.slots.specs.Kind.{format_of}
use Rattle.slots.proofs.KindLaws.{numbers, kind-laws}
use Rattle.slots.proofs.SlotBytes.{written-slot}
use Rattle.slots.proofs.slot.make_slot.Goals.{After-clear, After-put_header, After-paste}
use Rattle.slots.proofs.slot.make_slot.Goals as goal

-- the slot keeps its width: cleared, with its header, and with its name
cleared : (c : goal.After-clear) → length c.clear.new.part ≡ (format_of c.args.kind).slot_size
cleared c =
    ap length c.clear.ensures ∙ length-zeros (length c.args.slot.now) ∙ c.requires.0

headed : (c : goal.After-put_header) → length c.put_header.new.slot ≡ (format_of c.args.kind).slot_size
headed c = c.put_header.auto.slot ∙ ap length c.clear.ensures ∙ length-zeros (length c.args.slot.now) ∙ c.requires.0

named : (c : goal.After-paste) → length c.paste.new.dst ≡ (format_of c.args.kind).slot_size
named c = c.paste.auto.dst ∙ c.put_header.auto.slot ∙ ap length c.clear.ensures ∙ length-zeros (length c.args.slot.now) ∙ c.requires.0

pub put_header-requires : goal.put_header-requires
put_header-requires c =
    let k = numbers c.args.kind in
    (cleared (goal.at.put_header-requires c).After-clear, c.requires.1, omega (arith, c.requires.2))

pub paste-requires : goal.paste-requires
paste-requires c =
    let k = numbers c.args.kind in
    omega (arith, headed (goal.at.paste-requires c).After-put_header, c.name_offset.ensures, c.requires.1)

pub paste-requires-2 : goal.paste-requires-2
paste-requires-2 c =
    let k = numbers c.args.kind in
    omega (arith, named (goal.at.paste-requires-2 c).After-paste, c.payload_offset.ensures, c.requires.2)

pub returns : goal.returns
returns c =
    let args = c.args in
    let pre = c.requires in
    let clear = c.clear in
    let put-header = c.put_header in
    let name-offset = c.name_offset in
    let paste = c.paste in
    let payload-offset = c.payload_offset in
    let paste2 = c.paste-2 in
    written-slot (format_of args.kind) (kind-laws args.kind) args.name.now args.payload.now pre.1 pre.2
    clear.new.part put-header.new.slot paste.new.dst paste2.new.dst
    (clear.ensures ∙ ap zeros pre.0) put-header.ensures (rw name-offset.ensures at paste.ensures)
    (rw payload-offset.ensures at paste2.ensures)
