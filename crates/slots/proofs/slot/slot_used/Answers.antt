-- `slots::slot::slot_used`: the tests of a used slot, in the order of the definition.
use mathlib.Core.Path.{◌≡◌, refl, sym, ◌∙◌}
use mathlib.Core.Bool.{◌&&◌}
use Prim.Native.Nat.{◌+◌, ◌-◌, ◌≤◌}
use native.Mathlib.Omega.{arith}
use borrow.Author.Tests.{eq-eqb, ne_eqb, le-leb, lt-leb}
use lib.ListN.{length, take, drop}
use Rattle.buffers.specs.Bytes.{all_zero}
use Rattle.spec.specs.Area.{state_byte, name_length, slot_used}
use Rattle.slots.specs.Kind.{format_of}
use Rattle.slots.proofs.KindLaws.{numbers}
use Rattle.slots.proofs.SlotLaws.{used-tests}
use Rattle.slots.proofs.slot.slot_used.Goals.{Else-slot-payload}
use Rattle.slots.proofs.slot.slot_used.Goals as goal

-- the name ends before the payload, and the payload within the slot
in_order_lem : (c : goal.Else-slot-payload) → let payload-offset = c.payload_offset-payload.result in
    let s = c.args.slot.now in
    (c.name_offset-at.result + name_length s ≤ payload-offset)
    × (payload-offset + c.payload_len-m.result ≤ length s)
in_order_lem c =
    let if2 = c.if-n-gt64 in
    let name-offset = c.name_offset-at in
    let payload-offset = c.payload_offset-payload in
    let k = numbers c.args.kind in
    (omega (arith, payload-offset.ensures, name-offset.ensures, if2.false), omega (arith, payload-offset.ensures, c.if-slot-payload.false, c.requires))

-- what is left to test, where the payload fits
left-to-test : (c : goal.Else-slot-payload) → let args = c.args in
    let s = args.slot.now in
    let name-end = c.name_offset-at.result + name_length s in
    let payload = c.payload_offset-payload.result in
    let payload-end = payload + c.payload_len-m.result in
    slot_used (format_of args.kind) s
    ≡ (all_zero (take (payload - name-end) (drop name-end s)) && all_zero (take (length s - payload-end) (drop payload-end s)))
left-to-test c =
    let if1 = c.if-slot-ne1 in
    let if2 = c.if-n-gt64 in
    let name-offset = c.name_offset-at in
    let valid-name = c.valid_name in
    let if3 = c.if-not-valid_name in
    let payload-offset = c.payload_offset-payload in
    let payload-len = c.payload_len-m in
    let s = c.args.slot.now in
    used-tests (format_of c.args.kind) s name-offset.result payload-offset.result payload-len.result name-offset.ensures
    payload-offset.ensures payload-len.ensures c.requires
    ∙ rw (
      eq-eqb (state_byte s) 1 if1.false,
      le-leb (name_length s) 64 if2.false,
      sym valid-name.ensures ∙ if3.false,
      le-leb payload-len.result (length s - payload-offset.result) c.if-slot-payload.false,
    )

pub bounds-slot-0 : goal.bounds-slot-0
bounds-slot-0 c =
    let args = c.args in
    let pre = c.requires in
    let k = numbers args.kind in omega (arith, pre)

pub returns-then-slot-ne1 : goal.returns-then-slot-ne1
returns-then-slot-ne1 c =
    let args = c.args in
    let pre = c.requires in
    let F = format_of args.kind in
    let s = args.slot.now in
    sym (used-tests F s F.name_offset F.payload_offset (F.payload_length s) refl refl refl pre ∙ rw (ne_eqb (state_byte s) 1 c.if-slot-ne1.true))

pub bounds-slot-1 : goal.bounds-slot-1
bounds-slot-1 c =
    let args = c.args in
    let pre = c.requires in
    let k = numbers args.kind in omega (arith, pre)

pub overflow_cast-n : goal.overflow_cast-n
overflow_cast-n c = omega (arith, c.type_inv.slot 1)

pub returns-then-n-gt64 : goal.returns-then-n-gt64
returns-then-n-gt64 c =
    let args = c.args in
    let pre = c.requires in
    let if1 = c.if-slot-ne1 in
    let F = format_of args.kind in
    let s = args.slot.now in
    sym (used-tests F s F.name_offset F.payload_offset (F.payload_length s) refl refl refl pre
    ∙ rw (eq-eqb (state_byte s) 1 if1.false, lt-leb (name_length s) 64 c.if-n-gt64.true))

pub overflow_add-after : goal.overflow_add-after
overflow_add-after c =
    let args = c.args in
    let k = numbers args.kind in omega (arith, c.name_offset-at.ensures)

pub slice_bounds-valid_name-end : goal.slice_bounds-valid_name-end
slice_bounds-valid_name-end c =
    let args = c.args in
    let pre = c.requires in
    let k = numbers args.kind in omega (arith, c.name_offset-at.ensures, pre)

pub returns-then-not-valid_name : goal.returns-then-not-valid_name
returns-then-not-valid_name c =
    let args = c.args in
    let pre = c.requires in
    let if1 = c.if-slot-ne1 in
    let if2 = c.if-n-gt64 in
    let name-offset = c.name_offset-at in
    let valid-name = c.valid_name in
    let F = format_of args.kind in
    let s = args.slot.now in
    sym (used-tests F s name-offset.result F.payload_offset (F.payload_length s) name-offset.ensures refl refl pre
    ∙ rw (
      eq-eqb (state_byte s) 1 if1.false,
      le-leb (name_length s) 64 if2.false,
      sym valid-name.ensures ∙ c.if-not-valid_name.true,
    ))

pub overflow_sub-slot : goal.overflow_sub-slot
overflow_sub-slot c =
    let args = c.args in
    let pre = c.requires in
    let k = numbers args.kind in omega (arith, c.payload_offset-payload.ensures, pre)

pub returns-then-slot-payload : goal.returns-then-slot-payload
returns-then-slot-payload c =
    let args = c.args in
    let pre = c.requires in
    let if1 = c.if-slot-ne1 in
    let if2 = c.if-n-gt64 in
    let name-offset = c.name_offset-at in
    let valid-name = c.valid_name in
    let if3 = c.if-not-valid_name in
    let payload-offset = c.payload_offset-payload in
    let payload-len = c.payload_len-m in
    let s = args.slot.now in
    sym (used-tests (format_of args.kind) s name-offset.result payload-offset.result payload-len.result name-offset.ensures
    payload-offset.ensures payload-len.ensures pre
    ∙ rw (
      eq-eqb (state_byte s) 1 if1.false,
      le-leb (name_length s) 64 if2.false,
      sym valid-name.ensures ∙ if3.false,
      lt-leb payload-len.result (length s - payload-offset.result) c.if-slot-payload.true,
    ))

pub slice_bounds-all_zero-count : goal.slice_bounds-all_zero-count
slice_bounds-all_zero-count c = (in_order_lem (goal.at.slice_bounds-all_zero-count c).Else-slot-payload).0

pub slice_bounds-all_zero-start : goal.slice_bounds-all_zero-start
slice_bounds-all_zero-start c = (in_order_lem (goal.at.slice_bounds-all_zero-start c).Else-slot-payload).0

pub slice_bounds-all_zero-end : goal.slice_bounds-all_zero-end
slice_bounds-all_zero-end c = omega (arith, (in_order_lem (goal.at.slice_bounds-all_zero-end c).Else-slot-payload).1)

pub returns-then-not-all_zero : goal.returns-then-not-all_zero
returns-then-not-all_zero c =
    let is_all_zero = c.all_zero in
    sym (left-to-test (goal.at.returns-then-not-all_zero c).Else-slot-payload ∙ rw (sym is_all_zero.ensures ∙ c.if-not-all_zero.true))

pub overflow_add-end : goal.overflow_add-end
overflow_add-end c = omega (arith, (in_order_lem (goal.at.overflow_add-end c).Else-slot-payload).1)

pub slice_bounds-all_zero-count-2 : goal.slice_bounds-all_zero-count-2
slice_bounds-all_zero-count-2 c = (in_order_lem (goal.at.slice_bounds-all_zero-count-2 c).Else-slot-payload).1

pub slice_bounds-all_zero-start-2 : goal.slice_bounds-all_zero-start-2
slice_bounds-all_zero-start-2 c = (in_order_lem (goal.at.slice_bounds-all_zero-start-2 c).Else-slot-payload).1

pub returns : goal.returns
returns c =
    let is_all_zero = c.all_zero in
    let if5 = c.if-not-all_zero in
    c.all_zero-2.ensures
    ∙ sym (left-to-test (goal.at.returns c).Else-slot-payload ∙ rw (sym is_all_zero.ensures ∙ if5.false))
