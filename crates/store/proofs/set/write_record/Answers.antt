-- `store::set::write_record`: the record's slot, and with replay protection that of its CMAC.
use mathlib.Core.Path.{◌≡◌, sym, ap, ◌∙◌}
use Prim.Native.Nat.{◌-◌, ◌+◌}
use native.Mathlib.Omega.{arith}
use lib.ListN.{length, take, drop, length-drop}
use Rattle.buffers.specs.Bytes.{zeros}
use Rattle.spec.specs.Record.{seal_record, tag_of}
use Rattle.spec.specs.Area.{kv_format, rbp_format}
use Rattle.spec.specs.Calls.{areas}
use Rattle.spec.proofs.Name.{valid-length}
use Rattle.spec.proofs.Record.{sealed-length}
use Rattle.slots.specs.Found.{insert_at}
use Rattle.store.proofs.Slices.{front-part, tail-part}
use Rattle.store.proofs.set.write_record.Goals as goal

pub insert_at-requires : goal.insert_at-requires
insert_at-requires c =
    let pre = c.requires in
    let args = c.args in
    let make-record = c.make_record-record_buf in
    let ready = pre.name_value.1 in
    let small = ready.value_sized in
    let r = seal_record args.device_key args.name.now args.flags args.iv args.«data».now in
    let e = sealed-length args.device_key args.name.now args.flags args.iv args.«data».now ready in
    let part = front-part r (zeros (516 - length r)) _ e in
    record { area_value = (pre.undamaged.kv_sized, pre.undamaged.kv_intact, pre.can_insert.0); name_len_bound = (valid-length args.name.now pre.name_value.0, rw (make-record.ensures, part) (omega arith)) }

pub insert_at-requires-then-require_replay_protection : goal.insert_at-requires-then-require_replay_protection
insert_at-requires-then-require_replay_protection c =
    let pre = c.requires in
    let args = c.args in
    let make-record = c.make_record-record_buf in
    let require-replay-protection = c.require_replay_protection in
    let if1 = c.if-require_replay_protection in
    let r = seal_record args.device_key args.name.now args.flags args.iv args.«data».now in
    let e = sealed-length args.device_key args.name.now args.flags args.iv args.«data».now pre.name_value.1 in
    let part = tail-part r (zeros (516 - length r)) _ e (omega arith) in record { area_value = (pre.undamaged.rbp_sized, pre.undamaged.rbp_intact, pre.can_insert.1 (sym require-replay-protection.ensures ∙ if1.true)); name_len_bound = (valid-length args.name.now pre.name_value.0, rw (make-record.ensures, part) (simp length-drop (omega arith))) }

pub returns-then-require_replay_protection : goal.returns-then-require_replay_protection
returns-then-require_replay_protection c =
    let pre = c.requires in
    let args = c.args in
    let make-record = c.make_record-record_buf in
    let insert-at = c.insert_at in
    let require-replay-protection = c.require_replay_protection in
    let if1 = c.if-require_replay_protection in
    let insert-at2 = c.insert_at-then-require_replay_protection in
    let n = args.name.now in
    let len = length args.«data».now + 36 in
    let r = seal_record args.device_key n args.flags args.iv args.«data».now in
    let z = zeros (516 - length r) in
    let e = sealed-length args.device_key n args.flags args.iv args.«data».now pre.name_value.1 in
    let whole : take (len - 0) (drop 0 make-record.result) ≡ r = rw make-record.ensures (front-part r z len e) in
    let tag : take (len - (len - 16)) (drop (len - 16) make-record.result) ≡ tag_of r = rw make-record.ensures (tail-part r z len e (omega arith)) in
    let kv = insert-at.ensures ∙ ap (insert_at kv_format args.kv.now args.found n) whole in
    let rbp = insert-at2.ensures ∙ ap (insert_at rbp_format args.rbp.now args.entry n) tag in
    rw (sym require-replay-protection.ensures ∙ if1.true) (λ i. areas (kv i) (rbp i))

pub returns-else-require_replay_protection : goal.returns-else-require_replay_protection
returns-else-require_replay_protection c =
    let pre = c.requires in
    let args = c.args in
    let make-record = c.make_record-record_buf in
    let insert-at = c.insert_at in
    let require-replay-protection = c.require_replay_protection in
    let n = args.name.now in
    let len = length args.«data».now + 36 in
    let r = seal_record args.device_key n args.flags args.iv args.«data».now in
    let e = sealed-length args.device_key n args.flags args.iv args.«data».now pre.name_value.1 in
    let whole : take (len - 0) (drop 0 make-record.result) ≡ r = rw make-record.ensures (front-part r (zeros (516 - length r)) len e) in
    let kv = insert-at.ensures ∙ ap (insert_at kv_format args.kv.now args.found n) whole in
    rw (sym require-replay-protection.ensures ∙ c.if-require_replay_protection.false) (λ i. areas (kv i) args.rbp.now)
