-- `records::keys::Keys::open_front`: the front of the stored data, which stand behind the metadata, becomes the front of the plaintext.
use native.Mathlib.Omega.{arith}
use Rattle.spec.proofs.Record.{valid-record}
use Rattle.records.proofs.Sealed.{opened-steps}
use Rattle.records.proofs.keys.Keys.open_front.Goals as goal

pub slice_bounds-array-end : goal.slice_bounds-array-end
slice_bounds-array-end c =
    let valid = valid-record c.args.r.bytes.now c.args.r.valid in
    omega arith

pub slice_bounds-put_crypted-end : goal.slice_bounds-put_crypted-end
slice_bounds-put_crypted-end c =
    let valid = valid-record c.args.r.bytes.now c.args.r.valid in
    omega arith

pub returns : goal.returns
returns c =
    let put-crypted = c.put_crypted in
    let array = c.array-iv in
    let record-flags = c.flags-flags in
    let fitting = c.fitting-n in
    let args = c.args in
    let r = args.r.bytes.now in
    let valid = valid-record r args.r.valid in record {
      value = fitting.ensures;
      output_after = opened-steps args.self.now.device.now.key args.self.now.name.now r valid args.output.now _ _ _ fitting.result (omega arith)
          record-flags.ensures array.ensures put-crypted.ensures;
    }
