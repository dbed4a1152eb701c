-- `store::get::read_record`: the front of the data in place, or the part of the opened record from the offset on, as much of it as fits.
use mathlib.Core.Path.{◌≡◌, ap, ◌∙◌}
use mathlib.Core.List.{List, ◌++◌}
use Prim.Native.Nat.{ℕ, ◌-◌, ◌≤◌, min}
use native.Mathlib.Omega.{arith}
use lib.ListN.{length, take, drop, length-drop}
use Rattle.buffers.specs.Bytes.{zeros}
use Rattle.buffers.proofs.Bytes.{length-zero_fill}
use Rattle.records.proofs.Sealed.{plaintext-length}
use Rattle.spec.specs.Record.{data_size_of, plaintext}
use Rattle.spec.specs.Decisions.{read_count, read_output}
use Rattle.spec.proofs.Record.{valid-record}
use Rattle.store.proofs.Slices.{data_part}
use Rattle.store.proofs.get.read_record.Goals as goal

pub returns-then-offset-eq0 : goal.returns-then-offset-eq0
unfolding read_count read_output
returns-then-offset-eq0 c =
    let open-front = c.open_front in
    let if1 = c.if-offset-eq0 in
    let args = c.args in
    let r = args.stored.bytes.now in
    let out = args.output.now in
    let n : open-front.result ≡ min (length out) (data_size_of r - args.offset) = omega (arith, open-front.ensures.value) in
    record { value = n; output_after = open-front.ensures.output_after ∙ rw (n, if1.true) }

pub slice_bounds-copy_fitting-end : goal.slice_bounds-copy_fitting-end
slice_bounds-copy_fitting-end c =
    let args = c.args in
    let open-record = c.open_record-plain in
    let record-data-size = c.data_size-end in
    let r = args.stored.bytes.now in
    let p = plaintext args.keys.now.device.now.key args.keys.now.name.now r in
    let whole : length p ≡ data_size_of r = plaintext-length args.keys.now.device.now.key args.keys.now.name.now r (valid-record r args.stored.valid) in
    let small : data_size_of r ≤ 480 = (valid-record r args.stored.valid).data_size in
    let long : length open-record.result ≡ 480 = ap length open-record.ensures ∙ length-zero_fill 480 p (omega arith) in
    omega (arith, record-data-size.ensures)

pub returns : goal.returns
unfolding read_count read_output
returns c =
    let args = c.args in
    let open-record = c.open_record-plain in
    let record-data-size = c.data_size-end in
    let copy-fitting = c.copy_fitting in
    let r = args.stored.bytes.now in
    let o = args.offset in
    let out = args.output.now in
    let p = plaintext args.keys.now.device.now.key args.keys.now.name.now r in
    let whole : length p ≡ data_size_of r = plaintext-length args.keys.now.device.now.key args.keys.now.name.now r (valid-record r args.stored.valid) in
    let part : take (record-data-size.result - o) (drop o open-record.result) ≡ drop o p =
    rw (open-record.ensures, record-data-size.ensures, ← whole) (data_part p (zeros (480 - length p)) o (rw whole c.requires.in_range)) in
    let n : copy-fitting.result ≡ min (length out) (data_size_of r - o) =
    copy-fitting.ensures.value ∙ ap (λ (l : List ℕ). min (length out) (length l)) part ∙ rw (length-drop o p, whole) in
    record { value = n; output_after = copy-fitting.ensures.dst_after ∙ ap (λ (l : List ℕ). take copy-fitting.result l ++ drop copy-fitting.result out) part ∙ rw n }
