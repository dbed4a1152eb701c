-- `text::hex::put_pairs`. The invariant: the bytes in place, then those of the pairs that are left, are the text's.
use Prim.Native.Nat.{◌+◌, ◌*◌}
use native.Mathlib.Omega.{arith}
use Rattle.text.proofs.HexSteps.{digit-small}
use Rattle.text.proofs.hex.put_pairs.Goals as goal

pub overflow_mul-byte : goal.overflow_mul-byte
overflow_mul-byte c =
    let a = c.args in
    let l = c.loop-i in
    let high = digit-small a.text.now (2 * l.i) c.requires.1 (omega arith) in
    let value = c.digit_value.ensures in
    omega arith

pub overflow_add-byte : goal.overflow_add-byte
overflow_add-byte c =
    let a = c.args in
    let l = c.loop-i in
    let high = digit-small a.text.now (2 * l.i) c.requires.1 (omega arith) in
    let value = c.digit_value.ensures in
    let low = digit-small a.text.now (2 * l.i + 1) c.requires.1 (omega arith) in
    let value2 = c.digit_value-in-loop-i.ensures in
    omega arith
