-- `text::hex::put_digits`. The invariant: the digits in place, then those of the bytes that are left, are the bytes'; what lies behind is as it was.
use mathlib.Core.Path.{◌∙◌}
use native.Mathlib.Omega.{arith}
use Rattle.text.proofs.HexSteps.{put_two, kept-two}
use Rattle.text.proofs.hex.put_digits.Goals as goal

pub loop-i-preserved : goal.loop-i-preserved
loop-i-preserved c =
    let a = c.args in
    let l = c.loop-i in
    let put = put_two a.«data».now l.out l.i _ _ (omega arith) (omega arith) c.digit.ensures c.digit-in-loop-i.ensures in
    (put ∙ l.invariant.0, kept-two l.out a.out.now l.i _ _ l.invariant.1)
