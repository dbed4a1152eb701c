-- `keys::key_name::key_digits`: one more digit in place.
use Rattle.std.proofs.Common.{◌≡◌, ◌-◌, ◌%◌, suc, sym, ◌∙◌, arith, rules}
use Rattle.keys.proofs.Digits.{digit-listed, digit-step}
use Rattle.keys.proofs.key_name.key_digits.Goals as goal

pub loop-i-preserved : goal.loop-i-preserved
loop-i-preserved c =
    let l = c.loop-i in
    let e : l.i ≡ suc (l.i - 1) = omega arith in
    (search rules, digit-step l.digits (l.i - 1) l.rest _ (omega arith) (sym (digit-listed (l.rest % 16) (omega arith))) ∙ rw e at l.invariant.1)
