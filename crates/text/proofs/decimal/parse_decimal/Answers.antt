-- `text::decimal::parse_decimal`. The invariant: the digits that are left, read after those that gave `value`, give the text's value.
use mathlib.Core.Path.{◌≡◌, sym, ◌∙◌}
use Prim.Native.Nat.{◌+◌, ◌-◌, ◌*◌, ◌<◌}
use native.Mathlib.Omega.{arith}
use borrow.Author.Tests.{eqb-true, eqb-false}
use lib.ListN.{length, get_or}
use lib.Seq.{drop-length}
use Rattle.text.specs.Decimal.{decimal_value}
use Rattle.text.proofs.DecimalSteps.{digit-read, digits-stop, value-over, empty-bad, other-bad, digits-good, read-bad, read-over, read-good}
use Rattle.text.proofs.decimal.parse_decimal.Goals as goal

pub returns-then-is_empty-clause-value : goal.returns-then-is_empty-clause-value
returns-then-is_empty-clause-value c =
    let a = c.args in
    let none = eqb-true (length a.text.now) 0 (sym c.is_empty.ensures ∙ c.if-is_empty.true) in
    read-bad a.text.now a.most (empty-bad a.text.now (omega arith))

pub returns-in_err-digit-clause-value : goal.returns-in_err-digit-clause-value
returns-in_err-digit-clause-value c =
    let a = c.args in
    let l = c.loop-c in
    let other = sym l.invariant.2 ∙ digits-stop a.text.now l.c-index (omega arith) (rw c.from.ensures at c.in_err-digit.ensures.value) in
    c.from_residual.ensures ∙ read-bad a.text.now a.most (other-bad a.text.now other)

pub returns-in_err-checked_mul-clause-value : goal.returns-in_err-checked_mul-clause-value
returns-in_err-checked_mul-clause-value c =
    let a = c.args in
    let l = c.loop-c in
    let over = value-over a.text.now l.c-index (omega arith) l.value a.most (omega (arith, c.in_err-checked_mul.ensures)) in
    c.from_residual-in_err-checked_mul.ensures ∙ read-over a.text.now a.most (omega (arith, l.invariant.1))

pub returns-in_err-value-clause-value : goal.returns-in_err-value-clause-value
returns-in_err-value-clause-value c =
    let a = c.args in
    let l = c.loop-c in
    let d = rw c.from.ensures at c.in_ok-digit.ensures.value in
    let read = digit-read (get_or a.text.now l.c-index 0) d.0 in
    let next : a.most < 10 * l.value + (get_or a.text.now l.c-index 0 - 0x30) = omega (arith, read.2, d.1, c.from-in-loop-c.ensures, c.in_ok-checked_mul.ensures, c.in_err-value.ensures) in
    let over = value-over a.text.now l.c-index (omega arith) l.value a.most next in
    c.from_residual-in_err-value.ensures ∙ read-over a.text.now a.most (omega (arith, l.invariant.1))

pub returns-then-most-value-clause-value : goal.returns-then-most-value-clause-value
returns-then-most-value-clause-value c =
    let a = c.args in
    let l = c.loop-c in
    let d = rw c.from.ensures at c.in_ok-digit.ensures.value in
    let read = digit-read (get_or a.text.now l.c-index 0) d.0 in
    let next : a.most < 10 * l.value + (get_or a.text.now l.c-index 0 - 0x30) = omega (arith, read.2, d.1, c.from-in-loop-c.ensures, c.in_ok-checked_mul.ensures, c.in_ok-value.ensures) in
    let over = value-over a.text.now l.c-index (omega arith) l.value a.most next in
    read-over a.text.now a.most (omega (arith, l.invariant.1))

pub returns-clause-value : goal.returns-clause-value
returns-clause-value c =
    let a = c.args in
    let l = c.loop-c in
    let some = eqb-false (length a.text.now) 0 (sym c.is_empty.ensures ∙ c.if-is_empty.false) in
    let e : l.c-index ≡ length a.text.now = omega arith in
    let value : l.value ≡ decimal_value a.text.now = rw (e, drop-length) at l.invariant.1 in
    let good = digits-good a.text.now (omega arith) (sym (rw (e, drop-length) at l.invariant.2)) in
    rw value (read-good a.text.now a.most good (omega arith))
