-- `cipher::ctr::add_front`. The invariant: the bytes before i are done, and those from i on as lent.
use Rattle.std.proofs.Common.{refl, ◌∙◌, arith, w8, rules}
use borrow.Kind.Array.{e_int, good_length}
use Rattle.cipher.proofs.Stream.{front-step, front-done}
use Rattle.cipher.proofs.ctr.add_front.Goals as goal

pub loop-i-init : goal.loop-i-init
loop-i-init c = (refl, good_length (e_int w8) 16 c.args.stream _ c.well_formed.1.0, refl)

pub loop-i-preserved : goal.loop-i-preserved
loop-i-preserved c =
    let l = c.loop-i in
    let stream = c.args.stream in
    (search rules, search rules, front-step l.part stream l.i (omega arith) (omega arith) ∙ l.invariant.2)

pub returns : goal.returns
returns c =
    let l = c.loop-i in
    front-done l.part c.args.stream l.i (omega arith) ∙ l.invariant.2
