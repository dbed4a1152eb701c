-- `cipher::cmac::add_bytes`. The invariant: what is left of the data, added to the present sum, gives what all of it gives.
use Rattle.std.proofs.Common.{◌≡◌, [], drop, ◌∙◌, add-zero, arith, drop_of_length-le, w8, rules}
use borrow.Kind.Array.{e_int, good_length}
use Rattle.cipher.specs.CmacState.{xor_at}
use Rattle.cipher.proofs.Blocks.{xor-from-step}
use Rattle.cipher.proofs.cmac.add_bytes.Goals as goal

pub loop-i-init : goal.loop-i-init
loop-i-init c = (good_length (e_int w8) 16 c.args.block _ c.well_formed.0, rw add-zero)

pub loop-i-preserved : goal.loop-i-preserved
unfolding xor_at
loop-i-preserved c =
    let l = c.loop-i in
    let a = c.args in
    (search rules, xor-from-step l.sum a.«data».now a.at l.i (omega arith) ∙ l.invariant.1)

pub returns : goal.returns
returns c =
    let l = c.loop-i in
    let d = c.args.«data».now in
    let end : drop l.i d ≡ [] = drop_of_length-le d {i = l.i} (omega arith) in
    rw end at l.invariant.1
