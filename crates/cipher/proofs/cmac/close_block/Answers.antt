-- `cipher::cmac::close_block`: K1 is added to a full block, padding and K2 to another.
use Rattle.std.proofs.Common.{◌≡◌, length, ap, ◌∙◌, length-set, w8, le-ltb, lt-ltb}
use borrow.Kind.Array.{e_int, good_length}
use Rattle.cipher.specs.Cmac.{double}
use Rattle.cipher.specs.CmacState.{closed_block, xor_at}
use Rattle.cipher.proofs.States.{sum-block}
use Rattle.cipher.proofs.cmac.close_block.Goals as goal

pub returns-then-pending-lt16 : goal.returns-then-pending-lt16
unfolding closed_block xor_at
returns-then-pending-lt16 c =
    let keys = c.doubled.ensures ∙ ap double c.doubled-subkey1.ensures in
    let whole : length c.args.block ≡ 16 = good_length (e_int w8) 16 c.args.block _ c.well_formed.0 in
    rw (lt-ltb _ _ c.if-pending-lt16.true) (sum-block _ _ _ _ _ c.bitxor.ensures c.load.ensures (simp length-set whole) keys)

pub returns : goal.returns
unfolding closed_block
returns c =
    let sized = good_length (e_int w8) 16 c.args.block _ c.well_formed.0 in
    rw (le-ltb _ _ c.if-pending-lt16.false) (sum-block _ _ _ _ _ c.bitxor-2.ensures c.load-2.ensures sized c.doubled-subkey1.ensures)
