-- `cipher::aes::Cipher::absorb`: bytes that fit, or as many as fill the block and then the others.
use Rattle.std.proofs.Common.{◌≡◌, ◌+◌, length, ap, ◌∙◌, arith, length-take, take_all}
use Rattle.cipher.specs.CmacState.{xor_from, fed}
use Rattle.cipher.specs.Pending.{state_with}
use Rattle.cipher.proofs.Fold.{state}
use Rattle.cipher.proofs.Feeding.{to_end, absorbed_short, absorbed_behind}
use Rattle.cipher.proofs.aes.Cipher.absorb.Goals as goal

pub slice_bounds-add_bytes-end : goal.slice_bounds-add_bytes-end
slice_bounds-add_bytes-end c = simp length-take (omega arith)

pub add_bytes-filled-requires : goal.add_bytes-filled-requires
add_bytes-filled-requires c = simp length-take (omega arith)

pub returns-then-n-data : goal.returns-then-n-data
unfolding state_with
returns-then-n-data c =
    let d = c.args.«data».now in
    let n = c.min-n.result in
    let all : n ≡ length d = omega arith in
    let filled = c.add_bytes-filled.ensures ∙ ap (xor_from _ _) (take_all n d (omega arith)) in
    absorbed_short c.args.self.keys.now c.args.from.block d _ c.args.from.count _ n c.min-p.ensures all (omega arith) filled

pub returns : goal.returns
unfolding state_with
returns c =
    let d = c.args.«data».now in
    let n = c.min-n.result in
    let ks = c.args.self.keys.now in
    let full : c.min-p.result + n ≡ 16 = omega arith in
    c.absorb_behind.ensures
    ∙ ap (fed (state c.add_bytes-filled.result 16 ks)) (to_end n d)
    ∙ absorbed_behind ks c.args.from.block d _ c.args.from.count _ n c.min-p.ensures full (omega arith) c.add_bytes-filled.ensures
