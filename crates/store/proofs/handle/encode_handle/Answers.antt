-- `store::handle::encode_handle`: each field stands behind the one before it.
use mathlib.Core.Path.{◌≡◌, refl}
use native.Mathlib.Omega.{arith}
use lib.ListN.{length}
use borrow.Author.Rules.{rules}
use Rattle.buffers.specs.Bytes.{zeros}
use Rattle.store.proofs.HandleBytes.{encoded}
use Rattle.store.proofs.handle.encode_handle.Goals as goal

pub paste-requires : goal.paste-requires
paste-requires c =
    let long : length c.args.handle.name ≡ 64 = search rules in
    omega arith

pub paste-requires-2 : goal.paste-requires-2
paste-requires-2 c =
    let long : length c.args.handle.iv ≡ 8 = search rules in
    omega arith

pub returns : goal.returns
returns c =
    let args = c.args in
    let paste = c.paste in
    let put-le-at = c.put_le_at in
    let put-le-at2 = c.put_le_at-2 in
    let paste2 = c.paste-2 in
    let put-le-at3 = c.put_le_at-3 in
    let put-le-at4 = c.put_le_at-4 in
    encoded args.handle (search rules) (search rules) (zeros 88) refl _ _ _ _ _ _
    paste.ensures put-le-at.ensures put-le-at2.ensures paste2.ensures put-le-at3.ensures put-le-at4.ensures
