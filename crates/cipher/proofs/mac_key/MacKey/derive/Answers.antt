-- `cipher::mac_key::MacKey::derive`: the two parts, each cut, are the salt, and the buffer is the message.
use Rattle.std.proofs.Common.{◌≡◌, length, take, ap, ◌∙◌, arith, length-set, length-take, w8}
use Rattle.cipher.proofs.Arrays.{array_fits}
use Rattle.cipher.proofs.Feeding.{under-key}
use Rattle.cipher.specs.Aes.{encrypt_with}
use Rattle.cipher.specs.Cmac.{cmac_over}
use Rattle.cipher.specs.Kdf.{salt, labelled, kdf, derived_key}
use Rattle.cipher.proofs.Salt.{cut_parts}
use Rattle.cipher.proofs.Message.{message_is}
use Rattle.cipher.proofs.mac_key.MacKey.derive.Goals as goal

pub slice_bounds-paste-end-2 : goal.slice_bounds-paste-end-2
slice_bounds-paste-end-2 c = simp length-take (omega arith)

pub paste-requires : goal.paste-requires
paste-requires c = simp length-take (omega arith)

pub slice_bounds-paste-end-4 : goal.slice_bounds-paste-end-4
slice_bounds-paste-end-4 c = simp length-take (omega arith)

pub paste-requires-2 : goal.paste-requires-2
paste-requires-2 c = simp length-take (omega arith)

pub slice_bounds-message-end : goal.slice_bounds-message-end
slice_bounds-message-end c =
    simp length-set (omega (arith, c.min-n.ensures, c.min-p.ensures))

pub slice_bounds-tag_of-end : goal.slice_bounds-tag_of-end
slice_bounds-tag_of-end c =
    simp (length-take, length-set) (omega (arith, c.min-n.ensures, c.min-p.ensures))

pub returns : goal.returns
unfolding salt derived_key kdf
returns c =
    let prefix = c.args.prefix.now in
    let name = c.args.name.now in
    let p = c.min-p.result in
    let n = c.min-n.result in
    let sp : length (take p prefix) ≡ p = length-take p prefix ∙ omega arith in
    let sn : length (take n name) ≡ n = length-take n name ∙ omega arith in
    let key = c.args.key in
    c.tag_of.ensures
    ∙ ap (cmac_over (encrypt_with c.args.self.cipher.keys.now))
    (message_is (take p prefix) (take n name) p n sp sn (omega arith) _ _ c.paste.ensures c.paste-2.ensures
    ∙ ap labelled (cut_parts 32 p n prefix name c.min-p.ensures c.min-n.ensures))
    ∙ under-key key _ _ (array_fits w8 16 key _ c.well_formed.1.0) c.requires
