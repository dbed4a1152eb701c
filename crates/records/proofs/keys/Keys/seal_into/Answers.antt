-- `records::keys::Keys::seal_into`: metadata, data and CMAC stand side by side.
use mir.Syntax.{w8}
use borrow.Kind.Array.{e_int, good_length}
use Rattle.records.proofs.Sealed.{sealed-steps}
use Rattle.records.proofs.keys.Keys.seal_into.Goals as goal

pub returns : goal.returns
returns c =
    let args = c.args in
    let iv_is_sized = good_length (e_int w8) 8 args.iv _ c.well_formed.1.1.0 in
    sealed-steps args.self.now.device.now.key args.self.now.name.now args.flags args.iv args.value.now iv_is_sized args.record_buf.now _ _ _ _ _
    c.sealed_iv.ensures c.put_metadata.ensures c.put_crypted.ensures c.sealed_tag-tag.ensures
    c.paste.ensures
