-- `records::keys::Keys::seal_record`: behind the record the buffer has its zeros.
use mir.Syntax.{w8}
use borrow.Kind.Array.{e_int, good_length}
use Rattle.records.proofs.Sealed.{sealed-filled}
use Rattle.records.proofs.keys.Keys.seal_record.Goals as goal

pub returns : goal.returns
returns c =
    let seal-into = c.seal_into in
    let args = c.args in
    let iv_is_sized = good_length (e_int w8) 8 args.iv _ c.well_formed.1.1.0 in
    sealed-filled args.self.now.device.now.key args.self.now.name.now args.flags args.iv args.value.now iv_is_sized 516 _ seal-into.ensures
