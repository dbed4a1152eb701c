-- `records::keys::Keys::put_crypted`: the data fill the part.
use lib.ListN.{length}
use Rattle.spec.specs.Record.{sealed_data}
use Rattle.buffers.proofs.Lists.{part-back}
use Rattle.spec.proofs.Record.{sealed_data-length}
use Rattle.records.proofs.keys.Keys.put_crypted.Goals as goal

pub returns : goal.returns
returns c =
    let copy-crypted = c.copy_crypted in
    let args = c.args in
    let src = args.src.now in
    let crypted = sealed_data args.self.now.device.now.key args.self.now.name.now args.flags args.iv src in
    let whole = sealed_data-length args.self.now.device.now.key args.self.now.name.now args.flags args.iv src in
    part-back args.dst.now _ crypted args.at (length src) copy-crypted.ensures whole
