-- `keys::reader::KeyFileReader::take_material`: the part, where there is one.
use Rattle.store.proofs.Tests.{handed_on}
use Rattle.keys.proofs.Taken.{no-material, material-taken}
use Rattle.keys.proofs.reader.KeyFileReader.take_material.Goals as goal

pub returns-in_err-material : goal.returns-in_err-material
returns-in_err-material c =
    rw (handed_on c.from_residual.result c.in_err-material.field-0.0 c.from_residual.ensures)
    (no-material c.args.self.now c.args.n _ c.in_err-material.ensures.answer)

pub returns : goal.returns
returns c = material-taken c.args.self.now c.args.n _ c.in_ok-material.ensures.answer
