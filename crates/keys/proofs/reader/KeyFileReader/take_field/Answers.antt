-- `keys::reader::KeyFileReader::take_field`: the number in the part, where there is one.
use Rattle.store.proofs.Tests.{handed_on}
use Rattle.keys.proofs.Taken.{no-field, field-taken}
use Rattle.keys.proofs.reader.KeyFileReader.take_field.Goals as goal

pub returns-in_err-field : goal.returns-in_err-field
returns-in_err-field c =
    rw (handed_on c.from_residual.result c.in_err-field.field-0.0 c.from_residual.ensures) (no-field c.args.self.now _ c.in_err-field.ensures.answer)

pub returns : goal.returns
returns c = field-taken c.args.self.now _ _ c.in_ok-field.ensures.answer c.le_at.ensures
