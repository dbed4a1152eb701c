-- `keys::reader::KeyFileReader::take_mark`: the part, where there is one, compared with the mark.
use Rattle.std.proofs.Common.{sym, ◌∙◌}
use Rattle.store.proofs.Tests.{handed_on}
use Rattle.keys.proofs.Taken.{no-mark, wrong-mark, mark-taken}
use Rattle.keys.proofs.reader.KeyFileReader.take_mark.Goals as goal

pub returns-in_err-mark : goal.returns-in_err-mark
returns-in_err-mark c =
    rw (handed_on c.from_residual.result c.in_err-mark.field-0.0 c.from_residual.ensures) (no-mark c.args.self.now _ c.in_err-mark.ensures.answer)

pub returns-then-not-bytes_equal : goal.returns-then-not-bytes_equal
returns-then-not-bytes_equal c = wrong-mark c.args.self.now _ c.in_ok-mark.ensures.answer (sym c.bytes_equal.ensures ∙ c.if-not-bytes_equal.true)

pub returns : goal.returns
returns c = mark-taken c.args.self.now _ c.in_ok-mark.ensures.answer (sym c.bytes_equal.ensures ∙ c.if-not-bytes_equal.false)
