-- `records::record::Record::data_size`: a valid record has the field.
use native.Mathlib.Omega.{arith}
use borrow.Author.Rules.{rules}
use Rattle.spec.proofs.Record.{valid-record}
use Rattle.records.proofs.record.Record.data_size.Goals as goal

pub le_at-requires : goal.le_at-requires
le_at-requires c =
    let valid = valid-record c.args.self.bytes.now c.args.self.valid in
    (omega arith, search rules)
