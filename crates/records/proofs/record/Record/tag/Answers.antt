-- `records::record::Record::tag`: the last sixteen bytes.
use mathlib.Core.Path.{ap, ◌∙◌}
use native.Mathlib.Omega.{arith}
use lib.ListN.{length}
use Rattle.buffers.proofs.Lists.{rest_part}
use Rattle.spec.proofs.Record.{valid-record, valid-tag-length}
use Rattle.records.proofs.record.Record.tag.Goals as goal

pub overflow_sub-at : goal.overflow_sub-at
overflow_sub-at c = let valid = valid-record c.args.self.bytes.now c.args.self.valid in omega arith

pub array-requires : goal.array-requires
array-requires c =
    let r = c.args.self.bytes.now in
    (omega arith, ap length (rest_part r _) ∙ valid-tag-length r (valid-record r c.args.self.valid))

pub returns : goal.returns
returns c = c.array.ensures ∙ rest_part c.args.self.bytes.now _
