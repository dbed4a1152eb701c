-- `records::record::record_valid`: both halves of the definition, where the record has a metadata and a CMAC at all.
use mathlib.Core.Path.{sym}
use Rattle.records.proofs.Valid.{valid-halves, short-invalid}
use Rattle.records.proofs.record.record_valid.Goals as goal

pub returns-then-r-lt36 : goal.returns-then-r-lt36
returns-then-r-lt36 c =
    let r = c.args.r.now in
    sym (short-invalid r c.if-r-lt36.true)

pub returns-then-fields_valid : goal.returns-then-fields_valid
returns-then-fields_valid c =
    let if2 = c.if-fields_valid in
    let fields-valid = c.fields_valid in
    rw (valid-halves, ← fields-valid.ensures, if2.true) c.zeros_valid.ensures

pub returns-else-fields_valid : goal.returns-else-fields_valid
returns-else-fields_valid c =
    let fields-valid = c.fields_valid in
    rw (valid-halves, ← fields-valid.ensures, c.if-fields_valid.false)
