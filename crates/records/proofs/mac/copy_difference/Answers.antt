-- `records::mac::copy_difference`: the record's CMAC is its last sixteen bytes.
use mathlib.Core.Path.{ap₂, ◌∙◌}
use Rattle.buffers.specs.Compare.{diff_accumulate}
use Rattle.records.proofs.mac.copy_difference.Goals as goal

pub returns : goal.returns
returns c =
    let record-tag = c.tag-stored in
    let array = c.array-kept in
    c.tag_difference.ensures ∙ ap₂ diff_accumulate array.ensures record-tag.ensures
