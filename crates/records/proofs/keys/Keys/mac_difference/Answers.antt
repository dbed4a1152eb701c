-- `records::keys::Keys::mac_difference`: metadata and stored data are all but the last sixteen bytes.
use mathlib.Core.Path.{ap₂, ◌∙◌}
use native.Mathlib.Omega.{arith}
use Rattle.buffers.specs.Compare.{diff_accumulate}
use Rattle.spec.proofs.Record.{valid-record}
use Rattle.records.proofs.Valid.{covered-cmac}
use Rattle.records.proofs.keys.Keys.mac_difference.Goals as goal

pub overflow_sub-end : goal.overflow_sub-end
overflow_sub-end c =
    let valid = valid-record c.args.r.bytes.now c.args.r.valid in
    omega arith

pub returns : goal.returns
returns c =
    let record-tag = c.tag-stored in
    let record-cmac = c.record_cmac-computed in
    let args = c.args in
    let r = args.r.bytes.now in
    let cmac = record-cmac.ensures ∙ covered-cmac args.self.now.device.now.key args.self.now.name.now r (valid-record r args.r.valid) in
    c.tag_difference.ensures ∙ ap₂ diff_accumulate cmac record-tag.ensures
