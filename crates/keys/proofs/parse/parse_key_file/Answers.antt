-- `keys::parse::parse_key_file`: each test says what the file is not, and all of them what it is.
use Rattle.std.proofs.Common.{sym, ap, ◌∙◌}
use Rattle.keys.specs.Reader.{header_at}
use Rattle.store.proofs.Tests.{handed_on}
use Rattle.keys.proofs.Header.{no_header, file-own, other_version, more-material, missing-bytes, trailing_bytes, accepted}
use Rattle.keys.proofs.parse.parse_key_file.Goals as goal

pub returns-in_err-header : goal.returns-in_err-header
returns-in_err-header c =
    let read = c.in_err-header.ensures ∙ ap header_at c.new-r.ensures in
    rw (handed_on c.from_residual.result c.in_err-header.field-0.0 c.from_residual.ensures) (no_header c.args.file _ _ read)

pub take_material-requires : goal.take_material-requires
take_material-requires c =
    let read = c.in_ok-header.ensures ∙ ap header_at c.new-r.ensures in
    read ∙ sym (file-own c.args.file _ _ read)

pub returns-then-header-ne-KEY_FILE_VERSION : goal.returns-then-header-ne-KEY_FILE_VERSION
returns-then-header-ne-KEY_FILE_VERSION c =
    let read = c.in_ok-header.ensures ∙ ap header_at c.new-r.ensures in
    other_version c.args.file _ _ read c.if-header-ne-KEY_FILE_VERSION.true

pub returns-then-header-gt-MAX_KEY_MATERIAL : goal.returns-then-header-gt-MAX_KEY_MATERIAL
returns-then-header-gt-MAX_KEY_MATERIAL c =
    let read = c.in_ok-header.ensures ∙ ap header_at c.new-r.ensures in
    more-material c.args.file _ _ read c.if-header-gt-MAX_KEY_MATERIAL.true

pub returns-in_err-take_material : goal.returns-in_err-take_material
returns-in_err-take_material c =
    let read = c.in_ok-header.ensures ∙ ap header_at c.new-r.ensures in
    let r = c.from_residual-in_err-take_material in
    rw (handed_on r.result c.in_err-take_material.field-0.0 r.ensures) (missing-bytes c.args.file _ _ read _ _ c.in_err-take_material.ensures.part)

pub returns-then-r-file : goal.returns-then-r-file
returns-then-r-file c =
    let read = c.in_ok-header.ensures ∙ ap header_at c.new-r.ensures in
    trailing_bytes c.args.file _ _ read _ _ c.in_ok-take_material.ensures.part c.if-r-file.true

pub returns : goal.returns
returns c =
    let read = c.in_ok-header.ensures ∙ ap header_at c.new-r.ensures in
    accepted c.args.file _ _ read _ _ c.in_ok-take_material.ensures.part c.if-header-ne-KEY_FILE_VERSION.false c.if-header-gt-MAX_KEY_MATERIAL.false
    c.if-r-file.false
