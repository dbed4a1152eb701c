-- `store::get::get_record`: what is decided, then the record is read.
use mathlib.Core.Path.{◌≡◌, ◌∙◌}
use mathlib.Core.Bool.{true, false}
use borrow.Author.Rules.{rules}
use Rattle.std.specs.Prelude.{is_ok}
use Rattle.store.specs.Parts.{option_of}
use Rattle.store.proofs.Tests.{is_done, not_done, counted_done, counted_none}
use Rattle.store.proofs.GetCall.{read-refused, read_in_range, read_done}
use Rattle.store.proofs.get.get_record.Goals as goal

pub read_record-count-requires-clause-in_range : goal.read_record-count-requires-clause-in_range
read_record-count-requires-clause-in_range c =
    let args = c.args in
    let keys = args.keys.now in
    let verdict = c.held_status-verdict in
    let done : is_ok verdict.result ≡ true = search rules in
    read_in_range keys.device.now.key keys.name.now args.offset args.stored.bytes.now (option_of args.tag) args.output.now
    _ verdict.ensures (is_done verdict.result done)

pub returns-then-accepted : goal.returns-then-accepted
returns-then-accepted c =
    let args = c.args in
    let keys = args.keys.now in
    let verdict = c.held_status-verdict in
    let done : is_ok verdict.result ≡ true = search rules in
    let read = c.read_record-count.ensures in
    rw c.and.ensures
    (counted_done verdict.result done _ _
    ∙ read_done keys.device.now.key keys.name.now args.offset args.stored.bytes.now (option_of args.tag) args.output.now
    _ verdict.ensures (is_done verdict.result done) _ _ read.value read.output_after)

pub returns : goal.returns
returns c =
    let args = c.args in
    let keys = args.keys.now in
    let verdict = c.held_status-verdict in
    let refused : is_ok verdict.result ≡ false = search rules in
    rw c.and-2.ensures
    (counted_none verdict.result _
    ∙ read-refused keys.device.now.key keys.name.now args.offset args.stored.bytes.now (option_of args.tag) args.output.now
    _ verdict.ensures (not_done verdict.result refused))
