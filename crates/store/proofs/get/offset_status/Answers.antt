-- `store::get::offset_status`: 14 where the offset lies beyond the data.
use borrow.Author.Tests.{lt-leb, le-leb}
use Rattle.spec.specs.Status.{refuse_if}
use Rattle.store.proofs.get.offset_status.Goals as goal

pub returns-then-data_size-offset : goal.returns-then-data_size-offset
unfolding refuse_if
returns-then-data_size-offset c =
    let record-data-size = c.data_size in
    rw (← record-data-size.ensures, lt-leb _ _ c.if-data_size-offset.true)

pub returns : goal.returns
unfolding refuse_if
returns c =
    let record-data-size = c.data_size in
    rw (← record-data-size.ensures, le-leb _ _ c.if-data_size-offset.false)
