-- `store::handle::decode_handle`: each field from its place.
use Rattle.spec.specs.Incremental.{handle_of}
use Rattle.store.proofs.handle.decode_handle.Goals as goal

pub returns : goal.returns
unfolding handle_of
returns c = λ i. record {
  name = c.array.ensures i;
  name_len = c.le_at.ensures i;
  flags = c.le_at-2.ensures i;
  iv = c.array-2.ensures i;
  final_data_size = c.le_at-3.ensures i;
  offset = c.le_at-4.ensures i;
}
