-- `store::incremental::new_handle`: the name with its fill, and the other fields as given.
use Rattle.std.proofs.Common.{length, refl, ◌∙◌}
use Rattle.buffers.specs.Bytes.{zeros}
use Rattle.buffers.proofs.Lists.{fill}
use Rattle.store.proofs.Slices.{paste-front}
use Rattle.store.proofs.incremental.new_handle.Goals as goal

pub returns : goal.returns
returns c =
    let n = c.args.name.now in
    let filled = c.paste.ensures ∙ paste-front (zeros 64) n ∙ fill 64 (length n) n refl in
    λ i. record {
      name = filled i;
      name_len = length n;
      flags = c.args.flags;
      iv = c.array.ensures i;
      final_data_size = c.args.final_data_size;
      offset = 0;
    }
