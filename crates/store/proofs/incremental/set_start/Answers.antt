-- `store::incremental::set_start`: what the tests say, then the handle.
use mathlib.Core.Path.{refl}
use Rattle.store.proofs.Tests.{refused_number}
use Rattle.store.proofs.IncrementalCall.{start-refused, start-done, start-ready}
use Rattle.store.proofs.incremental.set_start.Goals as goal

pub returns-in-Err : goal.returns-in-Err
returns-in-Err c =
    let args = c.args in
    start-refused args.name.now args.flags args.iv.now args.final_data_size _ c.in-Err.ensures (refused_number _) _ c.zero_handle.ensures

pub new_handle-requires : goal.new_handle-requires
new_handle-requires c =
    let args = c.args in
    start-ready args.name.now args.flags args.iv.now args.final_data_size 0 c.in_default.ensures refl

pub returns : goal.returns
returns c =
    let args = c.args in
    start-done args.name.now args.flags args.iv.now args.final_data_size 0 c.in_default.ensures refl _ c.new_handle.ensures
