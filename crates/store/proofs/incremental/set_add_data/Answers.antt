-- `store::incremental::set_add_data`: what the tests say, then the chunk behind what is held.
use mathlib.Core.Path.{refl}
use native.Mathlib.Omega.{arith}
use Rattle.store.proofs.Tests.{refused_number}
use Rattle.store.proofs.IncrementalCall.{add-ready, add-refused, add_done}
use Rattle.store.proofs.incremental.set_add_data.Goals as goal

pub returns-in-Err : goal.returns-in-Err
returns-in-Err c =
    let args = c.args in
    add-refused args.handle args.staging.now args.chunk.now _ c.in-Err.ensures (refused_number _)

pub paste-requires : goal.paste-requires
paste-requires c =
    let args = c.args in
    let r = add-ready args.handle args.staging.now args.chunk.now 0 c.in_default.ensures refl in
    let s = r.staging_is_sized in
    let i = r.in_range in
    let z = r.size_small in
    omega arith

pub overflow_cast-chunk : goal.overflow_cast-chunk
overflow_cast-chunk c =
    let args = c.args in
    let r = add-ready args.handle args.staging.now args.chunk.now 0 c.in_default.ensures refl in
    let i = r.in_range in
    let z = r.size_small in
    omega arith

pub advance-requires : goal.advance-requires
advance-requires c =
    let args = c.args in
    let r = add-ready args.handle args.staging.now args.chunk.now 0 c.in_default.ensures refl in
    let i = r.in_range in
    let z = r.size_small in
    omega arith

pub returns : goal.returns
returns c =
    let args = c.args in
    add_done args.handle args.staging.now args.chunk.now 0 c.in_default.ensures refl _ _ c.advance.ensures c.paste.ensures
