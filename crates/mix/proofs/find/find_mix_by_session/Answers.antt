-- `mix::find::find_mix_by_session`: the mix that the record's bytes are.
use mathlib.Core.Path.{refl, sym}
use mathlib.Core.List.{[], ◌∷◌}
use native.Mathlib.Omega.{arith}
use lib.Seq.{length-take-le}
use Rattle.spec.specs.Status.{Answer}
use Rattle.store.specs.Answers.{code}
use Rattle.store.proofs.Tests.{refused_number, handed_on}
use Rattle.mix.proofs.Found.{not_found, found-fits, found-is}
use Rattle.mix.proofs.find.find_mix_by_session.Goals as goal

pub returns-in_err-count : goal.returns-in_err-count
returns-in_err-count c =
    let a = c.args in
    let e = c.in_err-count.field-0.0 in
    let g : Answer = record { status = code e; numbers = 0 ∷ []; output = c.find_encoded_mix.new.mix_buf } in
    rw (handed_on _ e c.from_residual.ensures)
    (not_found a.kv.now a.rbp.now a.device_key.now a.session_id g c.in_err-count.ensures (refused_number e))

pub slice_bounds-mix-end : goal.slice_bounds-mix-end
slice_bounds-mix-end c =
    let a = c.args in
    let g : Answer = record { status = 0; numbers = c.in_ok-count.count ∷ []; output = c.find_encoded_mix.new.mix_buf } in
    omega (arith, found-fits a.kv.now a.rbp.now a.device_key.now a.session_id g c.in_ok-count.ensures refl, c.find_encoded_mix.auto.mix_buf)

pub slice_bounds-decode_mix-end : goal.slice_bounds-decode_mix-end
slice_bounds-decode_mix-end c =
    let a = c.args in
    let g : Answer = record { status = 0; numbers = c.in_ok-count.count ∷ []; output = c.find_encoded_mix.new.mix_buf } in
    let fits = found-fits a.kv.now a.rbp.now a.device_key.now a.session_id g c.in_ok-count.ensures refl in
    sym (length-take-le c.in_ok-count.count c.find_encoded_mix.new.mix_buf (omega (arith, fits, c.find_encoded_mix.auto.mix_buf)))

pub returns : goal.returns
returns c =
    let a = c.args in
    let g : Answer = record { status = 0; numbers = c.in_ok-count.count ∷ []; output = c.find_encoded_mix.new.mix_buf } in
    found-is a.kv.now a.rbp.now a.device_key.now a.session_id g c.in_ok-count.ensures refl _ c.decode_mix.ensures
