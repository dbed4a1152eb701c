-- `mix::find::Records::session_of`: as get, then 20, then the session number.
use mathlib.Core.Path.{refl, sym, ◌∙◌}
use mathlib.Core.List.{[], ◌∷◌}
use native.Mathlib.Omega.{arith}
use lib.Seq.{length-take-le}
use Rattle.spec.specs.Status.{Answer}
use Rattle.store.specs.Answers.{code}
use Rattle.mix.specs.Calls.{mix_record}
use Rattle.store.proofs.Tests.{refused_number, handed_on}
use Rattle.mix.proofs.Tried.{count_fits, tried-refused, tried-bad, tried-good, data_long}
use Rattle.mix.proofs.find.Records.session_of.Goals as goal

pub returns-in_err-count : goal.returns-in_err-count
unfolding mix_record
returns-in_err-count c =
    let r = c.args.self.now in
    let e = c.in_err-count.field-0.0 in
    let g : Answer = record { status = code e; numbers = 0 ∷ []; output = c.get_prepared.new.output } in
    rw (handed_on _ e c.from_residual.ensures)
    (tried-refused r.kv.now r.rbp.now r.device.now.key c.args.name.now g c.in_err-count.ensures (refused_number e))

pub slice_bounds-data-end : goal.slice_bounds-data-end
unfolding mix_record
slice_bounds-data-end c =
    let r = c.args.self.now in
    let g : Answer = record { status = 0; numbers = c.in_ok-count.count ∷ []; output = c.get_prepared.new.output } in
    omega (arith, count_fits r.kv.now r.rbp.now r.device.now.key c.args.name.now g c.in_ok-count.ensures, c.get_prepared.auto.output)

pub slice_bounds-mix_valid-end : goal.slice_bounds-mix_valid-end
unfolding mix_record
slice_bounds-mix_valid-end c =
    let r = c.args.self.now in
    let g : Answer = record { status = 0; numbers = c.in_ok-count.count ∷ []; output = c.get_prepared.new.output } in
    let fits = count_fits r.kv.now r.rbp.now r.device.now.key c.args.name.now g c.in_ok-count.ensures in
    sym (length-take-le c.in_ok-count.count c.get_prepared.new.output (omega (arith, fits, c.get_prepared.auto.output)))

pub returns-then-not-mix_valid : goal.returns-then-not-mix_valid
unfolding mix_record
returns-then-not-mix_valid c =
    let r = c.args.self.now in
    let g : Answer = record { status = 0; numbers = c.in_ok-count.count ∷ []; output = c.get_prepared.new.output } in
    let bad = sym c.mix_valid.ensures ∙ c.if-not-mix_valid.true in
    tried-bad r.kv.now r.rbp.now r.device.now.key c.args.name.now g c.in_ok-count.ensures refl bad

pub slice_bounds-data-end-2 : goal.slice_bounds-data-end-2
unfolding mix_record
slice_bounds-data-end-2 c =
    let r = c.args.self.now in
    let g : Answer = record { status = 0; numbers = c.in_ok-count.count ∷ []; output = c.get_prepared.new.output } in
    omega (arith, count_fits r.kv.now r.rbp.now r.device.now.key c.args.name.now g c.in_ok-count.ensures, c.get_prepared.auto.output)

pub slice_bounds-session_at-end : goal.slice_bounds-session_at-end
unfolding mix_record
slice_bounds-session_at-end c =
    let r = c.args.self.now in
    let g : Answer = record { status = 0; numbers = c.in_ok-count.count ∷ []; output = c.get_prepared.new.output } in
    let fits = count_fits r.kv.now r.rbp.now r.device.now.key c.args.name.now g c.in_ok-count.ensures in
    sym (length-take-le c.in_ok-count.count c.get_prepared.new.output (omega (arith, fits, c.get_prepared.auto.output)))

pub session_at-requires : goal.session_at-requires
session_at-requires c = data_long _ (sym c.mix_valid.ensures ∙ c.if-not-mix_valid.false)

pub returns : goal.returns
unfolding mix_record
returns c =
    let r = c.args.self.now in
    let g : Answer = record { status = 0; numbers = c.in_ok-count.count ∷ []; output = c.get_prepared.new.output } in
    let good = sym c.mix_valid.ensures ∙ c.if-not-mix_valid.false in
    tried-good r.kv.now r.rbp.now r.device.now.key c.args.name.now g c.in_ok-count.ensures refl good _ c.session_at.ensures
