-- `mix::persist::store_mix`: encoded, or 20; then as its bytes.
use Prim.Native.Nat.{ℕ}
use mathlib.Core.Path.{◌≡◌, refl, sym, ap, ◌∙◌}
use mathlib.Core.Bool.{true}
use mathlib.Core.List.{List, [], ◌∷◌}
use native.Mathlib.Omega.{arith}
use borrow.Author.Rules.{rules}
use lib.ListN.{length, replicate}
use lib.Seq.{length-take-le}
use Rattle.spec.specs.Status.{refuse_if, on_ok, Answer}
use Rattle.store.specs.Answers.{code}
use Rattle.mix.specs.Calls.{store_if_valid, store_mix}
use Rattle.store.proofs.Tests.{refused_number, handed_on}
use Rattle.mix.proofs.Encoded.{not-encoded, encoded-range, encoded-bytes, encoded-fits}
use Rattle.mix.proofs.persist.store_mix.Goals as goal

pub returns-in_err-len : goal.returns-in_err-len
unfolding store_mix store_if_valid refuse_if on_ok
returns-in_err-len c =
    let e = c.in_err-len.field-0.0 in
    let g : Answer = record { status = code e; numbers = 0 ∷ []; output = c.encode_mix.new.mix_buf } in
    let p = not-encoded c.args.mix (replicate 153 0) (omega arith) g c.in_err-len.ensures (refused_number e) in
    rw (handed_on _ e c.from_residual.ensures, p.0, p.1)

pub slice_bounds-bytes-end : goal.slice_bounds-bytes-end
slice_bounds-bytes-end c =
    let m = c.args.mix in
    let all : length m.sends ≡ 16 = search rules in
    let g : Answer = record { status = 0; numbers = c.in_ok-len.len ∷ []; output = c.encode_mix.new.mix_buf } in
    omega (arith, encoded-fits m (replicate 153 0) (omega arith) g c.in_ok-len.ensures refl all, c.encode_mix.auto.mix_buf)

pub slice_bounds-store_valid-end : goal.slice_bounds-store_valid-end
slice_bounds-store_valid-end c =
    let m = c.args.mix in
    let all : length m.sends ≡ 16 = search rules in
    let g : Answer = record { status = 0; numbers = c.in_ok-len.len ∷ []; output = c.encode_mix.new.mix_buf } in
    let fits = encoded-fits m (replicate 153 0) (omega arith) g c.in_ok-len.ensures refl all in
    sym (length-take-le c.in_ok-len.len c.encode_mix.new.mix_buf (omega (arith, fits, c.encode_mix.auto.mix_buf)))

pub returns : goal.returns
unfolding store_mix
returns c =
    let a = c.args in
    let g : Answer = record { status = 0; numbers = c.in_ok-len.len ∷ []; output = c.encode_mix.new.mix_buf } in
    rw (encoded-range a.mix (replicate 153 0) (omega arith) g c.in_ok-len.ensures refl)
    (c.store_valid.ensures
    ∙ ap (λ (l : List ℕ). store_if_valid a.kv.now a.rbp.now a.device_key.now a.name.now a.flags a.iv.now true l)
    (encoded-bytes a.mix (replicate 153 0) (omega arith) g c.in_ok-len.ensures refl))
