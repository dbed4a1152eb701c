-- `replay::input::Input::take_part`: what is taken lies within what was read.
use mathlib.Core.Path.{◌≡◌, refl, ap, ◌∙◌}
use Prim.Native.Nat.{ℕ, ◌+◌}
use native.Mathlib.Omega.{arith}
use lib.ListN.{length}
use Rattle.script_replay.specs.Script.{at_front}
use Rattle.script_replay.specs.Stream.{held}
use Rattle.script_replay.specs.declared.gather.Gathered.{Gathered}
use Rattle.script_replay.proofs.Gathering.{gathered-within}
use Rattle.replay.specs.Turns.{text, unused}
use Rattle.replay.proofs.input.Input.take_part.Goals as goal

pub overflow_add-self : goal.overflow_add-self
overflow_add-self g c =
    let s = c.args.self.now in
    let l = c.args.line.now in
    let w = gathered-within (length l.bytes) s.from s.to (text l) s.chunk _ c.gather-gathered.ensures.value in
    omega (arith, w.0, s.in_order, s.fits)

pub invariant_of-self : goal.invariant_of-self
invariant_of-self g c =
    let s = c.args.self.now in
    let l = c.args.line.now in
    let w = gathered-within (length l.bytes) s.from s.to (text l) s.chunk _ c.gather-gathered.ensures.value in
    record { in_order = omega (arith, w.0, s.in_order); fits = s.fits }

pub returns : goal.returns
returns g c =
    let s = c.args.self.now in
    let l = c.args.line.now in
    let z : length l.bytes ≡ 1101 = omega arith in
    let e = c.gather-gathered.ensures.value in
    record {
      reader = refl;
      chunk = refl;
      from = ap (λ (r : Gathered). s.from + r.taken) e;
      to = refl;
      ended = refl;
      len = ap (λ (r : Gathered). r.len) e ∙ ap (λ (k : ℕ). length (held k (text l) (unused s))) z;
      bytes = c.gather-gathered.ensures.line_after ∙ ap (λ (k : ℕ). at_front (held k (text l) (unused s)) l.bytes) z;
      newline = ap (λ (r : Gathered). r.whole) e;
    }
