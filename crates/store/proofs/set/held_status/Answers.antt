-- `store::set::held_status`: 8, 7, 9 for a known name, 7 for a new one; then 12.
use mathlib.Core.Path.{◌≡◌, refl, sym, ap, ◌∙◌}
use mathlib.Core.Bool.{Bool, false, ◌&&◌}
use mathlib.Core.List.{List, [], ◌∷◌, ◌++◌}
use mathlib.Core.Option.{none, some}
use Prim.Native.Nat.{ℕ}
use Rattle.spec.specs.Status.{◌when◌, refuse_if, first_of}
use Rattle.spec.specs.Record.{require_replay_protection, write_once}
use Rattle.spec.specs.Request.{Binding}
use Rattle.spec.specs.Decisions.{in_chip, set_held}
use Rattle.store.specs.Parts.{given, binding_given, stored_tests, downgrade_tests}
use Rattle.store.proofs.Given.{in_chip_given}
use Rattle.store.proofs.Tests.{went_on}
use Rattle.store.proofs.set.held_status.Goals.{in-Some+in_ok-stored_status-in-Some, in-None+then-write_once+else-tag_held, in-None+else-write_once}
use Rattle.store.proofs.set.held_status.Goals as goal

module _ (flags : ℕ) (b : Binding) where
  known : (r : List ℕ) → b.stored ≡ some r
      → first_of (stored_tests flags r ++ downgrade_tests flags (in_chip b)) ≡ first_of (set_held require_replay_protection flags b)
  unfolding set_held refuse_if
  known r e = rw e

  absent : b.stored ≡ none → (t : Bool) → (write_once flags && in_chip b) ≡ t
      → first_of ((7 when t) ∷ downgrade_tests flags (in_chip b)) ≡ first_of (set_held require_replay_protection flags b)
  unfolding set_held refuse_if
  absent e t w = rw (e, w)

pub returns : goal.returns
unfolding refuse_if
returns c =
    let flags = c.args.flags in
    let b = binding_given (given c.args.stored) c.args.tag_held in
    let chip = in_chip_given c.args.tag_held [] in
    let last = c.downgrade_status.ensures ∙ ap (λ (t : Bool). first_of (downgrade_tests flags t)) (sym chip) in
    elim c.match-stored.branch [
      | in-Some+in_ok-stored_status-in-Some w ↦
          went_on (stored_tests flags w.in-Some.stored.now) (downgrade_tests flags (in_chip b)) refl w.in_ok-stored_status-in-Some.ensures _ last
          ∙ known flags b w.in-Some.stored.now (ap given w.in-Some.is)
      | in-None+then-write_once+else-tag_held w ↦
          let asked : (write_once flags && in_chip b) ≡ false =
          rw (← w.write_once.ensures, w.if-write_once.true) (chip ∙ w.if-tag_held.false) in
          last ∙ absent flags b (ap given w.in-None.is) false asked
      | in-None+else-write_once w ↦
          let asked : (write_once flags && in_chip b) ≡ false = rw (← w.write_once.ensures, w.if-write_once.false) in
          last ∙ absent flags b (ap given w.in-None.is) false asked
    ]
