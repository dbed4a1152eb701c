-- The exact condition for a remove's 0, and what it clears.
use mathlib.Core.Path.{◌≡◌, refl, ◌∙◌}
use mathlib.Core.Bool.{true, false, cond, not}
use mathlib.Core.List.{List, []}
use Prim.Native.Nat.{ℕ}
use Rattle.buffers.specs.Bytes.{is_some}
use Rattle.spec.specs.Status.{ok}
use Rattle.spec.specs.Name.{valid_name}
use Rattle.spec.specs.Record.{require_replay_protection, flags_of, well_formed}
use Rattle.spec.specs.Area.{kv_format, rbp_format, lookup, erase_slot, edit_area, clear, keep}
use Rattle.spec.specs.Request.{status_of}
use Rattle.spec.specs.Decisions.{remove_held, remove_tests, remove_effect, remove_request}
use Rattle.spec.specs.Calls.{areas, binding_of, store_world, store_remove}
use Rattle.spec.specs.Demand2.{done, Removable, Clears, RemoveExact}
use Rattle.buffers.proofs.Split.{split, split_o, clash, not-false-is}
use Rattle.spec.proofs.Slot.{kv-laws, rbp-laws}
use Rattle.spec.proofs.Placed.{erased, not-erased}
use Rattle.spec.proofs.World.{run-done, kv-sound-of, rbp-sound-of, accepted, acceptable}

module _ (kv rbp name : List ℕ) where
  abbrev pub remove_status : ℕ
  remove_status = status_of store_world (areas kv rbp) (remove_request require_replay_protection name)

  removable : remove_status ≡ ok → Removable kv rbp name
  unfolding remove_held
  removable h =
      let a = accepted (areas kv rbp) [] (remove_tests name (binding_of kv rbp name)) refl h in
      let t = a.rest.1 in
      split_o (lookup kv_format kv name) (λ e. clash (not (is_some (lookup kv_format kv name))) (rw e) t.0) (λ r e.
      let p = rw e at t.1 in
      record {
        undamaged = a.undamaged;
        name_valid = not-false-is (valid_name name) a.rest.0;
        r = r;
        found = e;
        valid = not-false-is (well_formed r) p.0;
        not_write_once = p.1.0;
      })

  module _ (h : Removable kv rbp name) where
    removable-ok : remove_status ≡ ok
    unfolding remove_held
    removable-ok = acceptable (areas kv rbp) [] (remove_tests name (binding_of kv rbp name)) (record {
      undamaged = h.undamaged;
      lengths = tt;
      rest = (rw h.name_valid, rw h.found (refl, (rw h.valid, (h.not_write_once, tt))));
    })

    pub remove-done : store_remove kv rbp name
        ≡ done (areas (erase_slot kv_format kv name) (edit_area rbp_format rbp name (cond (require_replay_protection (flags_of h.r)) clear keep))) [] []
    unfolding store_remove remove_effect
    remove-done = run-done store_world (areas kv rbp) (remove_request require_replay_protection name) removable-ok ∙ rw h.found

    rbp-cleared : require_replay_protection (flags_of h.r) ≡ true → (store_remove kv rbp name).after.rbp ≡ erase_slot rbp_format rbp name
    rbp-cleared e = rw (remove-done, e)

    rbp-unchanged : require_replay_protection (flags_of h.r) ≡ false → (store_remove kv rbp name).after.rbp ≡ rbp
    rbp-unchanged e = rw (remove-done, e)

    clears : Clears kv rbp name h.r (store_remove kv rbp name)
    clears =
        let u = h.undamaged in
        record {
          answer = rw remove-done;
          slot = rw remove-done (erased kv_format kv-laws kv name (kv-sound-of u) h.r h.found);
          rbp_slot = λ e t k. rw (rbp-cleared e) (erased rbp_format rbp-laws rbp name (rbp-sound-of u) t k);
          rbp_absent = λ k. split (require_replay_protection (flags_of h.r))
              (λ e. rbp-cleared e ∙ not-erased rbp_format rbp name u.rbp_sized k)
              (λ e. rbp-unchanged e);
          rbp_kept = λ e. rbp-unchanged e;
        }

pub remove_exact : RemoveExact
unfolding store_remove
remove_exact kv rbp name = record { condition = (removable kv rbp name, removable-ok kv rbp name); gives = clears kv rbp name }
