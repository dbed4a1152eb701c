-- Which number a call answers with that is not done.
use mathlib.Core.Path.{◌≡◌, refl}
use mathlib.Core.Logic.{◌≢◌}
use mathlib.Core.Bool.{Bool, true, false, not, ◌&&◌, ◌||◌}
use mathlib.Core.List.{List, [], ◌∷◌, ◌++◌}
use Prim.Native.Nat.{ℕ}
use lib.Dec.{eqb, leb, ltb}
use lib.ListN.{length}
use Rattle.buffers.specs.Bytes.{is_some}
use Rattle.spec.specs.Status.{Test, ◌when◌, refuse_if, first_of}
use Rattle.spec.specs.Name.{valid_name, valid_prefix}
use Rattle.spec.specs.Record.{write_once, require_integrity, require_replay_protection, valid_flags, data_size_of, flags_of, well_formed, mac_ok}
use Rattle.spec.specs.Area.{kv_format, rbp_format, slots, sized, intact, lookup, has_space}
use Rattle.spec.specs.Decisions.{tag_matches, set_held, get_held, remove_held}
use Rattle.spec.specs.Calls.{store_set, store_get, store_get_info, store_remove, store_reset, store_iterator_next, next_match}
use Rattle.spec.specs.Demand2.{Refusals}

-- where the last tests can only give n, and the status is not 0, it is as if the last test always gave n
ends : (l rest : List Test) (n : ℕ) → (first_of rest ≢ 0 → first_of rest ≡ n) → first_of (l ++ rest) ≢ 0 → first_of (l ++ rest) ≡ first_of (l ++ (n when true) ∷ [])
unfolding refuse_if
ends [] rest n e h = e h
ends ((m when true) ∷ l) rest n e h = refl
ends ((m when false) ∷ l) rest n e h = ends l rest n e h

one : (n : ℕ) (t : Bool) → first_of ((n when t) ∷ []) ≢ 0 → first_of ((n when t) ∷ []) ≡ n
unfolding refuse_if
one n true h = refl
one n false h = absurd (h refl)

two : (n : ℕ) (t u : Bool) → first_of ((n when t) ∷ (n when u) ∷ []) ≢ 0 → first_of ((n when t) ∷ (n when u) ∷ []) ≡ n
unfolding refuse_if
two n true u h = refl
two n false u h = one n u h

module _ (kv rbp : List ℕ) where
  -- 1, 2, then the call's own tests
  abbrev guarded : List Test → List Test → List Test
  guarded lengths tests = (1 when not (sized kv_format kv)) ∷ (1 when not (sized rbp_format rbp)) ∷ (lengths
      ++ ((2 when not (intact kv_format kv)) ∷ (2 when not (intact rbp_format rbp)) ∷ tests))

module _ (kv rbp key name : List ℕ) (flags : ℕ) (iv value : List ℕ) where
  abbrev set_own : List Test
  set_own = (1 when not (eqb (length key) 16)) ∷ (1 when not (eqb (length iv) 8)) ∷ []

  abbrev chip : Bool
  chip = require_replay_protection flags && (not (is_some (lookup rbp_format rbp name)) && not (has_space rbp_format rbp))

  abbrev set_arguments : List Test → List Test
  set_arguments rest = guarded kv rbp set_own ((3 when not (valid_name name)) ∷ (4 when not (valid_flags flags)) ∷ (5 when not (leb (length value) 480)) ∷ rest)

pub refusals : (kv rbp key name : List ℕ) (flags offset start : ℕ) (iv value output prefix name_buf : List ℕ)
    → Refusals kv rbp key name flags offset start iv value output prefix name_buf
unfolding store_set store_get store_get_info store_remove store_reset store_iterator_next set_held get_held remove_held refuse_if
refusals kv rbp key name flags offset start iv value output prefix name_buf =
    let set = set_arguments kv rbp key name flags iv value in
    let keyed = guarded kv rbp ((1 when not (eqb (length key) 16)) ∷ []) in
    let named : Test = 3 when not (valid_name name) in
    let t = lookup rbp_format rbp name in
    let room = chip kv rbp key name flags iv value in
    let downgrade : Test = 12 when not (require_replay_protection flags) && is_some t in
    record {
      set_known = λ r e. rw e (ends
          (set ((8 when not (well_formed r)) ∷ (7 when write_once (flags_of r) || write_once flags) ∷ (9 when not (eqb flags (flags_of r))) ∷ downgrade ∷ []))
          ((10 when room) ∷ []) 10 (one 10 room));
      set_new = λ e. rw e (ends
          (set ((7 when write_once flags && is_some t) ∷ downgrade ∷ []))
          ((10 when not (has_space kv_format kv)) ∷ (10 when room) ∷ []) 10 (two 10 (not (has_space kv_format kv)) room));
      get_known = λ r e. rw e (ends
          (keyed (
          named ∷ (8 when not (well_formed r)) ∷ (11 when require_integrity (flags_of r) && not (mac_ok key name r))
          ∷ (12 when require_replay_protection (flags_of r) && not (tag_matches t r))
          ∷ (12 when not (require_replay_protection (flags_of r)) && is_some t) ∷ []))
          ((14 when not (leb offset (data_size_of r))) ∷ []) 14 (one 14 (not (leb offset (data_size_of r)))));
      get_absent = λ e h. rw e;
      info = refl;
      remove_known = λ r e. rw e (ends
          (guarded kv rbp [] (named ∷ (8 when not (well_formed r)) ∷ []))
          ((7 when write_once (flags_of r)) ∷ []) 7 (one 7 (write_once (flags_of r))));
      remove_absent = λ e h. rw e;
      reset = two 1 (not (sized kv_format kv)) (not (sized rbp_format rbp));
      walk =
          let none = not (ltb (next_match kv prefix start) (length (slots kv_format kv))) in
          ends (guarded kv rbp ((1 when not (leb 64 (length name_buf))) ∷ []) ((3 when not (valid_prefix prefix)) ∷ [])) ((6 when none) ∷ []) 6 (one 6 none);
    }
