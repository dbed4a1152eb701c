-- What the functions of the code give, put in the definitions of `spec`: the tests of a call in the groups that a function makes, and what is written.
--   area_tests                        the tests of card and chip, and of the lengths that a call has besides
--   early, set_early .. iterator_early the tests that a call makes before it looks the name up; a set's own arguments (set_arguments)
--   finalize_early                    those of a finalize
--   option_of, given, binding          what a name has, as the code hands it on
--   given_if, binding_given            the same, where the code asks only whether it is there
--   authentic, fresh                 the tests for 11, and for 12 of a record with flag 8, pass
--   downgrade_tests, offset_tests      the test for 12 of a record without it, and the one for 14
--   stored_tests                      a set's tests of the record that the card holds
--   keyless_tests, keyed_tests         a get's tests of what the name has: those that need no key, and those of a record that is well formed
--   Judgement, judgement               a call's status, and the slots that the name has; what the code has of it
--   judged                           the same, once the tests before the look-up have passed
--   got_of                            what a get answers of a record that is well formed
--   record_written, record_erased      card and chip, with the slots that were found written and taken out
use Rattle.std.specs.Prelude.{Bool, false, cond, not, ◌&&◌, ◌||◌, List, [], ◌∷◌, ◌++◌, ℕ, eqb, leb, length, Some, None, option_copied}
use Rattle.std.specs.declared.option.Option as lent
use Rattle.std.specs.Borrow.{Bor}
use Rattle.std.proofs.Math.Option.{Option, none, some}
use Rattle.buffers.specs.Bytes.{is_some}
use Rattle.spec.specs.Status.{Test, ◌when◌, first_of, on_ok, Answer, answer_of}
use Rattle.spec.specs.Name.{Name, valid_name, valid_prefix}
use Rattle.spec.specs.Record.{write_once, require_integrity, require_replay_protection, valid_flags, max_data_size, data_size_of, flags_of, tag_of, well_formed, mac_ok, seal_record}
use Rattle.spec.specs.Area.{kv_format, rbp_format}
use Rattle.spec.specs.Request.{Binding}
use Rattle.spec.specs.Decisions.{key_sized, iv_sized, on_card, in_chip, record_of, tag_matches, downgraded, read_count, read_output}
use Rattle.spec.specs.Calls.{Areas, areas, area_lengths, area_damage}
use Rattle.spec.specs.Incremental.{finalize_tests}
use Rattle.spec.specs.declared.incremental.IncSetHandle.{IncSetHandle}
use Rattle.slots.specs.declared.areas.Found.{Found}
use Rattle.slots.specs.Found.{found_in, insert_at, erase_at}
use Rattle.store.specs.declared.judge.Held.{Held}
use Rattle.store.specs.declared.judge.Judged.{Judged}
use Rattle.store.specs.Answers.{status_of}

-- ---- the tests before the name is looked up

abbrev pub area_tests : List ℕ → List ℕ → Bool → List Test
area_tests kv rbp lengths = area_lengths (areas kv rbp) ++ ((1 when not lengths) ∷ area_damage (areas kv rbp))

-- card and chip, the lengths that a call has besides, damage, then the call's own arguments
abbrev pub early : List ℕ → List ℕ → List Test → List Test → List Test
early kv rbp lengths arguments = area_lengths (areas kv rbp) ++ (lengths ++ (area_damage (areas kv rbp) ++ arguments))

abbrev pub set_arguments : Name → ℕ → List ℕ → List Test
set_arguments name flags value = (3 when not (valid_name name)) ∷ (4 when not (valid_flags flags)) ∷ (5 when not (leb (length value) max_data_size)) ∷ []

abbrev pub set_early : List ℕ → List ℕ → List ℕ → Name → ℕ → List ℕ → List ℕ → List Test
set_early kv rbp key name flags iv value = early kv rbp ((1 when not (key_sized key)) ∷ (1 when not (iv_sized iv)) ∷ []) (set_arguments name flags value)

abbrev pub get_early : List ℕ → List ℕ → List ℕ → Name → List Test
get_early kv rbp key name = early kv rbp ((1 when not (key_sized key)) ∷ []) ((3 when not (valid_name name)) ∷ [])

abbrev pub remove_early : List ℕ → List ℕ → Name → List Test
remove_early kv rbp name = early kv rbp [] ((3 when not (valid_name name)) ∷ [])

abbrev pub iterator_early : List ℕ → List ℕ → List ℕ → List ℕ → List Test
iterator_early kv rbp prefix name_buf = early kv rbp ((1 when not (leb 64 (length name_buf))) ∷ []) ((3 when not (valid_prefix prefix)) ∷ [])

-- a finalize's tests of lengths and of its handle, which come before damage; a handle's IV has no other length than 8
abbrev pub finalize_early : List ℕ → List ℕ → List ℕ → IncSetHandle → List ℕ → List Test
finalize_early kv rbp key h staging = area_lengths (areas kv rbp) ++ ((1 when not (key_sized key)) ∷ finalize_tests h staging)

-- ---- what the name has

abbrev pub option_of : {A : Type 0} → lent.Option A → Option A
option_of None = none
option_of (Some x) = some x

abbrev pub given : lent.Option (Bor (List ℕ)) → Option (List ℕ)
given stored = option_of (option_copied stored)

abbrev pub binding : Held → Binding
binding held = record { stored = given held.stored; tag = option_of held.tag }

abbrev pub given_if : Bool → List ℕ → Option (List ℕ)
given_if held bytes = cond held (some bytes) none

-- the tests of these never ask for the entry's bytes
abbrev pub binding_given : Option (List ℕ) → Bool → Binding
binding_given stored tag_held = record { stored = stored; tag = given_if tag_held [] }

abbrev pub authentic : List ℕ → Name → List ℕ → Bool
authentic key name r = not (require_integrity (flags_of r) && not (mac_ok key name r))

abbrev pub fresh : Option (List ℕ) → List ℕ → Bool
fresh tag r = not (require_replay_protection (flags_of r) && not (tag_matches tag r))

-- 02, No. 4: of a stored record, and of what a set is to store
abbrev pub downgrade_tests : ℕ → Bool → List Test
downgrade_tests flags tag_held = (12 when downgraded require_replay_protection flags tag_held) ∷ []

abbrev pub offset_tests : ℕ → List ℕ → List Test
offset_tests offset r = (14 when not (leb offset (data_size_of r))) ∷ []

abbrev pub keyless_tests : Binding → List Test
keyless_tests b = (12 when not (on_card b) && in_chip b) ∷ (6 when not (on_card b)) ∷ (8 when not (well_formed (record_of b.stored))) ∷ []

-- a set's tests of the record that the card holds
abbrev pub stored_tests : ℕ → List ℕ → List Test
stored_tests flags r = (8 when not (well_formed r)) ∷ (7 when write_once (flags_of r) || write_once flags) ∷ (9 when not (eqb flags (flags_of r))) ∷ []

abbrev pub keyed_tests : List ℕ → Name → ℕ → List ℕ → Option (List ℕ) → List Test
keyed_tests key name offset r tag =
    (11 when require_integrity (flags_of r) && not (mac_ok key name r))
    ∷ (12 when require_replay_protection (flags_of r) && not (tag_matches tag r))
    ∷ (downgrade_tests (flags_of r) (is_some tag) ++ offset_tests offset r)

-- ---- what is decided

abbrev pub nowhere : Found
nowhere = record { at = 0; held = false }

pub record Judgement : Type 0 where
  pub status : ℕ
  pub found : Found
  pub entry : Found

abbrev pub judgement : {A : Type 0} → Judged A → Judgement
judgement j = record { status = status_of j.verdict; found = j.found; entry = j.entry }

abbrev pub judged : List ℕ → List ℕ → Name → List Test → List Test → Judgement
judged kv rbp name first tests = record {
  status = first_of (first ++ tests);
  found = on_ok (first_of first) (found_in kv_format kv name) nowhere;
  entry = on_ok (first_of first) (found_in rbp_format rbp name) nowhere;
}

-- what a get of a well formed record gives
abbrev pub got_of : List ℕ → Name → ℕ → List ℕ → Option (List ℕ) → List ℕ → Answer
got_of key name offset r tag output =
    answer_of (first_of (keyed_tests key name offset r tag)) (read_count offset output r ∷ []) (read_output key name offset output r) output

-- ---- what is written

abbrev pub record_written : List ℕ → List ℕ → Found → Found → List ℕ → Name → ℕ → List ℕ → List ℕ → Areas
record_written kv rbp found entry key name flags iv value =
    let r = seal_record key name flags iv value in
    areas (insert_at kv_format kv found name r) (cond (require_replay_protection flags) (insert_at rbp_format rbp entry name (tag_of r)) rbp)

abbrev pub record_erased : List ℕ → List ℕ → Found → Found → ℕ → Areas
record_erased kv rbp found entry flags =
    areas (erase_at kv_format kv found) (cond (require_replay_protection flags && entry.held) (erase_at rbp_format rbp entry) rbp)
