-- 02, No. 5: keeping a mix and reconnecting, as total functions of what is lent.
--   mix_prefix, mix_named              02: a "record named "mix/...""
--   store_if_valid, store_mix           02: "keeping"
--   store_encoded_mix                  the same of a mix that is given by its bytes
--   mix_names, mix_record, mix_data     the names of mixes on the card, in slot order; what a get of one gives, and its bytes
--   record_tests, holders, find_tests  the tests of the search
--   find_encoded_mix, find_mix_by_session 02: "reconnecting": the record's bytes, and the mix
use Rattle.std.specs.Prelude.{Bool, cond, not, ℕ, eqb, leb, length}
use mathlib.Core.List.{List, [], ◌∷◌, ◌++◌, map, flatten}
use Rattle.buffers.specs.Bytes.{zeros}
use Rattle.spec.specs.Status.{is_ok, Test, ◌when◌, first_of, on_ok, Answer, buffer_answer, bytes_given}
use Rattle.spec.specs.Name.{Name}
use Rattle.spec.specs.Area.{kv_format, names}
use Rattle.spec.specs.Interleaving.{Outcome}
use Rattle.spec.specs.Decisions.{key_sized}
use Rattle.spec.specs.Calls.{Areas, areas, area_lengths, area_damage, store_set, store_get, has_prefix}
use Rattle.mix.specs.Mix.{MixAnswer, mix_in_range, mix_bytes, session_at, mix_valid, mix_of, zero_mix, mix_buf_sized}
use Rattle.mix.specs.declared.monitor.MonitorMix.{MonitorMix}

-- "mix/"
abbrev pub mix_prefix : List ℕ
mix_prefix = 0x6d ∷ 0x69 ∷ 0x78 ∷ 0x2f ∷ []

abbrev pub mix_named : Name → Bool
mix_named name = has_prefix mix_prefix name

-- ---- "Keeping gives 20, then 3 for a name without "mix/" in front, then as set."

unfoldable pub store_if_valid : List ℕ → List ℕ → List ℕ → Name → ℕ → List ℕ → Bool → List ℕ → Outcome Areas Answer
store_if_valid kv rbp key name flags iv valid b =
    let status = first_of ((20 when not valid) ∷ (3 when not (mix_named name)) ∷ []) in
    on_ok status (store_set kv rbp key name flags iv b)
    (record { answer = record { status = status; numbers = []; output = [] }; after = areas kv rbp })

unfoldable pub store_mix : List ℕ → List ℕ → List ℕ → Name → ℕ → List ℕ → MonitorMix → Outcome Areas Answer
store_mix kv rbp key name flags iv m = store_if_valid kv rbp key name flags iv (mix_in_range m) (mix_bytes m)

unfoldable pub store_encoded_mix : List ℕ → List ℕ → List ℕ → Name → ℕ → List ℕ → List ℕ → Outcome Areas Answer
store_encoded_mix kv rbp key name flags iv b = store_if_valid kv rbp key name flags iv (mix_valid b) b

-- ---- reconnecting

abbrev pub selected : (Name → Bool) → List Name → List Name
selected t [] = []
selected t (n ∷ l) = cond (t n) (n ∷ selected t l) (selected t l)

abbrev pub first_name : List Name → Name
first_name [] = []
first_name (n ∷ l) = n

abbrev pub mix_names : List ℕ → List Name
mix_names kv = selected mix_named (names kv_format kv)

module _ (kv rbp key : List ℕ) where
  -- no record has more than 480 bytes of data
  unfoldable pub mix_record : Name → Answer
  mix_record name = (store_get kv rbp key name 0 (zeros 480)).answer

  unfoldable pub mix_data : Name → List ℕ
  mix_data name = bytes_given (mix_record name)

  -- "where get refuses any, or one holds bad bytes"
  abbrev pub record_tests : Name → List Test
  record_tests name = ((mix_record name).status when not (is_ok (mix_record name).status)) ∷ (20 when not (mix_valid (mix_data name))) ∷ []

  -- the names of the records that hold the session
  abbrev pub holders : ℕ → List Name
  holders session = selected (λ name. eqb (session_at (mix_data name)) session) (mix_names kv)

  -- "All such records are tried: where get refuses any, or one holds bad bytes, the answer is that of the lowest such place, after 1 and 2, before 21 and 6."
  unfoldable pub find_tests : Bool → ℕ → List Test
  find_tests lengths session =
      area_lengths (areas kv rbp)
      ++ ((1 when not (key_sized key)) ∷ (1 when not lengths) ∷ (area_damage (areas kv rbp)
      ++ (flatten (map record_tests (mix_names kv))
      ++ ((21 when leb 2 (length (holders session))) ∷ (6 when eqb (length (holders session)) 0) ∷ []))))

  -- the bytes of the one record
  abbrev pub found_data : ℕ → List ℕ
  found_data session = mix_data (first_name (holders session))

  unfoldable pub find_encoded_mix : ℕ → List ℕ → Answer
  find_encoded_mix session mix_buf = buffer_answer (first_of (find_tests (mix_buf_sized mix_buf) session)) (found_data session) mix_buf

  unfoldable pub find_mix_by_session : ℕ → MixAnswer
  find_mix_by_session session =
      let status = first_of (find_tests (mix_buf_sized (zeros 153)) session) in
      record { status = status; mix = on_ok status (mix_of (found_data session)) zero_mix }
