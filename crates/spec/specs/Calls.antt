-- 01's calls, as total functions of what is lent: the answer, and card and chip after it.
--   Areas, store_world                                card and chip as lent, and as what keeps the names
--   store_set .. store_remove                         the calls on a name
--   store_reset                                       reset
--   next_match, iterator_tests, store_iterator_next   01: "walk"
use Rattle.std.specs.Prelude.{Bool, false, not, List, [], ◌∷◌, ◌++◌, ℕ, suc, ◌+◌, leb, ltb, length, get_or, take, drop}
use Rattle.std.proofs.Math.Option.{Option, none, some}
use Rattle.buffers.specs.Bytes.{bytes_eq, zeros}
use Rattle.spec.specs.Status.{Test, ◌when◌, first_of, on_ok, Answer, answer_of}
use Rattle.spec.specs.Name.{Name, valid_prefix}
use Rattle.spec.specs.Record.{require_replay_protection}
use Rattle.spec.specs.Slots.{first_index}
use Rattle.spec.specs.Area.{kv_format, rbp_format, slots, slot_holder, sized, intact, lookup, has_space, edit_area}
use Rattle.spec.specs.Interleaving.{Outcome}
use Rattle.spec.specs.Request.{Binding, Room, World, run}
use Rattle.spec.specs.Decisions.{set_request, get_request, get_info_request, remove_request}

pub record Areas : Type 0 where
  pub kv : List ℕ
  pub rbp : List ℕ

abbrev pub areas : List ℕ → List ℕ → Areas
areas kv rbp = record { kv = kv; rbp = rbp }

-- 01: "length wrong: card, chip"; "card or chip damaged"
abbrev pub area_lengths : Areas → List Test
area_lengths s = (1 when not (sized kv_format s.kv)) ∷ (1 when not (sized rbp_format s.rbp)) ∷ []

abbrev pub area_damage : Areas → List Test
area_damage s = (2 when not (intact kv_format s.kv)) ∷ (2 when not (intact rbp_format s.rbp)) ∷ []

-- what a name has on the card and in the chip
abbrev pub binding_of : List ℕ → List ℕ → Name → Binding
binding_of kv rbp name = record { stored = lookup kv_format kv name; tag = lookup rbp_format rbp name }

abbrev pub room_of : List ℕ → List ℕ → Room
room_of kv rbp = record { kv = has_space kv_format kv; rbp = has_space rbp_format rbp }

abbrev pub store_world : World Areas
store_world = record {
  lengths = area_lengths;
  damage = area_damage;
  binding = λ s name. binding_of s.kv s.rbp name;
  room = λ s. room_of s.kv s.rbp;
  edit = λ s name e. areas (edit_area kv_format s.kv name e.kv) (edit_area rbp_format s.rbp name e.rbp);
}

unfoldable pub store_set : List ℕ → List ℕ → List ℕ → Name → ℕ → List ℕ → List ℕ → Outcome Areas Answer
store_set kv rbp key name flags iv value = run store_world (areas kv rbp) (set_request require_replay_protection key name flags iv value)

unfoldable pub store_get : List ℕ → List ℕ → List ℕ → Name → ℕ → List ℕ → Outcome Areas Answer
store_get kv rbp key name offset output = run store_world (areas kv rbp) (get_request require_replay_protection key name offset output)

unfoldable pub store_get_info : List ℕ → List ℕ → List ℕ → Name → Outcome Areas Answer
store_get_info kv rbp key name = run store_world (areas kv rbp) (get_info_request require_replay_protection key name)

unfoldable pub store_remove : List ℕ → List ℕ → Name → Outcome Areas Answer
store_remove kv rbp name = run store_world (areas kv rbp) (remove_request require_replay_protection name)

-- "1 only. Done: both buffers are all zero."
unfoldable pub store_reset : List ℕ → List ℕ → Outcome Areas Answer
store_reset kv rbp =
    let status = first_of (area_lengths (areas kv rbp)) in
    record { answer = answer_of status [] [] []; after = on_ok status (areas (zeros (length kv)) (zeros (length rbp))) (areas kv rbp) }

-- ---- 01: "walk"

abbrev pub has_prefix : List ℕ → Name → Bool
has_prefix prefix name = bytes_eq prefix (take (length prefix) name)

abbrev pub name_has_prefix : List ℕ → Option Name → Bool
name_has_prefix prefix none = false
name_has_prefix prefix (some name) = has_prefix prefix name

abbrev pub slot_has_prefix : List ℕ → List ℕ → Bool
slot_has_prefix prefix slot = name_has_prefix prefix (slot_holder kv_format slot)

abbrev pub name_or : Option Name → Name
name_or none = []
name_or (some name) = name

-- the first slot with the prefix, from the start slot on; where there is none, how many slots there are, or the start slot if that is more
unfoldable pub next_match : List ℕ → List ℕ → ℕ → ℕ
next_match kv prefix start = start + first_index (slot_has_prefix prefix) (drop start (slots kv_format kv))

-- "1, 2, 3, then 6 if no used place from the start place on has the prefix"
abbrev pub iterator_tests : List ℕ → List ℕ → List ℕ → ℕ → List ℕ → List Test
iterator_tests kv rbp prefix start name_buf =
    area_lengths (areas kv rbp)
    ++ ((1 when not (leb 64 (length name_buf))) ∷ (area_damage (areas kv rbp)
    ++ ((3 when not (valid_prefix prefix)) ∷ (6 when not (ltb (next_match kv prefix start) (length (slots kv_format kv)))) ∷ [])))

-- "the first such name at the front of the name buffer, the rest as before; its length; and the place after it"
unfoldable pub store_iterator_next : List ℕ → List ℕ → List ℕ → ℕ → List ℕ → Outcome Areas Answer
store_iterator_next kv rbp prefix start name_buf =
    let at = next_match kv prefix start in
    let name = name_or (slot_holder kv_format (get_or (slots kv_format kv) at [])) in
    let status = first_of (iterator_tests kv rbp prefix start name_buf) in
    record { answer = answer_of status (length name ∷ suc at ∷ []) (name ++ drop (length name) name_buf) name_buf; after = areas kv rbp }
