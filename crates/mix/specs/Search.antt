-- What the functions of the search give, slot by slot.
--   Tried, try_record      one record: its number, and its session
--   one_more               the records of the session that were seen, and one more at a slot
--   Seen, try_slot         a slot: a number that ends the search, or what was seen with that slot
--   scan                   the slots one after the other
--   search_status          the number that the search then gives
use Rattle.std.specs.Prelude.{Bool, true, false, cond, not, List, [], ◌∷◌, ℕ, suc, eqb}
use Rattle.spec.specs.Status.{ok, is_ok, ◌when◌, first_of, on_ok}
use Rattle.spec.specs.Area.{kv_format, slot_name}
use Rattle.spec.specs.Calls.{slot_has_prefix}
use Rattle.spec.specs.Name.{Name}
use Rattle.mix.specs.Mix.{session_at}
use Rattle.mix.specs.Calls.{mix_prefix, mix_data, record_tests}
use Rattle.mix.specs.declared.find.Matches.{Matches}
use Rattle.mix.specs.declared.find.Matches.TheVariants.{Zero, One, More}

-- a refusal has session number 0
pub record Tried : Type 0 where
  pub status : ℕ
  pub session_id : ℕ

-- after a refusal nothing is seen
pub record Seen : Type 0 where
  pub status : ℕ
  pub seen : Matches

abbrev pub one_more : Matches → ℕ → Matches
one_more Zero at = One at
one_more (One first) at = More
one_more More at = More

abbrev pub is_zero : Matches → Bool
is_zero Zero = true
is_zero (One at) = false
is_zero More = false

abbrev pub is_more : Matches → Bool
is_more Zero = false
is_more (One at) = false
is_more More = true

abbrev pub seen_on : Matches → Seen
seen_on seen = record { status = ok; seen = seen }

unfoldable pub advanced : Matches → Tried → ℕ → ℕ → Seen
advanced seen t session i =
    cond (is_ok t.status) (seen_on (cond (eqb t.session_id session) (one_more seen i) seen)) (record { status = t.status; seen = Zero })

-- 21 for two or more, 6 for none
unfoldable pub search_status : Seen → ℕ
search_status s = first_of ((s.status when not (is_ok s.status)) ∷ (21 when is_more s.seen) ∷ (6 when is_zero s.seen) ∷ [])

module _ (kv rbp key : List ℕ) where
  unfoldable pub try_record : Name → Tried
  try_record name =
      let status = first_of (record_tests kv rbp key name) in
      record { status = status; session_id = on_ok status (session_at (mix_data kv rbp key name)) 0 }

  unfoldable pub try_slot : ℕ → ℕ → List ℕ → Matches → Seen
  try_slot session i slot seen =
      cond (slot_has_prefix mix_prefix slot) (advanced seen (try_record (slot_name kv_format slot)) session i) (seen_on seen)

  -- the first refusal ends it
  abbrev pub scan : ℕ → ℕ → List (List ℕ) → Matches → Seen
  scan session i [] seen = seen_on seen
  scan session i (slot ∷ rest) seen =
      cond (is_ok (try_slot session i slot seen).status) (scan session (suc i) rest (try_slot session i slot seen).seen) (try_slot session i slot seen)
