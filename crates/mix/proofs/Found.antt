-- A find: from the guard, the search and the get to what it answers. Assumes nothing.
use mathlib.Core.Path.{◌≡◌, refl, sym, ap, ◌∙◌}
use mathlib.Core.Logic.{◌≢◌}
use mathlib.Core.Bool.{true}
use mathlib.Core.List.{List, [], ◌∷◌, ◌++◌, map, flatten}
use Prim.Native.Nat.{ℕ, ◌≤◌, ◌<◌}
use native.Mathlib.Omega.{arith}
use lib.Dec.{eqb, leb}
use lib.ListN.{length, get_or, drop}
use lib.Seq.{take-append_seam}
use borrow.Author.Tests.{le-leb}
use Rattle.buffers.specs.Bytes.{zeros}
use Rattle.spec.specs.Status.{ok, refuse_if, Test, ◌when◌, first_of, on_ok, Answer, buffer_answer, bytes_given}
use Rattle.spec.specs.Area.{kv_format, slot_used, slot_name, slot_count, slots}
use Rattle.spec.specs.Decisions.{key_sized}
use Rattle.spec.specs.Calls.{store_get}
use Rattle.spec.proofs.Status.{stops, passes, by-status, on-refused}
use Rattle.store.specs.Parts.{area_tests}
use Rattle.mix.specs.Mix.{MixAnswer, mix_valid, mix_of, zero_mix, mix_buf_sized, decode_mix}
use Rattle.mix.specs.Calls.{first_name, mix_names, record_tests, holders, find_tests, found_data, find_encoded_mix, find_mix_by_session}
use Rattle.mix.specs.Search.{Seen, seen_on, scan, search_status}
use Rattle.mix.specs.declared.find.Matches.TheVariants.{Zero, One}
use Rattle.mix.proofs.Scan.{record_status, scan-status, scan-found}
use Rattle.mix.proofs.Tried.{sane}
use Rattle.mix.proofs.MixLaws.{decode-done}
use Rattle.mix.proofs.Read.{read-into, valid-length}
use Rattle.mix.proofs.FindLaws.{data_valid, found-accepted}

module _ (kv rbp key : List ℕ) (session : ℕ) where
  abbrev lasts : List Test
  lasts = (21 when leb 2 (length (holders kv rbp key session))) ∷ (6 when eqb (length (holders kv rbp key session)) 0) ∷ []

  abbrev rest : List Test
  rest = flatten (map (record_tests kv rbp key) (mix_names kv)) ++ lasts

  abbrev guard : List Test
  guard = area_tests kv rbp (key_sized key)

  abbrev search : Seen
  search = scan kv rbp key session 0 (slots kv_format kv) Zero

  module _ (buf : List ℕ) (long : 153 ≤ length buf) where
    abbrev status : ℕ
    status = first_of (find_tests kv rbp key (mix_buf_sized buf) session)

    status_is : status ≡ first_of (guard ++ rest)
    unfolding find_tests refuse_if
    status_is = rw (le-leb 153 (length buf) long)

    pub guard_refuses : (n : ℕ) → n ≡ first_of guard → n ≢ ok → status ≡ n
    guard_refuses n e h = status_is ∙ stops guard rest (λ z. h (e ∙ z)) ∙ sym e

    -- where all has passed, so has the guard
    pub past-guard : status ≡ ok → status ≡ first_of rest
    past-guard h = by-status (first_of guard) (λ z. status_is ∙ passes guard rest refl z) (λ z. absurd (z (sym (stops guard rest z) ∙ sym status_is ∙ h)))

    module _ (g : first_of guard ≡ ok) where
      searched : status ≡ search_status search
      searched = status_is ∙ passes guard rest refl g ∙ sym (scan-status kv rbp key session (sane kv rbp key g).kv_intact)

      -- a search that is refused, and one that finds none or more
      pub search-decides : (s : Seen) → s ≡ search → status ≡ search_status s
      search-decides s e = searched ∙ sym (ap search_status e)

  -- a search that ends well: the slot that it found, and the record there
  module _ (g : first_of guard ≡ ok) (at : ℕ) (e : seen_on (One at) ≡ search) where
    pub slot-found : (at < slot_count kv_format kv) × (slot_used kv_format (get_or (slots kv_format kv) at []) ≡ true)
        × (slot_name kv_format (get_or (slots kv_format kv) at []) ≡ first_name (holders kv rbp key session))
    slot-found = scan-found kv rbp key session (sane kv rbp key g).kv_intact at (sym e)

    done : search_status search ≡ ok
    unfolding search_status refuse_if
    done = rw (sym e)

    pub record_found : record_status kv rbp key (first_name (holders kv rbp key session)) ≡ ok
    record_found = found-accepted kv rbp key session (sym (scan-status kv rbp key session (sane kv rbp key g).kv_intact) ∙ done)

    pub given : (buf name : List ℕ) → 153 ≤ length buf → name ≡ slot_name kv_format (get_or (slots kv_format kv) at [])
        → (store_get kv rbp key name 0 buf).answer ≡ find_encoded_mix kv rbp key session buf
    unfolding find_encoded_mix
    given buf name long q =
        let status-ok = searched buf long g ∙ done in
        ap (λ (x : List ℕ). (store_get kv rbp key x 0 buf).answer) (q ∙ slot-found.2)
        ∙ read-into kv rbp key (first_name (holders kv rbp key session)) buf record_found long
        ∙ sym (ap (λ (k : ℕ). buffer_answer k (found_data kv rbp key session) buf) status-ok)

  -- the mix, from the bytes
  abbrev found : List ℕ
  found = found_data kv rbp key session

  module _ (g : Answer) (e : g ≡ find_encoded_mix kv rbp key session (zeros 153)) where
    pub not_found : g.status ≢ ok → record { status = g.status; mix = zero_mix } ≡ find_mix_by_session kv rbp key session
    unfolding find_mix_by_session find_encoded_mix buffer_answer
    not_found h =
        let n = first_of (find_tests kv rbp key (mix_buf_sized (zeros 153)) session) in
        let same : g.status ≡ n = ap (λ (a : Answer). a.status) e in
        rw (sym same, on-refused g.status (mix_of (found_data kv rbp key session)) zero_mix h)

    module _ (h : g.status ≡ ok) where
      all-passed : first_of (find_tests kv rbp key (mix_buf_sized (zeros 153)) session) ≡ ok
      unfolding find_encoded_mix buffer_answer
      all-passed = sym (ap (λ (a : Answer). a.status) e) ∙ h

      holds : g ≡ record { status = ok; numbers = length found ∷ []; output = found ++ drop (length found) (zeros 153) }
      unfolding find_encoded_mix buffer_answer on_ok
      holds = e ∙ rw all-passed

      valid : mix_valid found ≡ true
      unfolding find_mix_by_session
      valid = data_valid kv rbp key (first_name (holders kv rbp key session))
          (found-accepted kv rbp key session (sym (past-guard (zeros 153) (omega arith) all-passed) ∙ all-passed))

      bytes : bytes_given g ≡ found
      bytes = ap bytes_given holds ∙ take-append_seam found (drop (length found) (zeros 153))

      pub found-fits : get_or g.numbers 0 0 ≤ 153
      found-fits = omega (arith, ap (λ (a : Answer). get_or a.numbers 0 0) holds, valid-length found valid)

      pub found-is : (r : MixAnswer) → r ≡ decode_mix (bytes_given g) → r ≡ find_mix_by_session kv rbp key session
      unfolding find_mix_by_session on_ok
      found-is r q = q ∙ ap decode_mix bytes ∙ decode-done found valid ∙ rw all-passed
