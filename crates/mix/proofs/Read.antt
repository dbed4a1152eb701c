-- What a get of a mix's record gives: its plaintext, whole, into 480 bytes and into a mix buffer. Assumes nothing.
use mathlib.Core.Path.{◌≡◌, ap}
use mathlib.Core.Logic.{◌≢◌}
use mathlib.Core.Bool.{true, false}
use mathlib.Core.List.{List}
use Prim.Native.Nat.{ℕ, ◌≤◌}
use native.Mathlib.Omega.{arith}
use borrow.Author.Tests.{eqb-true}
use lib.ListN.{length, get_or}
use Rattle.buffers.specs.Bytes.{zeros}
use Rattle.spec.specs.Status.{ok, first_of, on_ok, buffer_answer}
use Rattle.spec.specs.Calls.{store_get}
use Rattle.spec.specs.Demand2.{Readable, opened}
use Rattle.buffers.proofs.Split.{split, not-false-is}
use Rattle.spec.proofs.Get.{get_exact}
use Rattle.spec.proofs.Whole.{count-within as get-within, get-whole, whole-given}
use Rattle.mix.specs.Mix.{MixAnswer, mix_valid, mix_of, decode_mix, session_at}
use Rattle.mix.specs.Calls.{mix_record, mix_data, record_tests}
use Rattle.mix.specs.Laws.{session_in}
use Rattle.mix.proofs.MixLaws.{decode-done, valid-decode}
use Rattle.mix.proofs.Parts.{valid-parts}
use Rattle.mix.proofs.Scan.{record-passed}

-- ---- bytes that are a mix's

pub valid-length : (b : List ℕ) → mix_valid b ≡ true → length b ≤ 153
valid-length b h = let p = valid-parts b h in omega (arith, p.small, p.whole)

pub session-valid : (b : List ℕ) → mix_valid b ≡ true → session_in b ≡ session_at b
unfolding mix_of
session-valid b h = ap (λ (a : MixAnswer). a.mix.session_id) (decode-done b h)

pub not_decoded_lem : (b : List ℕ) → (decode_mix b).status ≢ ok → mix_valid b ≡ false
not_decoded_lem b h = split (mix_valid b) (λ e. absurd (h (valid-decode b e))) (λ e. e)

-- ---- the record

pub count-within : (kv rbp key name : List ℕ) → get_or (mix_record kv rbp key name).numbers 0 0 ≤ 480
unfolding mix_record
count-within kv rbp key name = get-within kv rbp key name 0 (zeros 480)

module _ (kv rbp key name : List ℕ) where
  pub got-readable : (mix_record kv rbp key name).status ≡ ok → Readable kv rbp key name 0
  unfolding mix_record
  got-readable h = (get_exact kv rbp key name 0 (zeros 480)).condition.0 h

  pub readable-got : Readable kv rbp key name 0 → (mix_record kv rbp key name).status ≡ ok
  unfolding mix_record
  readable-got h = (get_exact kv rbp key name 0 (zeros 480)).condition.1 h

  pub data_opened : (h : Readable kv rbp key name 0) → mix_data kv rbp key name ≡ opened key name h.r
  unfolding mix_data mix_record
  data_opened h = whole-given kv rbp key name h

  pub read-into : (buf : List ℕ) → first_of (record_tests kv rbp key name) ≡ ok → 153 ≤ length buf
      → (store_get kv rbp key name 0 buf).answer ≡ buffer_answer ok (mix_data kv rbp key name) buf
  unfolding buffer_answer on_ok
  read-into buf h l =
      let t = record-passed kv rbp key name h in
      let r = got-readable (eqb-true (mix_record kv rbp key name).status ok (not-false-is _ t.0)) in
      let s = valid-length (mix_data kv rbp key name) (not-false-is _ t.1.0) in
      let e = data_opened r in
      let k = rw e at s in
      rw e (get-whole kv rbp key name r buf (omega arith))
