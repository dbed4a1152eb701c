-- A get of a whole record: its plaintext, into any buffer that is long enough. Assumes nothing.
use mathlib.Core.Path.{◌≡◌, ap, ◌∙◌}
use mathlib.Core.List.{List, [], ◌∷◌, ◌++◌}
use Prim.Native.Nat.{ℕ, ◌-◌, ◌≤◌, min}
use native.Mathlib.Omega.{arith}
use lib.ListN.{length, get_or, drop, length-take, length-drop}
use lib.Seq.{take_all, take-append_seam}
use Rattle.buffers.specs.Bytes.{zeros}
use Rattle.buffers.proofs.Split.{split}
use Rattle.spec.specs.Status.{ok, is_ok, on_ok, Answer, bytes_given}
use Rattle.spec.specs.Record.{require_confidentiality, data_size_of, flags_of, iv_of, stored_data_of, crypt, enc_key}
use Rattle.spec.specs.Interleaving.{Outcome}
use Rattle.spec.specs.Decisions.{read_count}
use Rattle.spec.specs.Calls.{Areas, store_get}
use Rattle.spec.specs.Demand2.{Readable, opened}
use Rattle.spec.proofs.Record.{ValidRecord, valid-record, crypt-length}
use Rattle.spec.proofs.Get.{get_exact}

-- a valid record opens to as many bytes as it says
opened-length : (key name r : List ℕ) → ValidRecord r → length (opened key name r) ≡ data_size_of r
unfolding crypt enc_key
opened-length key name r v =
    let stored : length (stored_data_of r) ≡ data_size_of r = rw (length-take, length-drop) (omega (arith, v.record_length)) in
    split (require_confidentiality (flags_of r))
    (λ e. rw (length-take, e, crypt-length key name (iv_of r) (stored_data_of r), stored) (omega arith))
    (λ e. rw (length-take, e, stored) (omega arith))

pub count-within : (kv rbp key name : List ℕ) (offset : ℕ) (output : List ℕ)
    → get_or (store_get kv rbp key name offset output).answer.numbers 0 0 ≤ length output
unfolding store_get on_ok read_count
count-within kv rbp key name offset output =
    split (is_ok (store_get kv rbp key name offset output).answer.status) (λ e. rw e (omega arith)) (λ e. rw e (omega arith))

module _ (kv rbp key name : List ℕ) (h : Readable kv rbp key name 0) where
  abbrev plain : List ℕ
  plain = opened key name h.r

  pub get-whole : (buf : List ℕ) → length plain ≤ length buf
      → (store_get kv rbp key name 0 buf).answer ≡ record { status = ok; numbers = length plain ∷ []; output = plain ++ drop (length plain) buf }
  get-whole buf l =
      let n = opened-length key name h.r (valid-record h.r h.valid) in
      let c : min (length buf) (data_size_of h.r - 0) ≡ length plain = omega arith in
      ap (λ (o : Outcome Areas Answer). o.answer) ((get_exact kv rbp key name 0 buf).gives h) ∙ rw (c, take_all (length plain) plain (omega arith))

  -- no record has more than 480 bytes of data
  pub whole-given : bytes_given (store_get kv rbp key name 0 (zeros 480)).answer ≡ plain
  whole-given =
      let v = valid-record h.r h.valid in
      let n = opened-length key name h.r v in
      ap bytes_given (get-whole (zeros 480) (omega (arith, v.data_size))) ∙ take-append_seam plain (drop (length plain) (zeros 480))
