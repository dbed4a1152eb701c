-- The steps by which a record is made and opened. Assumes nothing.
use mathlib.Core.Path.{◌≡◌, refl, sym, ap, ap₂, ◌∙◌}
use mathlib.Core.List.{List, ◌++◌, append_assoc}
use Prim.Native.Nat.{ℕ, ◌+◌, ◌-◌, ◌≤◌}
use native.Mathlib.Omega.{arith}
use lib.ListN.{length, take, drop, length-append}
use lib.Seq.{take_at, take_all, take-take, length-take-le}
use Rattle.buffers.specs.Bytes.{zeros, zero_fill, put_at}
use Rattle.cipher.proofs.Theorems.{front}
use Rattle.spec.specs.Record.{require_confidentiality, metadata, data_size_of, flags_of, iv_of, stored_data_of, enc_key, crypt, record_cmac}
use Rattle.spec.specs.Record.{sealed_iv, sealed_data, sealed_tag, seal_record, plaintext}
use Rattle.spec.proofs.Record.{ValidRecord, valid-stored-length, sealed_meta_length, sealed_data-length, sealed_tag-length, seal_record-length}
use Rattle.records.specs.Parts.{cmac_over, tag_over}
use Rattle.buffers.proofs.Split.{split}
use Rattle.buffers.proofs.Lists.{put_next, fill}

tag-over : (key name : List ℕ) (flags : ℕ) (meta stored : List ℕ) → tag_over key name flags (meta ++ stored) ≡ sealed_tag key name flags meta stored
unfolding tag_over cmac_over sealed_tag record_cmac
tag-over key name flags meta stored = refl

module _ (key name : List ℕ) (flags : ℕ) (iv value : List ℕ) (iv_is_sized : length iv ≡ 8) where
  abbrev meta : List ℕ
  meta = metadata (length value) flags (sealed_iv flags iv)

  abbrev stored : List ℕ
  stored = sealed_data key name flags iv value

  abbrev tag : List ℕ
  tag = sealed_tag key name flags meta stored

  meta-length : length meta ≡ 20
  meta-length = sealed_meta_length flags iv value iv_is_sized

  covered-length : length (meta ++ stored) ≡ length value + 20
  covered-length = let m = meta-length in let s = sealed_data-length key name flags iv value in length-append meta stored ∙ omega arith

  pub sealed-filled : (size : ℕ) (x : List ℕ) → x ≡ seal_record key name flags iv value ++ drop (length value + 36) (zeros size)
      → x ≡ zero_fill size (seal_record key name flags iv value)
  sealed-filled size x e = e ∙ fill size (length value + 36) (seal_record key name flags iv value) (seal_record-length key name flags iv value iv_is_sized)

  -- metadata, data and CMAC put in place, each from what the one before it left
  pub sealed-steps : (d w x y t i : List ℕ) → i ≡ sealed_iv flags iv → w ≡ metadata (length value) flags i ++ drop 20 d
      → x ≡ put_at w 20 stored → t ≡ tag_over key name flags (take (length value + 20) x) → y ≡ put_at x (length value + 20) t
      → y ≡ seal_record key name flags iv value ++ drop (length value + 36) d
  unfolding seal_record
  sealed-steps d w x y t i ei ew ex et ey =
      let n = length value in
      let covered : n + 20 ≡ 20 + length stored = let s = sealed_data-length key name flags iv value in omega arith in
      let fx : x ≡ (meta ++ stored) ++ drop (n + 20) d =
      ex ∙ ap (λ (l : List ℕ). put_at l 20 stored) (ew ∙ ap (λ (l : List ℕ). metadata n flags l ++ drop 20 d) ei)
      ∙ put_next d meta stored 20 meta-length ∙ ap (λ (k : ℕ). (meta ++ stored) ++ drop k d) (sym covered) in
      let ft : t ≡ tag =
      et ∙ ap (tag_over key name flags) (ap (take (n + 20)) fx ∙ take_at (meta ++ stored) (drop (n + 20) d) (n + 20) covered-length)
      ∙ tag-over key name flags meta stored in
      let end : n + 20 + length tag ≡ n + 36 = let h = sealed_tag-length key name flags meta stored in omega arith in
      ey ∙ ap₂ (λ (l s : List ℕ). put_at l (n + 20) s) fx ft
      ∙ put_next d (meta ++ stored) tag (n + 20) covered-length
      ∙ ap₂ (λ (l : List ℕ) (k : ℕ). l ++ drop k d) (append_assoc meta stored tag) end

sealed-front : (key name : List ℕ) (flags : ℕ) (iv m : List ℕ) (n : ℕ)
    → sealed_data key name flags iv (take n m) ≡ take n (sealed_data key name flags iv m)
unfolding sealed_data crypt
sealed-front key name flags iv m n = split (require_confidentiality flags) (λ e. rw e (front (enc_key key name) iv m n)) (λ e. rw e)

module _ (key name r : List ℕ) (valid : ValidRecord r) where
  abbrev shown : List ℕ
  shown = sealed_data key name (flags_of r) (iv_of r) (stored_data_of r)

  shown-length : length shown ≡ data_size_of r
  shown-length = sealed_data-length key name (flags_of r) (iv_of r) (stored_data_of r) ∙ valid-stored-length r valid

  opened : plaintext key name r ≡ shown
  unfolding plaintext sealed_data
  opened = let h = shown-length in take_all (data_size_of r) shown (omega arith)

  pub plaintext-length : length (plaintext key name r) ≡ data_size_of r
  plaintext-length = ap length opened ∙ shown-length

  -- all of them, where there is room
  pub opened-filled : (size : ℕ) (x : List ℕ) (n : ℕ) → n ≡ data_size_of r → x ≡ take n (plaintext key name r) ++ drop n (zeros size)
      → x ≡ zero_fill size (plaintext key name r)
  opened-filled size x n h e =
      let all : take n (plaintext key name r) ≡ plaintext key name r = take_all n (plaintext key name r) (let l = plaintext-length in omega arith) in
      e ∙ ap (λ (l : List ℕ). l ++ drop n (zeros size)) all ∙ fill size n (plaintext key name r) (plaintext-length ∙ sym h)

  -- the front of the data as stored, put in place
  pub opened-steps : (d x i : List ℕ) (f n : ℕ) → n ≤ data_size_of r → f ≡ flags_of r → i ≡ iv_of r
      → x ≡ put_at d 0 (sealed_data key name f i (take (n + 20 - 20) (drop 20 r)))
      → x ≡ take n (plaintext key name r) ++ drop n d
  opened-steps d x i f n h ef ei ex =
      let e : n + 20 - 20 ≡ n = omega arith in
      let l = valid.record_length in
      let part : take n (drop 20 r) ≡ take n (stored_data_of r) = sym (take-take n (length r - 36) (drop 20 r) (omega arith)) in
      let front : sealed_data key name f i (take (n + 20 - 20) (drop 20 r)) ≡ take n (plaintext key name r) =
      rw (e, part, ef, ei, opened) (sealed-front key name (flags_of r) (iv_of r) (stored_data_of r) n) in
      let count = length-take-le n (plaintext key name r) (rw plaintext-length h) in
      let end : 0 + length (take n (plaintext key name r)) ≡ n = omega arith in
      ex ∙ ap (put_at d 0) front ∙ ap (λ (k : ℕ). take n (plaintext key name r) ++ drop k d) end
