-- A sealed record read back: its fields, that it is valid and authentic, and its plaintext.
use mathlib.Core.Path.{◌≡◌, refl, ap, ◌∙◌}
use mathlib.Core.Bool.{true, cond, not, ◌||◌}
use mathlib.Core.List.{List, ◌++◌, append_assoc}
use Prim.Native.Nat.{ℕ, ◌+◌, ◌-◌, ◌≤◌, ◌<◌}
use native.Mathlib.Omega.{arith}
use borrow.Author.Tests.{eqb-true, leb-true, ltb-true, eq-eqb, le-leb}
use lib.Dec.{ltb}
use lib.ListN.{length, drop, length-append, length-drop}
use lib.Seq.{take_at, drop_at, take-length, length-take-le}
use Rattle.cipher.proofs.Theorems.{twice, lengths}
use Rattle.buffers.specs.Bytes.{all_zero}
use Rattle.spec.specs.Record.{require_confidentiality, require_integrity, require_replay_protection, valid_flags, max_data_size, metadata}
use Rattle.spec.specs.Record.{metadata_size_of, revision_of, data_size_of, flags_of, iv_of, metadata_of, stored_data_of, tag_of, well_formed}
use Rattle.spec.specs.Record.{enc_key, crypt, record_cmac, sealed_iv, sealed_data, sealed_tag, seal_record, mac_ok, plaintext, Sealable}
use Rattle.buffers.proofs.Split.{split, both}
use Rattle.buffers.proofs.Bytes.{bytes_eq-refl, le-value}

pub valid-flags-small : (flags : ℕ) → valid_flags flags ≡ true → flags < 16
unfolding valid_flags
valid-flags-small flags h = ltb-true flags 16 (both (ltb flags 16) (not (require_replay_protection flags) || require_integrity flags) h).0

-- what a valid record says of itself
pub record ValidRecord (r : List ℕ) : Type 0 where
  pub metadata_size : metadata_size_of r ≡ 20
  pub of_revision : revision_of r ≡ 1
  pub flags : valid_flags (flags_of r) ≡ true
  pub data_size : data_size_of r ≤ max_data_size
  pub record_length : length r ≡ data_size_of r + 36
  pub iv_zero : (require_confidentiality (flags_of r) || all_zero (iv_of r)) ≡ true
  pub tag_zero : (require_integrity (flags_of r) || all_zero (tag_of r)) ≡ true

pub valid-record : (r : List ℕ) → well_formed r ≡ true → ValidRecord r
unfolding well_formed
valid-record r h =
    let a = both _ _ h in
    let b = both _ _ a.1 in
    let c = both _ _ b.1 in
    let d = both _ _ c.1 in
    let e = both _ _ d.1 in
    let f = both _ _ e.1 in
    record {
      metadata_size = eqb-true (metadata_size_of r) 20 a.0;
      of_revision = eqb-true (revision_of r) 1 b.0;
      flags = c.0;
      data_size = leb-true (data_size_of r) max_data_size d.0;
      record_length = eqb-true (length r) (data_size_of r + 36) e.0;
      iv_zero = f.0;
      tag_zero = f.1;
    }

-- the lengths of its parts
module _ (r : List ℕ) (v : ValidRecord r) where
  pub valid-long : 36 ≤ length r
  valid-long = let e = v.record_length in omega arith

  pub valid-iv-length : length (iv_of r) ≡ 8
  valid-iv-length = let z = valid-long in length-take-le 8 (drop 12 r) (rw (length-drop 12 r) (omega arith))

  pub valid-stored-length : length (stored_data_of r) ≡ data_size_of r
  valid-stored-length = let e = v.record_length in length-take-le (length r - 36) (drop 20 r) (rw (length-drop 20 r) (omega arith)) ∙ omega arith

  pub valid-tag-length : length (tag_of r) ≡ 16
  valid-tag-length = let z = valid-long in length-drop (length r - 16) r ∙ omega arith

pub crypt-twice : (key name iv m : List ℕ) → crypt key name iv (crypt key name iv m) ≡ m
unfolding crypt
crypt-twice key name iv m = twice.from_zero (enc_key key name) iv m

pub crypt-length : (key name iv m : List ℕ) → length (crypt key name iv m) ≡ length m
unfolding crypt
crypt-length key name iv m = lengths.of_ctr (enc_key key name) iv m

pub record_cmac-length : (key name meta stored : List ℕ) → length (record_cmac key name meta stored) ≡ 16
unfolding record_cmac
record_cmac-length key name meta stored = lengths.of_tag _ _

-- ---- metadata, stored data and CMAC side by side, and what is read from them

module _ (meta stored tag : List ℕ) (m : length meta ≡ 20) (t : length tag ≡ 16) where
  abbrev joined : List ℕ
  joined = meta ++ (stored ++ tag)

  pub joined_length : length joined ≡ length stored + 36
  joined_length =
      let a = length-append meta (stored ++ tag) in
      let b = length-append stored tag in
      omega arith

  pub joined-metadata : metadata_of joined ≡ meta
  joined-metadata = take_at meta (stored ++ tag) 20 m

  pub joined-stored : stored_data_of joined ≡ stored
  joined-stored =
      let e : length joined - 36 ≡ length stored = let h = joined_length in omega arith in
      rw (e, drop_at meta (stored ++ tag) 20 m) (take_at stored tag (length stored) refl)

  pub joined-tag : tag_of joined ≡ tag
  joined-tag =
      let e : length joined - 16 ≡ length (meta ++ stored) = let h = joined_length in let a = length-append meta stored in omega arith in
      rw (e, ← (append_assoc meta stored tag)) (drop_at (meta ++ stored) tag (length (meta ++ stored)) refl)

-- ---- a sealed record

sealed_iv-length : (flags : ℕ) (iv : List ℕ) → length iv ≡ 8 → length (sealed_iv flags iv) ≡ 8
unfolding sealed_iv
sealed_iv-length flags iv h = split (require_confidentiality flags) (λ e. rw e h) (λ e. rw e)

pub sealed_meta_length : (flags : ℕ) (iv value : List ℕ) → length iv ≡ 8 → length (metadata (length value) flags (sealed_iv flags iv)) ≡ 20
unfolding metadata
sealed_meta_length flags iv value h = let e = sealed_iv-length flags iv h in omega arith

pub sealed_data-length : (key name : List ℕ) (flags : ℕ) (iv value : List ℕ) → length (sealed_data key name flags iv value) ≡ length value
unfolding sealed_data
sealed_data-length key name flags iv value = split (require_confidentiality flags) (λ e. rw e (crypt-length key name iv value)) (λ e. rw e)

pub sealed_tag-length : (key name : List ℕ) (flags : ℕ) (meta stored : List ℕ) → length (sealed_tag key name flags meta stored) ≡ 16
unfolding sealed_tag
sealed_tag-length key name flags meta stored = split (require_integrity flags) (λ e. rw e (record_cmac-length key name meta stored)) (λ e. rw e)

module _ (key name : List ℕ) (flags : ℕ) (iv value : List ℕ) where
  abbrev meta : List ℕ
  meta = metadata (length value) flags (sealed_iv flags iv)

  abbrev stored : List ℕ
  stored = sealed_data key name flags iv value

  abbrev tag : List ℕ
  tag = sealed_tag key name flags meta stored

  abbrev r : List ℕ
  r = seal_record key name flags iv value

  parts : r ≡ meta ++ (stored ++ tag)
  unfolding seal_record
  parts = refl

  tag_length : length tag ≡ 16
  tag_length = sealed_tag-length key name flags meta stored

  pub seal_record-length : length iv ≡ 8 → length r ≡ length value + 36
  seal_record-length h =
      let d = sealed_data-length key name flags iv value in
      ap length parts ∙ joined_length meta stored tag (sealed_meta_length flags iv value h) tag_length ∙ omega arith

  module _ (ready : Sealable flags iv value) where
    iv_length : length (sealed_iv flags iv) ≡ 8
    iv_length = sealed_iv-length flags iv ready.iv_is_sized

    meta-length : length meta ≡ 20
    meta-length = sealed_meta_length flags iv value ready.iv_is_sized

    pub sealed-length : length r ≡ length value + 36
    sealed-length = seal_record-length ready.iv_is_sized

    -- the fields
    sealed-size : metadata_size_of r ≡ 20
    unfolding seal_record metadata
    sealed-size = refl

    sealed_revision : revision_of r ≡ 1
    unfolding seal_record metadata
    sealed_revision = refl

    pub sealed_data-size : data_size_of r ≡ length value
    unfolding seal_record metadata
    sealed_data-size = le-value 4 (length value) (omega arith)

    pub sealed-flags : flags_of r ≡ flags
    unfolding seal_record metadata
    sealed-flags = let h = valid-flags-small flags ready.flags_valid in le-value 4 flags (omega arith)

    sealed-iv : iv_of r ≡ sealed_iv flags iv
    unfolding seal_record metadata
    sealed-iv = take_at (sealed_iv flags iv) _ 8 iv_length

    sealed-metadata : metadata_of r ≡ meta
    sealed-metadata = ap metadata_of parts ∙ joined-metadata meta stored tag meta-length tag_length

    sealed-stored : stored_data_of r ≡ stored
    sealed-stored = ap stored_data_of parts ∙ joined-stored meta stored tag meta-length tag_length

    pub sealed-tag : tag_of r ≡ tag
    sealed-tag = ap tag_of parts ∙ joined-tag meta stored tag meta-length tag_length

    pub sealed-tag-length : length (tag_of r) ≡ 16
    sealed-tag-length = rw sealed-tag tag_length

    iv_zero : (require_confidentiality flags || all_zero (sealed_iv flags iv)) ≡ true
    unfolding sealed_iv
    iv_zero = split (require_confidentiality flags) (λ e. rw e) (λ e. rw e)

    tag_zero : (require_integrity flags || all_zero tag) ≡ true
    unfolding sealed_tag
    tag_zero = split (require_integrity flags) (λ e. rw e) (λ e. rw e)

    pub sealed-valid : well_formed r ≡ true
    unfolding well_formed
    sealed-valid =
        rw (
          sealed-tag,
          sealed-iv,
          sealed-size,
          sealed_revision,
          sealed-flags,
          sealed_data-size,
          sealed-length,
          ready.flags_valid,
          le-leb (length value) max_data_size ready.value_sized,
          eq-eqb (length value + 36) (length value + 36) refl,
          iv_zero,
        ) tag_zero

    pub sealed_mac : require_integrity flags ≡ true → mac_ok key name r ≡ true
    unfolding mac_ok sealed_tag
    sealed_mac h = rw (sealed-tag, sealed-metadata, sealed-stored, h, bytes_eq-refl)

    opened : cond (require_confidentiality flags) (crypt key name (sealed_iv flags iv) stored) stored ≡ value
    unfolding sealed_iv sealed_data
    opened = split (require_confidentiality flags) (λ e. rw e (crypt-twice key name iv value)) (λ e. rw e)

    pub sealed-plaintext : plaintext key name r ≡ value
    unfolding plaintext
    sealed-plaintext = rw (sealed-stored, sealed-iv, sealed_data-size, sealed-flags, opened) (take-length value)
