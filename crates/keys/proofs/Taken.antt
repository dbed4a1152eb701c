-- Laws of the reader's steps. Assumes nothing.
use mathlib.Core.Path.{◌≡◌, refl, ap, ◌∙◌}
use mathlib.Core.Logic.{◌↔◌}
use mathlib.Core.Bool.{Bool, true, false, ◌&&◌}
use mathlib.Core.List.{List, ◌++◌}
use Prim.Native.Nat.{ℕ, ◌+◌, ◌-◌, ◌^◌, ◌≤◌, ◌<◌}
use native.Mathlib.Omega.{arith}
use borrow.Author.Tests.{leb-true, le-leb}
use lib.Dec.{leb}
use lib.ListN.{length, take, drop, length-drop}
use lib.Seq.{take_all, drop-append_seam, length-take-le}
use denote.Ref.{Bor}
use Rattle.std.specs.Prelude.{Ok, Err}
use Rattle.store.specs.declared.status.Refusal.{Refusal}
use Rattle.store.specs.declared.status.Refusal.TheVariants.{InvalidKeyFile}
use Rattle.buffers.specs.Bytes.{bytes_eq, le_bytes, u32_at}
use Rattle.buffers.proofs.Split.{split, clash, both}
use Rattle.buffers.proofs.Lists.{part}
use Rattle.buffers.proofs.Bytes.{bytes_eq-eq, eq-bytes_eq, le-value}
use Rattle.keys.specs.KeyFile.{mark, key_file_header, format_key_file}
use Rattle.keys.specs.Reader.{has_bytes, taken_at, mark_at, field_at, part_of, part_at}
use Rattle.keys.specs.Laws.{Step, StepsExact}
use Rattle.keys.specs.declared.key_file.KeyAttributes.{KeyAttributes}
use Rattle.keys.specs.declared.reader.KeyFileReader.{KeyFileReader}

module _ (r : KeyFileReader) (n : ℕ) where
  -- the bytes that are left end within the file
  pub has_end : has_bytes r n ≡ true → r.pos + n ≤ length r.file.now
  unfolding has_bytes
  has_end h =
      let b = both (leb r.pos (length r.file.now)) (leb n (length r.file.now - r.pos)) h in
      omega (arith, leb-true r.pos (length r.file.now) b.0, leb-true n (length r.file.now - r.pos) b.1)

  pub has-bytes : r.pos + n ≤ length r.file.now → has_bytes r n ≡ true
  unfolding has_bytes
  has-bytes h = rw (le-leb r.pos (length r.file.now) (omega arith), le-leb n (length r.file.now - r.pos) (omega arith))

  pub lacks-bytes : (¬ (r.pos + n ≤ length r.file.now)) → has_bytes r n ≡ false
  lacks-bytes h = split (has_bytes r n) (λ e. absurd (h (has_end e))) (λ e. e)

  has-when : (has_bytes r n ≡ true) ↔ (r.pos + n ≤ length r.file.now)
  has-when = (has_end, has-bytes)

-- ---- the steps

-- a step whose test says its fact
taken_step : {A : Type 0} {fact : Type 0} (t : Bool) (r : KeyFileReader) (n : ℕ) (value : A) → (t ≡ true) ↔ fact → Step r n value fact (taken_at t r n value)
unfolding taken_at
taken_step true r n value e = record { done = λ h. refl; refused = λ k. absurd (k (e.0 refl)) }
taken_step false r n value e = record { done = λ h. clash false (e.1 h) refl; refused = λ k. refl }

mark-step : (r : KeyFileReader) → Step r 8 tt ((r.pos + 8 ≤ length r.file.now) × (take 8 (drop r.pos r.file.now) ≡ mark)) (mark_at r)
unfolding mark_at
mark-step r =
    let l = take 8 (drop r.pos r.file.now) in
    taken_step (has_bytes r 8 && bytes_eq l mark) r 8 tt (
      λ e. let b = both (has_bytes r 8) (bytes_eq l mark) e in (has_end r 8 b.0, bytes_eq-eq l mark b.1),
      λ h. rw (has-bytes r 8 h.0, eq-bytes_eq l mark h.1),
    )

field_step : (r : KeyFileReader) → Step r 4 (u32_at r.file.now r.pos) (r.pos + 4 ≤ length r.file.now) (field_at r)
unfolding field_at
field_step r = taken_step (has_bytes r 4) r 4 (u32_at r.file.now r.pos) (has-when r 4)

part_step : (r : KeyFileReader) (n : ℕ) → Step r n (part_of r n) (r.pos + n ≤ length r.file.now) (part_at r n)
unfolding part_at
part_step r n = taken_step (has_bytes r n) r n (part_of r n) (has-when r n)

number_at : (before rest : List ℕ) (n : ℕ) → n < 2 ^ 32 → u32_at (before ++ (le_bytes 4 n ++ rest)) (length before) ≡ n
number_at before rest n h = rw (drop-append_seam before (le_bytes 4 n ++ rest)) (le-value 4 n h)

written-part : (a : KeyAttributes) (m : List ℕ) → take (length m) (drop 36 (format_key_file a m)) ≡ m
unfolding format_key_file key_file_header
written-part a m = take_all (length m) m (omega arith)

written-room : (a : KeyAttributes) (m : List ℕ) → 36 + length m ≤ length (format_key_file a m)
unfolding format_key_file key_file_header
written-room a m = omega arith

material-part : (a : KeyAttributes) (m : List ℕ) (r : KeyFileReader) → r.file.now ≡ format_key_file a m → r.pos ≡ 36
    → (part_at r (length m)).answer ≡ Ok (record { ref_ptr = (r.file.ref_ptr.0, r.file.ref_ptr.1 + 36); now = m })
material-part a m r e p =
    let room = written-room a m in
    let size = ap (λ (l : List ℕ). length l) e in
    let now : take (length m) (drop r.pos r.file.now) ≡ m = (λ i. take (length m) (drop (p i) (e i))) ∙ written-part a m in
    rw ((part_step r (length m)).done (omega arith)) (λ i. Ok (record { ref_ptr = (r.file.ref_ptr.0, r.file.ref_ptr.1 + p i); now = now i }))

pub steps-exact : StepsExact
steps-exact = record {
  of_mark = mark-step;
  of_field = field_step;
  of_part = part_step;
  number = number_at;
  material = material-part;
}

-- ---- a part that the code was given, and one that it was refused

module _ (r : KeyFileReader) (n : ℕ) where
  pub record Given (p : Bor (List ℕ)) : Type 0 where
    pub has : has_bytes r n ≡ true
    pub room : r.pos + n ≤ length r.file.now
    pub is : p ≡ part_of r n

  pub record Lacking (refusal : Refusal) : Type 0 where
    pub has_not : has_bytes r n ≡ false
    pub is : refusal ≡ InvalidKeyFile

  pub given : (p : Bor (List ℕ)) → Ok p ≡ (part_at r n).answer → Given p
  unfolding part_at taken_at
  given p e = split (has_bytes r n)
      (λ h. let z = rw h at e in record { has = h; room = has_end r n h; is = cc })
      (λ h. let z = rw h at e in absurd cc)

  pub lacking : (refusal : Refusal) → Err refusal ≡ (part_at r n).answer → Lacking refusal
  unfolding part_at taken_at
  lacking refusal e = split (has_bytes r n)
      (λ h. let z = rw h at e in absurd cc)
      (λ h. let z = rw h at e in record { has_not = h; is = cc })

module _ (r : KeyFileReader) where
  pub part-long : (n : ℕ) (p : Bor (List ℕ)) → Given r n p → length p.now ≡ n
  part-long n p g =
      let size = ap (λ (x : Bor (List ℕ)). length x.now) g.is in
      let room = g.room in
      size ∙ length-take-le n (drop r.pos r.file.now) (omega (arith, length-drop r.pos r.file.now))

  pub short-part : (n : ℕ) → (¬ (r.pos + n ≤ length r.file.now)) → Err InvalidKeyFile ≡ (part_at r n).answer
  unfolding part_at taken_at
  short-part n h = rw (lacks-bytes r n h)

  pub some-part : (n : ℕ) → r.pos + n ≤ length r.file.now
      → Ok (record { ref_ptr = (r.file.ref_ptr.0, r.pos + r.file.ref_ptr.1); now = take (r.pos + n - r.pos) (drop r.pos r.file.now) }) ≡ (part_at r n).answer
  unfolding part_at taken_at
  some-part n h =
      let place : r.pos + r.file.ref_ptr.1 ≡ r.file.ref_ptr.1 + r.pos = omega arith in
      rw (has-bytes r n h) (λ i. Ok (record { ref_ptr = (r.file.ref_ptr.0, place i); now = part r.pos n r.file.now i }))

  pub no-material : (n : ℕ) (refusal : Refusal) → Err refusal ≡ (part_at r n).answer → record { answer = Err refusal; after = r } ≡ part_at r n
  unfolding part_at taken_at
  no-material n refusal h = let l = lacking r n refusal h in rw (l.has_not, l.is)

  pub material-taken : (n : ℕ) (p : Bor (List ℕ)) → Ok p ≡ (part_at r n).answer
      → record { answer = Ok p; after = record { file = r.file; pos = r.pos + n } } ≡ part_at r n
  unfolding part_at taken_at
  material-taken n p h = let g = given r n p h in rw (g.has, g.is)

  pub no-field : (refusal : Refusal) → Err refusal ≡ (part_at r 4).answer → record { answer = Err refusal; after = r } ≡ field_at r
  unfolding field_at taken_at
  no-field refusal h = let l = lacking r 4 refusal h in rw (l.has_not, l.is)

  pub field-taken : (p : Bor (List ℕ)) (value : ℕ) → Ok p ≡ (part_at r 4).answer → value ≡ u32_at p.now 0
      → record { answer = Ok value; after = record { file = r.file; pos = r.pos + 4 } } ≡ field_at r
  unfolding field_at taken_at
  field-taken p value h e =
      let g = given r 4 p h in
      let whole = take_all 4 p.now (omega (arith, part-long 4 p g)) in
      rw (g.has, e, whole, g.is)

  pub no-mark : (refusal : Refusal) → Err refusal ≡ (part_at r 8).answer → record { answer = Err refusal; after = r } ≡ mark_at r
  unfolding mark_at taken_at
  no-mark refusal h = let l = lacking r 8 refusal h in rw (l.has_not, l.is)

  pub wrong-mark : (p : Bor (List ℕ)) → Ok p ≡ (part_at r 8).answer → bytes_eq p.now mark ≡ false → record { answer = Err InvalidKeyFile; after = r } ≡ mark_at r
  unfolding mark_at taken_at
  wrong-mark p h e = let g = given r 8 p h in let z = rw g.is at e in rw (g.has, z)

  pub mark-taken : (p : Bor (List ℕ)) → Ok p ≡ (part_at r 8).answer → bytes_eq p.now mark ≡ true
      → record { answer = Ok tt; after = record { file = r.file; pos = r.pos + 8 } } ≡ mark_at r
  unfolding mark_at taken_at
  mark-taken p h e = let g = given r 8 p h in let z = rw g.is at e in rw (g.has, z)
