-- The header read one field after the other is the header by offsets, where there is one; where there is none, the reader does not come to place 36.
-- Assumes nothing.
use mathlib.Core.Path.{◌≡◌, refl, sym, ap, subst, ◌∙◌}
use mathlib.Core.Logic.{◌↔◌}
use mathlib.Core.Bool.{Bool, true, false, ◌&&◌}
use mathlib.Core.List.{List}
use Prim.Native.Nat.{ℕ, zero, suc, ◌+◌, ◌*◌, ◌≤◌, ◌<◌}
use native.Mathlib.Omega.{arith}
use borrow.Author.Tests.{leb-true, le-leb, eqb-true, eq-eqb}
use lib.ListN.{length, take, drop}
use denote.Ref.{Bor}
use Rattle.std.specs.Prelude.{Result, Ok, Err}
use Rattle.store.specs.declared.status.Refusal.{Refusal}
use Rattle.store.specs.declared.status.Refusal.TheVariants.{InvalidKeyFile}
use Rattle.buffers.specs.Bytes.{bytes_eq, u32_at}
use Rattle.buffers.proofs.Split.{split, both, clash}
use Rattle.buffers.proofs.Bytes.{bytes_eq-eq, eq-bytes_eq}
use Rattle.keys.specs.KeyFile.{mark, attributes_of, version_of, material_length_of, key_file_valid, parse_key_file}
use Rattle.keys.specs.Reader.{Taken, has_bytes, taken_at, mark_at, field_at, part_at, carried_on, ◌then◌, header_at, read_header, read_on}
use Rattle.keys.specs.Laws.{WellFormed}
use Rattle.keys.specs.declared.parse.Header.{Header}
use Rattle.keys.specs.declared.reader.KeyFileReader.{KeyFileReader}
use Rattle.keys.proofs.Taken.{has_end, has-bytes, steps-exact, given, lacking}

-- the header by offsets
abbrev pub header_of : List ℕ → Header
header_of f = record { version = version_of f; attributes = attributes_of f; material_len = material_length_of f }

-- ---- how far steps come: all n bytes on, within the file; or refused with 13 before that

-- what steps that began at r answered, and where they left the reader
abbrev Comes : {A : Type 0} → KeyFileReader → ℕ → Result A Refusal → KeyFileReader → Type 0
Comes r n (Ok value) after = (after.file ≡ r.file) × (after.pos ≡ r.pos + n) × (r.pos + n ≤ length r.file.now)
Comes r n (Err refusal) after = (refusal ≡ InvalidKeyFile) × (after.pos < r.pos + n)

abbrev Coming : {A : Type 0} → KeyFileReader → ℕ → Taken A → Type 0
Coming r n t = Comes r n t.answer t.after

step-comes : {A : Type 0} (b : Bool) (r : KeyFileReader) (n : ℕ) (value : A) → 0 < n → (b ≡ true → has_bytes r n ≡ true) → Coming r n (taken_at b r n value)
unfolding taken_at
step-comes true r n value h e = (refl, refl, has_end r n (e refl))
step-comes false r n value h e = (refl, omega arith)

field-comes : (r : KeyFileReader) → Coming r 4 (field_at r)
unfolding field_at
field-comes r = step-comes (has_bytes r 4) r 4 (u32_at r.file.now r.pos) (omega arith) (λ e. e)

mark-comes : (r : KeyFileReader) → Coming r 8 (mark_at r)
unfolding mark_at
mark-comes r =
    let same = bytes_eq (take 8 (drop r.pos r.file.now)) mark in
    step-comes (has_bytes r 8 && same) r 8 tt (omega arith) (λ e. (both (has_bytes r 8) same e).0)

-- steps that began m bytes behind r
comes-on : {A : Type 0} (r s : KeyFileReader) (m n : ℕ) (answer : Result A Refusal) (after : KeyFileReader) → s.file ≡ r.file → s.pos ≡ r.pos + m
    → Comes s n answer after → Comes r (m + n) answer after
comes-on r s m n (Ok value) after f p h = let size = ap (λ (x : Bor (List ℕ)). length x.now) f in (h.0 ∙ f, omega arith, omega (arith, h.2))
comes-on r s m n (Err refusal) after f p h = (h.0, omega arith)

carried-comes : {A B : Type 0} (r : KeyFileReader) (m n : ℕ) (answer : Result A Refusal) (after : KeyFileReader) (next : A → KeyFileReader → Taken B)
    → Comes r m answer after → ((value : A) (s : KeyFileReader) → Coming s n (next value s)) → Coming r (m + n) (carried_on answer after next)
carried-comes r m n (Ok value) after next h k = comes-on r after m n (next value after).answer (next value after).after h.0 h.1 (k value after)
carried-comes r m n (Err refusal) after next h k = (h.0, omega arith)

last-comes : {A B : Type 0} (r : KeyFileReader) (n : ℕ) (answer : Result A Refusal) (after : KeyFileReader) (value_of : A → B) → Comes r n answer after
    → Coming r n (carried_on answer after (λ value s. record { answer = Ok (value_of value); after = s }))
last-comes r n (Ok value) after value_of h = h
last-comes r n (Err refusal) after value_of h = h

field-then : {B : Type 0} (r : KeyFileReader) (n : ℕ) (next : ℕ → KeyFileReader → Taken B) → ((value : ℕ) (s : KeyFileReader) → Coming s n (next value s))
    → Coming r (4 + n) (field_at r then next)
field-then r n next h = carried-comes r 4 n (field_at r).answer (field_at r).after next (field-comes r) h

header-comes : (r : KeyFileReader) → Coming r 36 (header_at r)
unfolding header_at
header-comes r =
    carried-comes r 8 28 (mark_at r).answer (mark_at r).after _ (mark-comes r) (λ mark r.
    field-then r 24 _ (λ version r.
    field-then r 20 _ (λ lifetime r.
    field-then r 16 _ (λ key_type r.
    field-then r 12 _ (λ usage r.
    field-then r 8 _ (λ alg r.
    field-then r 4 _ (λ enrollment_alg r.
    last-comes r 4 (field_at r).answer (field_at r).after _ (field-comes r))))))))

-- who comes to the end of n bytes has them
come-far : {A : Type 0} (r : KeyFileReader) (n : ℕ) (answer : Result A Refusal) (after : KeyFileReader) → Comes r n answer after → after.pos ≡ r.pos + n
    → r.pos + n ≤ length r.file.now
come-far r n (Ok value) after h e = h.2
come-far r n (Err refusal) after h e = absurd (omega (arith, h.1))

-- ---- the header of a file

module _ (file : Bor (List ℕ)) where
  abbrev at_place : ℕ → KeyFileReader
  at_place p = record { file = file; pos = p }

  pub header-there : 36 ≤ length file.now → take 8 file.now ≡ mark → read_header file ≡ record { answer = Ok (header_of file.now); after = at_place 36 }
  unfolding header_at
  header-there h e =
      let there : (p : ℕ) → p + 4 ≤ length file.now → field_at (at_place p) ≡ record { answer = Ok (u32_at file.now p); after = at_place (p + 4) } =
      λ p k. (steps-exact.of_field (at_place p)).done k in
      let m : mark_at (at_place 0) ≡ record { answer = Ok tt; after = at_place 8 } = (steps-exact.of_mark (at_place 0)).done (omega arith, e) in
      rw (
        m,
        there 8 (omega arith),
        there 12 (omega arith),
        there 16 (omega arith),
        there 20 (omega arith),
        there 24 (omega arith),
        there 28 (omega arith),
        there 32 (omega arith),
      )

  mark-wrong : bytes_eq (take 8 file.now) mark ≡ false → (read_header file).after.pos ≡ 0
  unfolding header_at
  mark-wrong e =
      rw ((steps-exact.of_mark (at_place 0)).refused (λ h. clash (bytes_eq (take 8 file.now) mark) (eq-bytes_eq (take 8 file.now) mark h.1) e))

  -- who has come to place 36 has read a header
  pub header-long : (read_header file).after.pos ≡ 36 → 36 ≤ length file.now
  header-long e = come-far (at_place 0) 36 (read_header file).answer (read_header file).after (header-comes (at_place 0)) e

  pub header-marked : (read_header file).after.pos ≡ 36 → take 8 file.now ≡ mark
  header-marked e = split (bytes_eq (take 8 file.now) mark) (λ h. bytes_eq-eq (take 8 file.now) mark h) (λ h. absurd (omega (arith, mark-wrong h)))

  pub header_read : (read_header file).after.pos ≡ 36 → read_header file ≡ record { answer = Ok (header_of file.now); after = at_place 36 }
  header_read e = header-there (header-long e) (header-marked e)

  -- a header that was read, and one that was refused
  pub header-is : (h : Header) (r : KeyFileReader) → record { answer = Ok h; after = r } ≡ read_header file → r.pos ≡ 36
  header-is h r e = let c : Coming (at_place 0) 36 (record { answer = Ok h; after = r }) = subst (Coming (at_place 0) 36) (sym e) (header-comes (at_place 0)) in c.1

  pub refusal-is : (refusal : Refusal) (r : KeyFileReader) → record { answer = Err refusal; after = r } ≡ read_header file → refusal ≡ InvalidKeyFile
  refusal-is refusal r e =
      let c : Coming {A = Header} (at_place 0) 36 (record { answer = Err refusal; after = r }) = subst (Coming (at_place 0) 36) (sym e) (header-comes (at_place 0)) in
      c.0

  -- where no header is read, the answer is 13
  come-refused : (answer : Result Header Refusal) (after : KeyFileReader) → Comes (at_place 0) 36 answer after → (after.pos ≡ 36 → ⊥) → answer ≡ Err InvalidKeyFile
  come-refused (Ok h) after c n = absurd (n c.1)
  come-refused (Err refusal) after c n = ap (λ (x : Refusal). Err x) c.0

  pub header-refused : ((read_header file).after.pos ≡ 36 → ⊥) → (read_header file).answer ≡ Err InvalidKeyFile
  header-refused = come-refused (read_header file).answer (read_header file).after (header-comes (at_place 0))

-- ---- the header of a file, read on after a refused step

-- where steps of n bytes that began at r leave the reader, whatever they answered: at most n bytes on, and not past the end
abbrev Within : KeyFileReader → ℕ → KeyFileReader → Type 0
Within r n s = (s.file ≡ r.file) × (s.pos ≤ r.pos + n) × (r.pos ≤ length r.file.now → s.pos ≤ length r.file.now)

taken-within : {A : Type 0} (b : Bool) (r : KeyFileReader) (n : ℕ) (value : A) → (b ≡ true → has_bytes r n ≡ true) → Within r n (taken_at b r n value).after
unfolding taken_at
taken-within true r n value e = (refl, omega arith, λ h. has_end r n (e refl))
taken-within false r n value e = (refl, omega arith, λ h. h)

field-within : (r : KeyFileReader) → Within r 4 (field_at r).after
unfolding field_at
field-within r = taken-within (has_bytes r 4) r 4 (u32_at r.file.now r.pos) (λ e. e)

mark-within : (r : KeyFileReader) → Within r 8 (mark_at r).after
unfolding mark_at
mark-within r =
    let same = bytes_eq (take 8 (drop r.pos r.file.now)) mark in
    taken-within (has_bytes r 8 && same) r 8 tt (λ e. (both (has_bytes r 8) same e).0)

-- the reader after k fields
abbrev fields_on : ℕ → KeyFileReader → KeyFileReader
fields_on zero r = r
fields_on (suc k) r = fields_on k (field_at r).after

fields-within : (k : ℕ) (r : KeyFileReader) → Within r (4 * k) (fields_on k r)
fields-within zero r = (refl, omega arith, λ h. h)
fields-within (suc k) r =
    let first = field-within r in
    let rest = fields-within k (field_at r).after in
    let size = ap (λ (x : Bor (List ℕ)). length x.now) first.0 in (
      rest.0 ∙ first.0,
      omega (arith, first.1, rest.1),
      λ h. let near = first.2 h in let far = rest.2 (omega arith) in omega arith,
    )

module _ (file : Bor (List ℕ)) where
  on-is : (read_on file).pos ≡ (fields_on 7 (mark_at (at_place file 0)).after).pos
  on-is = refl

  fields-there : (k p : ℕ) (r : KeyFileReader) → r ≡ at_place file p → p + 4 * k ≤ length file.now → (fields_on k r).pos ≡ p + 4 * k
  fields-there zero p r e h = ap (λ (x : KeyFileReader). x.pos) e ∙ omega arith
  fields-there (suc k) p r e h =
      let there = (steps-exact.of_field (at_place file p)).done (omega arith) in
      let next = ap (λ (x : KeyFileReader). (field_at x).after) e ∙ ap (λ (t : Taken ℕ). t.after) there in
      omega (arith, fields-there k (p + 4) (field_at r).after next (omega arith))

  on-there : 36 ≤ length file.now → take 8 file.now ≡ mark → (read_on file).pos ≡ 36
  on-there h e =
      let m = (steps-exact.of_mark (at_place file 0)).done (omega arith, e) in
      on-is ∙ fields-there 7 8 (mark_at (at_place file 0)).after (ap (λ (t : Taken (Unit {0})). t.after) m) h

  on-long : (read_on file).pos ≡ 36 → 36 ≤ length file.now
  on-long e =
      let first = mark-within (at_place file 0) in
      let rest = fields-within 7 (mark_at (at_place file 0)).after in
      let size = ap (λ (x : Bor (List ℕ)). length x.now) first.0 in
      let near = first.2 (omega arith) in
      let far = rest.2 (omega arith) in
      omega (arith, on-is)

  mark-left : bytes_eq (take 8 file.now) mark ≡ false → (mark_at (at_place file 0)).after.pos ≡ 0
  mark-left e =
      rw ((steps-exact.of_mark (at_place file 0)).refused (λ h. clash (bytes_eq (take 8 file.now) mark) (eq-bytes_eq (take 8 file.now) mark h.1) e))

  on-marked : (read_on file).pos ≡ 36 → take 8 file.now ≡ mark
  on-marked e = split (bytes_eq (take 8 file.now) mark) (λ h. bytes_eq-eq (take 8 file.now) mark h)
      (λ h. absurd (omega (arith, on-is, (fields-within 7 (mark_at (at_place file 0)).after).1, mark-left h)))

  pub reads-on : ((read_on file).pos ≡ 36) ↔ ((36 ≤ length file.now) × (take 8 file.now ≡ mark))
  reads-on = (λ e. (on-long e, on-marked e), λ h. on-there h.0 h.1)

-- ---- the file judged

pub is_well_formed : (f : List ℕ) → key_file_valid f ≡ true → WellFormed f
unfolding key_file_valid
is_well_formed f h =
    let a = both _ _ h in
    let b = both _ _ a.1 in
    let c = both _ _ b.1 in
    let d = both _ _ c.1 in
    record {
      header = leb-true 36 (length f) a.0;
      marked = bytes_eq-eq (take 8 f) mark b.0;
      version_0 = eqb-true (version_of f) 0 c.0;
      material_short = leb-true (material_length_of f) 444 d.0;
      whole = eqb-true (length f) (36 + material_length_of f) d.1;
    }

pub is-valid : (f : List ℕ) → WellFormed f → key_file_valid f ≡ true
unfolding key_file_valid
is-valid f v =
    let long = le-leb 36 (length f) v.header in
    let marked = eq-bytes_eq (take 8 f) mark v.marked in
    let version = eq-eqb (version_of f) 0 v.version_0 in
    let short = le-leb (material_length_of f) 444 v.material_short in
    rw (long, marked, version, short, eq-eqb (length f) (36 + material_length_of f) v.whole)

-- what is accepted, and what is refused
pub parse_done : (f : List ℕ) → WellFormed f → parse_key_file f ≡ Ok (record { attributes = attributes_of f; material_len = material_length_of f })
unfolding parse_key_file
parse_done f v = rw (is-valid f v)

pub parse_refused : (f : List ℕ) → (WellFormed f → ⊥) → parse_key_file f ≡ Err InvalidKeyFile
unfolding parse_key_file
parse_refused f n = split (key_file_valid f) (λ h. absurd (n (is_well_formed f h))) (λ h. rw h)

-- ---- the code's tests of a header that it has read, and of the material behind it

module _ (file : Bor (List ℕ)) where
  pub no_header : (refusal : Refusal) (r : KeyFileReader) → record { answer = Err refusal; after = r } ≡ read_header file → Err refusal ≡ parse_key_file file.now
  no_header refusal r e =
      let is = refusal-is file refusal r e in
      let none : WellFormed file.now → ⊥ =
      λ v. let z = ap (λ (t : Taken Header). t.answer) (e ∙ header-there file v.header v.marked) in absurd cc in
      ap (λ (x : Refusal). Err x) is ∙ sym (parse_refused file.now none)

  module _ (h : Header) (r : KeyFileReader) (e : record { answer = Ok h; after = r } ≡ read_header file) where
    whole : ◌≡◌ {A = Taken Header} (record { answer = Ok h; after = r }) (record { answer = Ok (header_of file.now); after = at_place file 36 })
    whole = e ∙ header_read file (sym (ap (λ (t : Taken Header). t.after.pos) e) ∙ header-is file h r e)

    header-own : h ≡ header_of file.now
    header-own = let z = ap (λ (t : Taken Header). t.answer) whole in cc

    reader-own : r ≡ at_place file 36
    reader-own = ap (λ (t : Taken Header). t.after) whole

    -- the reader's file is still the one that has this header
    pub file-own : read_header r.file ≡ read_header file
    file-own = ap (λ (x : KeyFileReader). read_header x.file) reader-own

    -- a header that no file has
    not-of-a-file : (WellFormed file.now → ⊥) → Err InvalidKeyFile ≡ parse_key_file file.now
    not-of-a-file n = sym (parse_refused file.now n)

    pub other_version : (h.version ≡ 0 → ⊥) → Err InvalidKeyFile ≡ parse_key_file file.now
    other_version n = not-of-a-file (λ v. n (ap (λ (x : Header). x.version) header-own ∙ v.version_0))

    pub more-material : 444 < h.material_len → Err InvalidKeyFile ≡ parse_key_file file.now
    more-material n = not-of-a-file (λ v. let k = ap (λ (x : Header). x.material_len) header-own in omega (arith, v.material_short))

    pub missing-bytes : (refusal : Refusal) (s : KeyFileReader) → record { answer = Err refusal; after = s } ≡ part_at r h.material_len
        → Err refusal ≡ parse_key_file file.now
    missing-bytes refusal s k =
        let n = h.material_len in
        let l = lacking r n refusal (ap (λ (t : Taken (Bor (List ℕ))). t.answer) k) in
        let here = ap (λ (x : KeyFileReader). x.pos) reader-own in
        let size = ap (λ (x : KeyFileReader). length x.file.now) reader-own in
        let long = ap (λ (x : Header). x.material_len) header-own in
        ap (λ (x : Refusal). Err x) l.is ∙ not-of-a-file (λ v. clash (has_bytes r n) (has-bytes r n (omega (arith, v.whole))) l.has_not)

    module _ (p : Bor (List ℕ)) (s : KeyFileReader) (k : record { answer = Ok p; after = s } ≡ part_at r h.material_len) where
      behind : s.pos ≡ 36 + material_length_of file.now
      behind =
          let n = h.material_len in
          let g = given r n p (ap (λ (t : Taken (Bor (List ℕ))). t.answer) k) in
          let end = ap (λ (t : Taken (Bor (List ℕ))). t.after.pos) (k ∙ (steps-exact.of_part r n).done g.room) in
          end ∙ λ i. (reader-own i).pos + (header-own i).material_len

      pub trailing_bytes : (s.pos ≡ length file.now → ⊥) → Err InvalidKeyFile ≡ parse_key_file file.now
      trailing_bytes n = not-of-a-file (λ v. n (behind ∙ sym v.whole))

      pub accepted : h.version ≡ 0 → h.material_len ≤ 444 → s.pos ≡ length file.now
          → Ok (record { attributes = h.attributes; material_len = h.material_len }) ≡ parse_key_file file.now
      accepted v n l =
          let read : (read_header file).after.pos ≡ 36 = sym (ap (λ (t : Taken Header). t.after.pos) e) ∙ header-is file h r e in
          let long = ap (λ (x : Header). x.material_len) header-own in
          let formed : WellFormed file.now = record {
            header = header-long file read;
            marked = header-marked file read;
            version_0 = sym (ap (λ (x : Header). x.version) header-own) ∙ v;
            material_short = omega arith;
            whole = sym l ∙ behind;
          } in
          ap (λ (x : Header). Ok (record { attributes = x.attributes; material_len = x.material_len })) header-own ∙ sym (parse_done file.now formed)
