-- A read's bytes behind those that are held of a line, as the code puts them there. Assumes nothing.
use mathlib.Core.Path.{◌≡◌, refl, sym, ap, ◌∙◌}
use mathlib.Core.Bool.{true, false}
use mathlib.Core.List.{List, [], ◌∷◌, ◌++◌, append_assoc, append-nil}
use Prim.Native.Nat.{ℕ, suc, ◌+◌, ◌-◌, ◌≤◌, ◌<◌, min}
use native.Mathlib.Omega.{arith}
use borrow.Author.Tests.{leb-true, leb-false}
use borrow.Rule.Slice.PartMut.{put_mid}
use lib.Dec.{eqb, leb}
use lib.ListN.{length, take, drop, length-take, length-drop, length-append, drop_of_length-le}
use lib.Seq.{take_all, take-length, take-append-add, drop-drop}
use Rattle.text.specs.Scan.{slice, index_of}
use Rattle.buffers.proofs.Lists.{front, rest_part}
use Rattle.buffers.proofs.Split.{split}
use Rattle.text.specs.Parts.{newline}
use Rattle.script_replay.specs.Script.{at_front}
use Rattle.script_replay.specs.declared.gather.Gathered.{Gathered}
use Rattle.script_replay.specs.Stream.{until_newline, ends_line, taken, held}

-- what is answered
abbrev gathered : ℕ → List ℕ → List ℕ → Gathered
gathered room line part = record { len = length (held room line part); taken = taken part; whole = ends_line part }

-- ---- the newline

index-until : (s : List ℕ) → index_of newline s ≡ length (until_newline s)
index-until [] = refl
index-until (b ∷ s) = split (eqb b newline) (λ e. rw e refl) (λ e. rw e (ap suc (index-until s)))

take-until : (s : List ℕ) → take (length (until_newline s)) s ≡ until_newline s
take-until [] = refl
take-until (b ∷ s) = split (eqb b newline) (λ e. rw e refl) (λ e. rw e (ap (λ (l : List ℕ). b ∷ l) (take-until s)))

-- `scan::find` on all of a read, and the part before what it found
module _ (part : List ℕ) (end : ℕ) (e : end ≡ 0 + index_of newline (slice 0 (length part) part)) where
  pub found-until : end ≡ length (until_newline part)
  found-until = e ∙ omega (arith, ap (index_of newline) (take-length part) ∙ index-until part)

  pub part-until : take (end - 0) (drop 0 part) ≡ until_newline part
  part-until = front end part ∙ ap (λ (k : ℕ). take k part) found-until ∙ take-until part

ends : (s : List ℕ) → length (until_newline s) < length s → ends_line s ≡ true
ends [] h = absurd (omega arith)
ends (b ∷ s) h = split (eqb b newline) (λ e. rw e refl) (λ e. rw e (ends s (omega (arith, rw e at h))))

goes_on : (s : List ℕ) → length s ≤ length (until_newline s) → ends_line s ≡ false
goes_on [] h = refl
goes_on (b ∷ s) h = split (eqb b newline) (λ e. absurd (omega (arith, rw e at h))) (λ e. rw e (goes_on s (omega (arith, rw e at h))))

module _ (room : ℕ) (line part : List ℕ) (len end : ℕ) (l : len ≡ length (held room line part)) (e : end ≡ length (until_newline part)) where
  pub line-ended : end < length part → record { len = len; taken = end + 1; whole = true } ≡ gathered room line part
  line-ended h = rw (l, e, ends part (omega (arith, e))) (λ i. record { len = length (held room line part); taken = one i; whole = true })
    where
      one : length (until_newline part) + 1 ≡ suc (length (until_newline part))
      one = omega arith

  pub line_open : length part ≤ end → record { len = len; taken = end; whole = false } ≡ gathered room line part
  line_open h = rw (l, e, goes_on part (omega (arith, e))) refl

-- ---- what is held

take_min : (k : ℕ) (l : List ℕ) → take k l ≡ take (min k (length l)) l
take_min k l = split (leb k (length l))
    (λ e. let z : k ≡ min k (length l) = omega (arith, leb-true k (length l) e) in ap (λ (j : ℕ). take j l) z)
    (λ e. let z : length l ≡ min k (length l) = omega (arith, leb-false k (length l) e) in
    take_all k l (omega (arith, leb-false k (length l) e)) ∙ sym (take-length l) ∙ ap (λ (j : ℕ). take j l) z)

-- how many bytes are copied, of a read's part into the rest of the line's buffer
copied-count : (line part src : List ℕ) (at n : ℕ) → n ≡ min (length (take (length line - at) (drop at line))) (length src) → src ≡ until_newline part
    → n ≡ min (length line - at) (length (until_newline part))
copied-count line part src at n p e =
    omega (arith, p, length-take (length line - at) (drop at line), length-drop at line, ap (λ (l : List ℕ). length l) e)

module _ (line part : List ℕ) (len at n : ℕ) (e : at ≡ min len (length line)) (m : n ≡ min (length line - at) (length (until_newline part))) where
  abbrev tail : List ℕ
  tail = take n (until_newline part)

  held-parts : held (length line) (take len line) part ≡ take at line ++ tail
  held-parts =
      let u = until_newline part in
      let l : length line ≡ length (take at line) + (length line - at) = omega (arith, length-take at line) in
      ap (λ (x : List ℕ). take (length line) (x ++ u)) (take_min len line ∙ ap (λ (k : ℕ). take k line) (sym e))
      ∙ ap (λ (k : ℕ). take k (take at line ++ u)) l
      ∙ take-append-add (take at line) u (length line - at)
      ∙ ap (λ (x : List ℕ). take at line ++ x) (take_min (length line - at) u ∙ ap (λ (k : ℕ). take k u) (sym m))

  held-length : at + n ≡ length (held (length line) (take len line) part)
  held-length = omega (arith, ap (λ (l : List ℕ). length l) held-parts, length-append (take at line) tail, length-take at line, length-take n (until_newline part))

  held-put : (last : List ℕ) → last ≡ tail ++ drop n (take (length line - at) (drop at line))
      → put_mid at (length line - at) line last ≡ at_front (held (length line) (take len line) part) line
  held-put last p =
      let none : drop (length line - at) (drop at line) ≡ [] = drop_of_length-le (drop at line) {i = length line - at} (omega (arith, length-drop at line)) in
      let h = held (length line) (take len line) part in
      rw (p, rest_part line at, none, append-nil (tail ++ drop n (drop at line)), drop-drop n at line)
      (sym (append_assoc (take at line) tail (drop (at + n) line)))
      ∙ ap (λ (k : ℕ). (take at line ++ tail) ++ drop k line) held-length
      ∙ ap (λ (l : List ℕ). l ++ drop (length h) line) (sym held-parts)

-- both, as the copy tells them
pub held-copied : (line part src last : List ℕ) (len at n : ℕ) → at ≡ min len (length line) → src ≡ until_newline part
    → n ≡ min (length (take (length line - at) (drop at line))) (length src) → last ≡ take n src ++ drop n (take (length line - at) (drop at line))
    → (at + n ≡ length (held (length line) (take len line) part))
    × (put_mid at (length line - at) line last ≡ at_front (held (length line) (take len line) part) line)
held-copied line part src last len at n e u p q =
    let m = copied-count line part src at n p u in (
      held-length line part len at n e m,
      held-put line part len at n e m last (q ∙ ap (λ (l : List ℕ). take n l ++ drop n (take (length line - at) (drop at line))) u),
    )

-- ---- bounds

until-within : (s : List ℕ) → length (until_newline s) ≤ length s
until-within s = omega (arith, ap (λ (l : List ℕ). length l) (take-until s), length-take (length (until_newline s)) s)

pub taken-within : (s : List ℕ) → taken s ≤ length s
taken-within s = split (leb (length s) (length (until_newline s)))
    (λ e. let h = leb-true (length s) (length (until_newline s)) e in rw (goes_on s h) (until-within s))
    (λ e. let h = leb-false (length s) (length (until_newline s)) e in rw (ends s (omega (arith, h))) (omega (arith, h)))

-- of a read's part, as the code lends it
pub gathered-within : (room from to : ℕ) (line chunk : List ℕ) (r : Gathered) → r ≡ gathered room line (take (to - from) (drop from chunk))
    → (r.taken ≤ to - from) × (r.len ≤ room)
gathered-within room from to line chunk r e =
    let part = take (to - from) (drop from chunk) in (
      omega (arith, ap (λ (g : Gathered). g.taken) e, taken-within part, length-take (to - from) (drop from chunk)),
      omega (arith, ap (λ (g : Gathered). g.len) e, length-take room (line ++ until_newline part)),
    )
