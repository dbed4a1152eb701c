-- The laws of parts and lines. Assumes nothing.
use mathlib.Core.Path.{◌≡◌, refl, sym, ap, ◌∙◌}
use mathlib.Core.Bool.{cond}
use mathlib.Core.List.{List, [], ◌∷◌, ◌++◌}
use Prim.Native.Nat.{ℕ, zero, suc, ◌+◌, ◌-◌, ◌≤◌, ◌<◌}
use native.Mathlib.Omega.{arith}
use borrow.Author.Tests.{eqb-true, eqb-false, eq-eqb, ne_eqb}
use lib.Dec.{eqb}
use lib.ListN.{length, get_or, take, drop}
use Rattle.std.specs.Prelude.{Some, count_by, ◌==◌, slice_get}
use Rattle.std.proofs.lemmas.List.Recursion.{is_count_by}
use Rattle.std.proofs.lemmas.Option.{slice_get_within, get_or_from_slice_get}
use Rattle.text.specs.Parts.{before, cut, parts, lines, newline, part_start}
use Rattle.text.specs.Laws.{ended, separators, Free, PartLaws, LineLaws}
use Rattle.text.proofs.Split.{split}
use Rattle.text.proofs.PartSteps.{before-some, before-first, part-first, line-part}

-- ---- a byte in front of the first part, where there is one

before-ended : (separator x : ℕ) (ps : List (List ℕ)) → 0 < length ps → ended separator (before x ps) ≡ x ∷ ended separator ps
before-ended separator x [] h = absurd (omega arith)
before-ended separator x (p ∷ ps) h = refl

before-ended-front : (separator x k : ℕ) (ps : List (List ℕ)) → 0 < length ps
    → ended separator (take (suc k) (before x ps)) ≡ x ∷ ended separator (take (suc k) ps)
before-ended-front separator x k [] h = absurd (omega arith)
before-ended-front separator x k (p ∷ ps) h = refl

cut-some : (separator : ℕ) (end : List (List ℕ)) (s : List ℕ) → 0 < length end → 0 < length (cut separator end s)
cut-some separator end [] h = h
cut-some separator end (x ∷ s) h = split (eqb x separator)
    (λ e. rw e (omega arith))
    (λ e. rw e (omega (arith, before-some x (cut separator end s) (cut-some separator end s h), cut-some separator end s h)))

-- ---- joined, free and counted

module _ (separator : ℕ) where
  parts-some : (s : List ℕ) → 0 < length (parts separator s)
  parts-some s = cut-some separator ([] ∷ []) s (omega arith)

  joined : (s : List ℕ) → ended separator (parts separator s) ≡ s ++ separator ∷ []
  joined [] = refl
  joined (x ∷ s) = split (eqb x separator)
      (λ e. let p = eqb-true x separator e in rw (e, joined s, p))
      (λ e. rw (e, before-ended separator x (parts separator s) (parts-some s), joined s))

  free-behind : (ps : List (List ℕ)) → Free separator ps → Free separator ([] ∷ ps)
  free-behind ps f zero i h e = omega arith
  free-behind ps f (suc k) i h e = f k i h e

  free-before : (x : ℕ) (ps : List (List ℕ)) → (x ≡ separator → ⊥) → Free separator ps → Free separator (before x ps)
  free-before x [] n f zero zero h e = n e
  free-before x [] n f zero (suc i) h e = omega arith
  free-before x [] n f (suc k) i h e = omega arith
  free-before x (p ∷ ps) n f zero zero h e = n e
  free-before x (p ∷ ps) n f zero (suc i) h e = f 0 i (omega arith) e
  free-before x (p ∷ ps) n f (suc k) i h e = f (suc k) i h e

  cut-free : (end : List (List ℕ)) → Free separator end → (s : List ℕ) → Free separator (cut separator end s)
  cut-free end f [] = f
  cut-free end f (x ∷ s) = split (eqb x separator)
      (λ e. rw e (free-behind (cut separator end s) (cut-free end f s)))
      (λ e. rw e (free-before x (cut separator end s) (eqb-false x separator e) (cut-free end f s)))

  none_free : Free separator []
  none_free k i h e = omega arith

  number : (s : List ℕ) → length (parts separator s) ≡ separators separator s + 1
  number [] = refl
  number (x ∷ s) = split (eqb x separator)
      (λ e. rw e (omega (arith, number s)))
      (λ e. rw e (before-some x (parts separator s) (parts-some s) ∙ number s))

  separators-count : (s : List ℕ) → separators separator s ≡ count_by (λ x. x == separator) s
  separators-count = is_count_by (separators separator) (λ x. x == separator) refl (λ x s. ap (λ (n : ℕ). cond (eqb x separator) n (separators separator s)) (omega arith))

  pub count-parts : (s : List ℕ) → length (parts separator s) ≡ count_by (λ x. x == separator) s + 1
  count-parts s = number s ∙ ap (λ (n : ℕ). n + 1) (separators-count s)

  -- ---- places

  first-there : (s : List ℕ) → take (length (get_or (parts separator s) 0 [])) s ≡ get_or (parts separator s) 0 []
  first-there [] = refl
  first-there (x ∷ s) = split (eqb x separator)
      (λ e. rw e)
      (λ e. rw (e, before-first x (parts separator s)) (ap (λ (l : List ℕ). x ∷ l) (first-there s)))

  there : (s : List ℕ) (k : ℕ) → let p = get_or (parts separator s) k [] in take (length p) (drop (part_start separator s k) s) ≡ p
  there s k = rw (part-first separator s k) (first-there (drop (part_start separator s k) s))

  start : (s : List ℕ) (k : ℕ) → k < length (parts separator s) → part_start separator s k ≡ length (ended separator (take k (parts separator s)))
  start [] zero h = refl
  start [] (suc k) h = absurd (omega arith)
  start (x ∷ s) zero h = refl
  start (x ∷ s) (suc k) h = split (eqb x separator)
      (λ e. rw e (ap suc (start s k (omega (arith, rw e at h)))))
      (λ e. rw (e, before-ended-front separator x k (parts separator s) (parts-some s))
      (ap suc (start s (suc k) (omega (arith, rw e at h, before-some x (parts separator s) (parts-some s))))))

  past : (s : List ℕ) (k : ℕ) → length (parts separator s) ≤ k → part_start separator s k ≡ length s
  past [] k h = refl
  past (x ∷ s) zero h = absurd (omega (arith, parts-some (x ∷ s)))
  past (x ∷ s) (suc k) h = split (eqb x separator)
      (λ e. rw e (ap suc (past s k (omega (arith, rw e at h)))))
      (λ e. rw e (ap suc (past s (suc k) (omega (arith, rw e at h, before-some x (parts separator s) (parts-some s))))))

  only-free : Free separator ([] ∷ [])
  only-free = free-behind [] none_free

  pub part-laws : PartLaws separator
  part-laws = record {
    joined = joined;
    free = cut-free ([] ∷ []) only-free;
    number = number;
    there = there;
    start = start;
    past = past;
    place = λ s k. refl;
  }

-- ---- lines

lines-some : (s : List ℕ) → 0 < length (lines (s ++ newline ∷ []))
lines-some [] = omega arith
lines-some (x ∷ s) = split (eqb x newline)
    (λ e. rw e (omega arith))
    (λ e. rw e (omega (arith, before-some x (lines (s ++ newline ∷ [])) (lines-some s), lines-some s)))

whole : (s : List ℕ) → ended newline (lines (s ++ newline ∷ [])) ≡ s ++ newline ∷ []
whole [] = refl
whole (x ∷ s) = split (eqb x newline)
    (λ e. let p = eqb-true x newline e in rw (e, whole s, p))
    (λ e. rw (e, before-ended newline x (lines (s ++ newline ∷ [])) (lines-some s), whole s))

lacking : (s : List ℕ) (x : ℕ) → (x ≡ newline → ⊥) → lines (s ++ x ∷ []) ≡ lines (s ++ x ∷ newline ∷ [])
lacking [] x h = rw (ne_eqb x newline h)
lacking (y ∷ s) x h = rw (lacking s x h)

before-any : (x : ℕ) (ps : List (List ℕ)) → 0 < length (before x ps)
before-any x [] = omega arith
before-any x (p ∷ ps) = omega arith

lines-any : (x : ℕ) (s : List ℕ) → 0 < length (lines (x ∷ s))
lines-any x s = split (eqb x newline) (λ e. rw e (omega arith)) (λ e. rw e (before-any x (lines s)))

-- how many there are, by the last byte
ended-count : (s : List ℕ) (k : ℕ) → length s ≡ suc k → get_or s k 0 ≡ newline → length (lines s) ≡ separators newline s
ended-count [] k h e = absurd (omega arith)
ended-count (x ∷ []) zero h e = rw (eq-eqb x newline e)
ended-count (x ∷ []) (suc k) h e = absurd (omega arith)
ended-count (x ∷ y ∷ s) zero h e = absurd (omega arith)
ended-count (x ∷ y ∷ s) (suc k) h e =
    let rest = ended-count (y ∷ s) k (omega arith) e in
    split (eqb x newline)
    (λ f. rw f (omega arith))
    (λ f. rw f (before-some x (lines (y ∷ s)) (lines-any y s) ∙ rest))

open-count : (s : List ℕ) (k : ℕ) → length s ≡ suc k → (get_or s k 0 ≡ newline → ⊥) → length (lines s) ≡ separators newline s + 1
open-count [] k h e = absurd (omega arith)
open-count (x ∷ []) zero h e = rw (ne_eqb x newline e)
open-count (x ∷ []) (suc k) h e = absurd (omega arith)
open-count (x ∷ y ∷ s) zero h e = absurd (omega arith)
open-count (x ∷ y ∷ s) (suc k) h e =
    let rest = open-count (y ∷ s) k (omega arith) e in
    split (eqb x newline)
    (λ f. rw f (omega arith))
    (λ f. rw f (before-some x (lines (y ∷ s)) (lines-any y s) ∙ rest))

-- the same, by what the library finds last
module _ (s : List ℕ) (x : ℕ) (last : Some x ≡ slice_get s (length s - 1)) where
  within : length s ≡ suc (length s - 1)
  within = let h = slice_get_within s (length s - 1) x (sym last) in omega arith

  here : get_or s (length s - 1) 0 ≡ x
  here = get_or_from_slice_get s (length s - 1) x 0 (sym last)

  pub count-ended : x ≡ newline → length (lines s) ≡ count_by (λ y. y == newline) s
  count-ended e = ended-count s (length s - 1) within (here ∙ e) ∙ separators-count newline s

  pub count-open : (x ≡ newline → ⊥) → length (lines s) ≡ count_by (λ y. y == newline) s + 1
  count-open e = open-count s (length s - 1) within (λ p. e (sym here ∙ p)) ∙ ap (λ (n : ℕ). n + 1) (separators-count newline s)

pub line-laws : LineLaws
line-laws = record {
  line_feed = refl;
  tabulator = refl;
  none = refl;
  whole = whole;
  lacking = lacking;
  free = cut-free newline [] (none_free newline);
  part = line-part;
}
