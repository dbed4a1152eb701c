-- Parts of a text, as the loops meet them. Assumes nothing.
use mathlib.Core.Path.{◌≡◌, refl, sym, ap, ◌∙◌}
use mathlib.Core.Bool.{cond}
use mathlib.Core.List.{List, [], ◌∷◌}
use Prim.Native.Nat.{ℕ, zero, suc, ◌+◌, ◌-◌, ◌≤◌, ◌<◌}
use native.Mathlib.Omega.{arith}
use lib.Dec.{eqb}
use lib.ListN.{length, get_or, take, drop}
use lib.Seq.{take-length}
use Rattle.text.specs.Scan.{index_of, slice}
use Rattle.text.specs.Parts.{before, parts, newline, lines, part_start}
use Rattle.text.proofs.Split.{split}

-- ---- how many there are

pub before-some : (x : ℕ) (ps : List (List ℕ)) → 0 < length ps → length (before x ps) ≡ length ps
before-some x [] h = absurd (omega arith)
before-some x (p ∷ ps) h = refl

-- ---- where part k starts

pub start_first : (separator : ℕ) (s : List ℕ) → part_start separator s 0 ≡ 0
start_first separator [] = refl
start_first separator (x ∷ s) = refl

pub start-within : (separator : ℕ) (s : List ℕ) (k : ℕ) → part_start separator s k ≤ length s
start-within separator [] k = omega arith
start-within separator (x ∷ s) zero = omega arith
start-within separator (x ∷ s) (suc k) = let h = start-within separator s (cond (eqb x separator) k (suc k)) in omega arith

-- ---- part k is the first of the text from its start on

pub before-first : (x : ℕ) (ps : List (List ℕ)) → get_or (before x ps) 0 [] ≡ x ∷ get_or ps 0 []
before-first x [] = refl
before-first x (p ∷ ps) = refl

before-later : (x : ℕ) (ps : List (List ℕ)) (k : ℕ) → get_or (before x ps) (suc k) [] ≡ get_or ps (suc k) []
before-later x [] k = refl
before-later x (p ∷ ps) k = refl

pub part-first : (separator : ℕ) (s : List ℕ) (k : ℕ) → get_or (parts separator s) k [] ≡ get_or (parts separator (drop (part_start separator s k) s)) 0 []
part-first separator [] zero = refl
part-first separator [] (suc k) = refl
part-first separator (x ∷ s) zero = refl
part-first separator (x ∷ s) (suc k) = split (eqb x separator)
    (λ e. rw e (part-first separator s k))
    (λ e. rw e (before-later x (parts separator s) k ∙ part-first separator s (suc k)))

first_found : (separator : ℕ) (s : List ℕ) → take (index_of separator s) s ≡ get_or (parts separator s) 0 []
first_found separator [] = refl
first_found separator (x ∷ s) = split (eqb x separator)
    (λ e. rw e)
    (λ e. rw e (ap (λ (l : List ℕ). x ∷ l) (first_found separator s) ∙ sym (before-first x (parts separator s))))

-- what lies between the start and the separator that is found from there on
pub part-found : (separator : ℕ) (s : List ℕ) (k from end : ℕ) → from ≡ part_start separator s k → end ≡ from + index_of separator (slice from (length s) s)
    → take (end - from) (drop from s) ≡ get_or (parts separator s) k []
part-found separator s k from end p q =
    let rest : drop from (take (length s) s) ≡ drop from s = ap (drop from) (take-length s) in
    let n : end - from ≡ index_of separator (drop from s) = omega (arith, q, ap (index_of separator) rest) in
    rw n (first_found separator (drop from s) ∙ rw p (sym (part-first separator s k)))

-- ---- a line is the part of its number

same-behind : (ls ps : List (List ℕ)) → ((k : ℕ) → get_or ls k [] ≡ get_or ps k []) → (k : ℕ) → get_or ([] ∷ ls) k [] ≡ get_or ([] ∷ ps) k []
same-behind ls ps same zero = refl
same-behind ls ps same (suc k) = same k

same-before : (x : ℕ) (ls ps : List (List ℕ)) → ((k : ℕ) → get_or ls k [] ≡ get_or ps k []) → (k : ℕ) → get_or (before x ls) k [] ≡ get_or (before x ps) k []
same-before x ls ps same zero = before-first x ls ∙ ap (λ (l : List ℕ). x ∷ l) (same 0) ∙ sym (before-first x ps)
same-before x ls ps same (suc k) = before-later x ls k ∙ same (suc k) ∙ sym (before-later x ps k)

pub line-part : (s : List ℕ) (k : ℕ) → get_or (lines s) k [] ≡ get_or (parts newline s) k []
line-part [] zero = refl
line-part [] (suc k) = refl
line-part (x ∷ s) k = split (eqb x newline)
    (λ e. rw e (same-behind (lines s) (parts newline s) (line-part s) k))
    (λ e. rw e (same-before x (lines s) (parts newline s) (line-part s) k))
