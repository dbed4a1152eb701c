-- Parts of a text, which is a list of bytes.
--   parts        those between separators: fields, at tabs
--   lines        those that a newline ends, and what stands after the last newline, if anything does
--   part_start    where a part starts in the text
use Rattle.std.specs.Prelude.{cond, List, [], ◌∷◌, ℕ, zero, suc, ◌+◌, eqb}
use Rattle.std.specs.Borrow.{Bor}

-- a byte in front of the first part, or of none
abbrev pub before : ℕ → List (List ℕ) → List (List ℕ)
before x [] = (x ∷ []) ∷ []
before x (p ∷ ps) = (x ∷ p) ∷ ps

-- a text cut at separators, with what its end gives
abbrev pub cut : ℕ → List (List ℕ) → List ℕ → List (List ℕ)
cut separator end [] = end
cut separator end (x ∷ s) = cond (eqb x separator) ([] ∷ cut separator end s) (before x (cut separator end s))

-- the end of a text is the end of a part, be it an empty one
abbrev pub parts : ℕ → List ℕ → List (List ℕ)
parts separator s = cut separator ([] ∷ []) s

abbrev pub tab : ℕ
tab = 9

abbrev pub newline : ℕ
newline = 10

-- the end of a text ends a line only where bytes stand before it
abbrev pub lines : List ℕ → List (List ℕ)
lines s = cut newline [] s

-- how many bytes stand before part k; all of them where there are not so many parts
abbrev pub part_start : ℕ → List ℕ → ℕ → ℕ
part_start separator [] k = 0
part_start separator (x ∷ s) zero = 0
part_start separator (x ∷ s) (suc k) = suc (part_start separator s (cond (eqb x separator) k (suc k)))

-- the part's place in the lent text
abbrev pub part_place : Bor (List ℕ) → ℕ → ℕ → ℕ × ℕ
part_place s separator k = (s.ref_ptr.0, s.ref_ptr.1 + part_start separator s.now k)
