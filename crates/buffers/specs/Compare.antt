-- Comparisons: the order of byte strings, and what a comparison hands back before anything is decided, a number that has every bit in which the two differ.
use Rattle.std.specs.Prelude.{Bool, true, false, ◌&&◌, ◌||◌, ℕ, fold, eqb, ltb}
use mathlib.Core.List.{List, [], ◌∷◌, zip_with}
use Rattle.std.specs.Int.Bits.{bit_or, bit_xor}

-- 02, No. 7: "byte order [..] (a prefix first)": the first byte that differs decides
abbrev pub precedes : List ℕ → List ℕ → Bool
precedes a [] = false
precedes [] (y ∷ b) = true
precedes (x ∷ a) (y ∷ b) = ltb x y || (eqb x y && precedes a b)

-- every bit that is set in some byte
unfoldable pub or_all : List ℕ → ℕ
or_all l = fold bit_or 0 l

-- 02, No. 3: "the bitwise or of the sixteen pairs' exclusive ors", of as many pairs as there are
unfoldable pub diff_accumulate : List ℕ → List ℕ → ℕ
diff_accumulate a b = or_all (zip_with bit_xor a b)
