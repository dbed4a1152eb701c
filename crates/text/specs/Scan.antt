-- The place of a byte in a list of bytes.
--   index_of     how many bytes stand before the first such byte; all of them where there is none
--   slice        the bytes from one place to another
use Rattle.std.specs.Prelude.{cond, List, [], ◌∷◌, ℕ, suc, eqb, take, drop}

abbrev pub index_of : ℕ → List ℕ → ℕ
index_of byte [] = 0
index_of byte (x ∷ s) = cond (eqb x byte) 0 (suc (index_of byte s))

abbrev pub slice : ℕ → ℕ → List ℕ → List ℕ
slice from to s = drop from (take to s)
