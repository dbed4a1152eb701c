-- A script read piece by piece, in bounded memory.
--   until_newline, ends_line, taken   what of a read belongs to the line, whether the line ends there, and how many bytes are used up
--   held, held_size                  what is kept of a line, as much as there is room for; one byte more than a line may have
--   held_lines                       the lines so kept, of all that is read
use Rattle.std.specs.Prelude.{Bool, false, cond, ◌||◌, List, [], ◌∷◌, ◌++◌, ℕ, suc, eqb, length, take}
use Rattle.text.specs.Parts.{newline}
use Rattle.script_replay.specs.Script.{line_limit}

abbrev pub until_newline : List ℕ → List ℕ
until_newline [] = []
until_newline (b ∷ s) = cond (eqb b newline) [] (b ∷ until_newline s)

abbrev pub ends_line : List ℕ → Bool
ends_line [] = false
ends_line (b ∷ s) = eqb b newline || ends_line s

-- with the newline, where there is one
abbrev pub taken : List ℕ → ℕ
taken s = cond (ends_line s) (suc (length (until_newline s))) (length (until_newline s))

-- of a line of which some bytes are held, and a read
abbrev pub held : ℕ → List ℕ → List ℕ → List ℕ
held room line part = take room (line ++ until_newline part)

-- so that what is kept of a line that is too long is too long
abbrev pub held_size : ℕ
held_size = suc line_limit

-- the lines of what is still to come, behind the bytes of a line that are held; at the end, bytes that are held are a line
abbrev pub held_lines : ℕ → List ℕ → List ℕ → List (List ℕ)
held_lines room line [] = cond (eqb (length line) 0) [] (line ∷ [])
held_lines room line (b ∷ s) = cond (eqb b newline) (line ∷ held_lines room [] s) (held_lines room (take room (line ++ b ∷ [])) s)
