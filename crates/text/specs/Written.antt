-- What a function that writes to the front of a lent buffer answers and leaves. It is given whether its input is good, and the bytes to write.
--   answer       how many bytes it wrote, or nothing where it wrote none
--   left         the buffer: the bytes, then what was behind them; all as it was where it wrote nothing
use Rattle.std.specs.Prelude.{Bool, cond, ◌&&◌, List, ◌++◌, ℕ, Option, Some, None, leb, length, drop}

-- a good input whose bytes the buffer has room for
abbrev pub writes : Bool → List ℕ → List ℕ → Bool
writes good bytes out = good && leb (length bytes) (length out)

unfoldable pub answer : Bool → List ℕ → List ℕ → Option ℕ
answer good bytes out = cond (writes good bytes out) (Some (length bytes)) None

unfoldable pub left : Bool → List ℕ → List ℕ → List ℕ
left good bytes out = cond (writes good bytes out) (bytes ++ drop (length bytes) out) out
