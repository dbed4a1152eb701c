-- Numbers in decimal, the highest digit first.
--   is_decimal, decimal_value      one or more digits, perhaps with leading zeros, and the number that they stand for
--   read                         what is read from a text, where the number may be at most `most`
--   places, digits, decimal_text  how many digits a number has, its last k digits, and its text
use Rattle.std.specs.Prelude.{Bool, true, cond, ◌&&◌, List, [], ◌∷◌, ◌++◌, ℕ, zero, suc, ◌+◌, ◌-◌, ◌*◌, ◌/◌, ◌%◌, Option, Some, None, leb, ltb, length}
use Rattle.text.specs.Hex.{within}

abbrev pub all_digits : List ℕ → Bool
all_digits [] = true
all_digits (c ∷ s) = within 0x30 0x39 c && all_digits s

unfoldable pub is_decimal : List ℕ → Bool
is_decimal s = ltb 0 (length s) && all_digits s

-- digits read after those that gave a value
abbrev pub value_after : ℕ → List ℕ → ℕ
value_after value [] = value
value_after value (c ∷ s) = value_after (10 * value + (c - 0x30)) s

abbrev pub decimal_value : List ℕ → ℕ
decimal_value s = value_after 0 s

unfoldable pub read : List ℕ → ℕ → Option ℕ
read s most = cond (is_decimal s && leb (decimal_value s) most) (Some (decimal_value s)) None

-- how many digits stand before the last ones where rest is left of a number; at most k are looked for
abbrev pub places_before : ℕ → ℕ → ℕ
places_before zero rest = 0
places_before (suc k) rest = cond (ltb 0 rest) (suc (places_before k (rest / 10))) 0

-- a 64-bit number has at most 20
unfoldable pub places : ℕ → ℕ
places n = suc (places_before 19 (n / 10))

-- the last k digits
abbrev pub digits : ℕ → ℕ → List ℕ
digits zero n = []
digits (suc k) n = digits k (n / 10) ++ (0x30 + n % 10) ∷ []

unfoldable pub decimal_text : ℕ → List ℕ
decimal_text n = digits (places n) n
