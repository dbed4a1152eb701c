-- Bytes as pairs of hex digits, the high half first.
--   hex_value, is_hex_digit     a digit's value, in either case
--   is_hex, hex_bytes          whole pairs of digits, perhaps none, and the bytes that they stand for
--   hex_digit, hex_text        digits in lower case, and the text of bytes
use Rattle.std.specs.Prelude.{Bool, true, cond, ◌&&◌, List, [], ◌∷◌, ℕ, ◌+◌, ◌-◌, ◌*◌, ◌/◌, ◌%◌, leb, ltb, eqb, length}

abbrev pub within : ℕ → ℕ → ℕ → Bool
within low high c = leb low c && leb c high

-- 0-9, A-F and a-f; 16 for any other byte
unfoldable pub hex_value : ℕ → ℕ
hex_value c = cond (within 0x30 0x39 c) (c - 0x30) (cond (within 0x41 0x46 c) (c - 0x37) (cond (within 0x61 0x66 c) (c - 0x57) 16))

abbrev pub is_hex_digit : ℕ → Bool
is_hex_digit c = ltb (hex_value c) 16

abbrev pub all_hex_digits : List ℕ → Bool
all_hex_digits [] = true
all_hex_digits (c ∷ s) = is_hex_digit c && all_hex_digits s

unfoldable pub is_hex : List ℕ → Bool
is_hex s = eqb (length s % 2) 0 && all_hex_digits s

-- a last digit without a second stands for nothing
abbrev pub hex_bytes : List ℕ → List ℕ
hex_bytes [] = []
hex_bytes (a ∷ []) = []
hex_bytes (a ∷ b ∷ s) = (16 * hex_value a + hex_value b) ∷ hex_bytes s

abbrev pub hex_digit : ℕ → ℕ
hex_digit d = cond (ltb d 10) (0x30 + d) (0x57 + d)

abbrev pub hex_text : List ℕ → List ℕ
hex_text [] = []
hex_text (b ∷ s) = hex_digit (b / 16) ∷ hex_digit (b % 16) ∷ hex_text s
