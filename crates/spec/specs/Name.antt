-- Names.
--   valid_name_byte, valid_name, valid_prefix   01: "A good name has 1 to 64 bytes", and which bytes 02, No. 1, lets it hold; a walk's prefix
--   hex_digits, key_name                        the name that a key is kept under
use Rattle.std.specs.Prelude.{Bool, cond, ◌&&◌, ◌||◌, List, [], ◌∷◌, ◌++◌, ℕ, zero, suc, ◌+◌, ◌/◌, ◌%◌, leb, ltb, length}
use Rattle.buffers.specs.Bytes.{every}

abbrev pub Name : Type 0
Name = List ℕ

-- 01: "each 0x21 to 0x7E"; 02, No. 1: "also [..] the byte 0x20 and bytes 0x80 to 0xFF"
unfoldable pub valid_name_byte : ℕ → Bool
valid_name_byte b = (leb 0x20 b && leb b 0x7e) || (leb 0x80 b && leb b 0xff)

-- 01: "good name"
unfoldable pub valid_name : Name → Bool
valid_name n = leb 1 (length n) && (leb (length n) 64 && every valid_name_byte n)

-- 01: a walk's prefix of 0 to 64 bytes, "each one that a good name may hold"
unfoldable pub valid_prefix : List ℕ → Bool
valid_prefix p = leb (length p) 64 && every valid_name_byte p

abbrev pub hex_digit : ℕ → ℕ
hex_digit d = cond (ltb d 10) (0x30 + d) (0x57 + d)

-- k hex digits, the highest first
abbrev pub hex_digits : ℕ → ℕ → List ℕ
hex_digits zero n = []
hex_digits (suc k) n = hex_digits k (n / 16) ++ hex_digit (n % 16) ∷ []

-- 01: "A key is kept under its identifier as 16 lower-case hex digits"; one outside 1 to 0xfffeffff is given as the empty name, which is refused
-- where a bad name is.
unfoldable pub key_name : ℕ → Name
key_name id = cond (leb 1 id && leb id 0xfffeffff) (hex_digits 16 id) []
