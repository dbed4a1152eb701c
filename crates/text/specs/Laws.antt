-- What the words of this crate mean, in the library's own words: a word given another meaning breaks its law here, even where the code that is proved
-- to compute it changes with it. `proofs/Theorems` has each statement with its proof.
use Rattle.std.specs.Prelude.{◌≡◌, ◌↔◌, ◌⊎◌, true, false, cond, List, [], ◌∷◌, ◌++◌, ℕ, suc, ◌+◌, ◌-◌, ◌*◌, ◌/◌, ◌%◌, ◌^◌, ◌≤◌, ◌<◌, Some, None, eqb, length, get_or, take, drop}
use Rattle.std.specs.Borrow.{Bor}
use Rattle.text.specs.Parts.{parts, tab, newline, lines, part_start, part_place}
use Rattle.text.specs.Written.{answer, left}
use Rattle.text.specs.Hex.{hex_value, is_hex, hex_bytes, hex_text}
use Rattle.text.specs.Decimal.{is_decimal, decimal_value, read, decimal_text}

-- parts, each with the separator behind it
abbrev pub ended : ℕ → List (List ℕ) → List ℕ
ended separator [] = []
ended separator (p ∷ ps) = p ++ separator ∷ ended separator ps

-- how many bytes of a text are the separator
abbrev pub separators : ℕ → List ℕ → ℕ
separators separator [] = 0
separators separator (x ∷ s) = cond (eqb x separator) (suc (separators separator s)) (separators separator s)

-- no part has the separator among its bytes
abbrev pub Free : ℕ → List (List ℕ) → Type 0
Free separator ps = (k i : ℕ) → i < length (get_or ps k []) → get_or (get_or ps k []) i 0 ≡ separator → ⊥

pub record PartLaws (separator : ℕ) : Type 0 where
  -- the parts, with a separator behind each, are the text with one behind it, and none has a separator: no other parts obey both
  pub joined : (s : List ℕ) → ended separator (parts separator s) ≡ s ++ separator ∷ []
  pub free : (s : List ℕ) → Free separator (parts separator s)
  pub number : (s : List ℕ) → length (parts separator s) ≡ separators separator s + 1
  -- a part stands where it starts, behind the parts before it; past the last part that is the end
  pub there : (s : List ℕ) (k : ℕ) → let p = get_or (parts separator s) k [] in take (length p) (drop (part_start separator s k) s) ≡ p
  pub start : (s : List ℕ) (k : ℕ) → k < length (parts separator s) → part_start separator s k ≡ length (ended separator (take k (parts separator s)))
  pub past : (s : List ℕ) (k : ℕ) → length (parts separator s) ≤ k → part_start separator s k ≡ length s
  -- it is lent from the text itself, from that byte on
  pub place : (s : Bor (List ℕ)) (k : ℕ) → part_place s separator k ≡ (s.ref_ptr.0, s.ref_ptr.1 + part_start separator s.now k)

-- a text is empty, or ends with a newline, or with another byte: there a newline more changes nothing
pub record LineLaws : Type 0 where
  pub line_feed : newline ≡ 0x0a
  pub tabulator : tab ≡ 0x09
  pub none : lines [] ≡ []
  pub whole : (s : List ℕ) → ended newline (lines (s ++ newline ∷ [])) ≡ s ++ newline ∷ []
  pub lacking : (s : List ℕ) (x : ℕ) → (x ≡ newline → ⊥) → lines (s ++ x ∷ []) ≡ lines (s ++ x ∷ newline ∷ [])
  pub free : (s : List ℕ) → Free newline (lines s)
  -- a line's place is that of the part of its number
  pub part : (s : List ℕ) (k : ℕ) → get_or (lines s) k [] ≡ get_or (parts newline s) k []

-- a buffer that is just long enough, with any bytes behind it; one that is too short; and an input that is not good
pub record WriteLaws : Type 0 where
  pub fits : (bytes out behind : List ℕ) → length out ≡ length bytes
      → (answer true bytes (out ++ behind) ≡ Some (length bytes)) × (left true bytes (out ++ behind) ≡ bytes ++ behind)
  pub short : (bytes out : List ℕ) → length out < length bytes → (answer true bytes out ≡ None) × (left true bytes out ≡ out)
  pub bad : (bytes out : List ℕ) → (answer false bytes out ≡ None) × (left false bytes out ≡ out)

-- "0123456789abcdef"
abbrev pub lower_digits : List ℕ
lower_digits = 0x30 ∷ 0x31 ∷ 0x32 ∷ 0x33 ∷ 0x34 ∷ 0x35 ∷ 0x36 ∷ 0x37 ∷ 0x38 ∷ 0x39 ∷ 0x61 ∷ 0x62 ∷ 0x63 ∷ 0x64 ∷ 0x65 ∷ 0x66 ∷ []

-- "0123456789ABCDEF"
abbrev pub upper_digits : List ℕ
upper_digits = 0x30 ∷ 0x31 ∷ 0x32 ∷ 0x33 ∷ 0x34 ∷ 0x35 ∷ 0x36 ∷ 0x37 ∷ 0x38 ∷ 0x39 ∷ 0x41 ∷ 0x42 ∷ 0x43 ∷ 0x44 ∷ 0x45 ∷ 0x46 ∷ []

pub record HexLaws : Type 0 where
  -- a digit's value is its place in one of the tables, and no other byte is a digit
  pub lower : (d : ℕ) → d < 16 → hex_value (get_or lower_digits d 0) ≡ d
  pub upper : (d : ℕ) → d < 16 → hex_value (get_or upper_digits d 0) ≡ d
  pub only : (c : ℕ) → hex_value c < 16 → (get_or lower_digits (hex_value c) 0 ≡ c) ⊎ (get_or upper_digits (hex_value c) 0 ≡ c)
  -- an even number of digits is read, and nothing else; each byte from its two digits
  pub good : (s : List ℕ) → (is_hex s ≡ true) ↔ ((length s % 2 ≡ 0) × ((i : ℕ) → i < length s → hex_value (get_or s i 0) < 16))
  pub width : (s : List ℕ) → length (hex_bytes s) ≡ length s / 2
  pub byte : (s : List ℕ) (i : ℕ) → 2 * i + 1 < length s → get_or (hex_bytes s) i 0 ≡ 16 * hex_value (get_or s (2 * i) 0) + hex_value (get_or s (2 * i + 1) 0)
  -- a byte is written as two digits in lower case, and read back
  pub written : (s : List ℕ) → length (hex_text s) ≡ 2 * length s
  pub high : (s : List ℕ) (i : ℕ) → i < length s → get_or s i 0 < 256 → get_or (hex_text s) (2 * i) 0 ≡ get_or lower_digits (get_or s i 0 / 16) 0
  pub low : (s : List ℕ) (i : ℕ) → i < length s → get_or (hex_text s) (2 * i + 1) 0 ≡ get_or lower_digits (get_or s i 0 % 16) 0
  pub back : (s : List ℕ) → ((i : ℕ) → get_or s i 0 < 256) → (is_hex (hex_text s) ≡ true) × (hex_bytes (hex_text s) ≡ s)

pub record DecimalLaws : Type 0 where
  -- one or more digits are read, and nothing else
  pub good : (s : List ℕ) → (is_decimal s ≡ true) ↔ ((0 < length s) × ((i : ℕ) → i < length s → (0x30 ≤ get_or s i 0) × (get_or s i 0 ≤ 0x39)))
  -- a digit with n behind it counts 10 ^ n
  pub none : decimal_value [] ≡ 0
  pub digit : (c : ℕ) (s : List ℕ) → decimal_value (c ∷ s) ≡ (c - 0x30) * 10 ^ length s + decimal_value s
  pub leading_zero : (s : List ℕ) → decimal_value (0x30 ∷ s) ≡ decimal_value s
  -- what is read: a good text of at most the most, and nothing else
  pub taken : (s : List ℕ) (most : ℕ) → is_decimal s ≡ true → decimal_value s ≤ most → read s most ≡ Some (decimal_value s)
  pub over : (s : List ℕ) (most : ℕ) → most < decimal_value s → read s most ≡ None
  pub bad : (s : List ℕ) (most : ℕ) → is_decimal s ≡ false → read s most ≡ None
  -- a written number is read back, and has no zero in front of another digit
  pub back : (n : ℕ) → n < 2 ^ 64 → (is_decimal (decimal_text n) ≡ true) × (decimal_value (decimal_text n) ≡ n)
  pub fewest : (n : ℕ) → n < 2 ^ 64 → 1 < length (decimal_text n) → 0x30 < get_or (decimal_text n) 0 0
