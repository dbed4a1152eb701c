-- Byte strings are lists of numbers.
--   every, any, is_some               tests of all and of some elements, and of an option
--   bytes_eq, all_zero                 tests of byte strings
--   zeros, zero_fill                  zero bytes, and as many as are missing
--   le_bytes, le_value                 little-endian numbers ("here and in every later layout"), in bytes and read from them
--   le_at, u16_at, u32_at               a number at an offset: of k bytes, of 2, of 4
--   put_at                            a byte string put over another
use Rattle.std.specs.Prelude.{Bool, true, false, ◌&&◌, ◌||◌, List, [], ◌∷◌, ◌++◌, ℕ, zero, suc, ◌+◌, ◌-◌, ◌*◌, ◌/◌, ◌%◌, eqb, length, take, drop, replicate}
use Rattle.std.proofs.Math.Option.{Option, none, some}

abbrev pub every : {A : Type 0} → (A → Bool) → List A → Bool
every t [] = true
every t (x ∷ xs) = t x && every t xs

abbrev pub any : {A : Type 0} → (A → Bool) → List A → Bool
any t [] = false
any t (x ∷ xs) = t x || any t xs

abbrev pub is_some : {A : Type 0} → Option A → Bool
is_some none = false
is_some (some a) = true

-- equal length and equal bytes
abbrev pub bytes_eq : List ℕ → List ℕ → Bool
bytes_eq [] [] = true
bytes_eq [] (y ∷ ys) = false
bytes_eq (x ∷ xs) [] = false
bytes_eq (x ∷ xs) (y ∷ ys) = eqb x y && bytes_eq xs ys

abbrev pub zeros : ℕ → List ℕ
zeros n = replicate n 0

abbrev pub all_zero : List ℕ → Bool
all_zero l = every (λ b. eqb b 0) l

-- zeros up to n bytes
abbrev pub zero_fill : ℕ → List ℕ → List ℕ
zero_fill n l = l ++ zeros (n - length l)

-- n in k bytes, lowest first
abbrev pub le_bytes : ℕ → ℕ → List ℕ
le_bytes zero n = []
le_bytes (suc k) n = n % 256 ∷ le_bytes k (n / 256)

-- the number that bytes stand for, lowest first
abbrev pub le_value : List ℕ → ℕ
le_value [] = 0
le_value (b ∷ bs) = b + 256 * le_value bs

-- the k-byte number at an offset
abbrev pub le_at : ℕ → List ℕ → ℕ → ℕ
le_at k l i = le_value (take k (drop i l))

abbrev pub u16_at : List ℕ → ℕ → ℕ
u16_at = le_at 2

abbrev pub u32_at : List ℕ → ℕ → ℕ
u32_at = le_at 4

-- a byte string with s in the place of its bytes from `at` on
abbrev pub put_at : List ℕ → ℕ → List ℕ → List ℕ
put_at d at s = take at d ++ (s ++ drop (at + length s) d)
