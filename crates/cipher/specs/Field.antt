-- FIPS 197, 4: bytes as elements of GF(2^8), the polynomials modulo m(x) = x^8 + x^4 + x^3 + x + 1.
use Rattle.std.specs.Prelude.{ℕ, zero, suc, ◌*◌, ◌/◌, ◌%◌, cond, bit_xor, nat_lt}

-- 4.2.1, xtime: times x. A left shift, less m(x), which is 0x11b, where x^8 appears.
unfoldable pub xtime : ℕ → ℕ
xtime b = cond (nat_lt b 128) (2 * b) (bit_xor (2 * b) 0x11b)

-- the sum of a * x^i over the bits i of b, lowest first, for the k bits that are left
unfoldable pub times : ℕ → ℕ → ℕ → ℕ
times zero a b = 0
times (suc k) a b = bit_xor (b % 2 * a) (times k (xtime a) (b / 2))

-- 4.2, the product of two bytes
unfoldable pub mul : ℕ → ℕ → ℕ
mul a b = times 8 a b
