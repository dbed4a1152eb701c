-- FIPS 197, 5.1.1: the substitution of a byte, by its rule.
use Rattle.std.specs.Prelude.{ℕ, zero, suc, ◌+◌, ◌*◌, ◌/◌, ◌%◌, ◌^◌, List, [], ◌∷◌}
use Rattle.cipher.specs.Field.{mul}

-- Step 1, the multiplicative inverse, and 0 for 0: the 254th power, by squaring. That it is an inverse is `InverseLaw`.
unfoldable pub inverse : ℕ → ℕ
inverse b =
    let b2 = mul b b in
    let b3 = mul b2 b in
    let b6 = mul b3 b3 in
    let b12 = mul b6 b6 in
    let b15 = mul b12 b3 in
    let b30 = mul b15 b15 in
    let b60 = mul b30 b30 in
    let b120 = mul b60 b60 in
    let b240 = mul b120 b120 in
    mul (mul b240 b12) b2

unfoldable pub bit : ℕ → ℕ → ℕ
bit b i = b / 2 ^ i % 2

-- Step 2, equation 5.1: bit i of the result is the sum of bits i, i + 4, i + 5, i + 6, i + 7, taken modulo 8, and of bit i of 0x63.
unfoldable pub affine_bit : ℕ → ℕ → ℕ
affine_bit b i = (bit b i + bit b ((i + 4) % 8) + bit b ((i + 5) % 8) + bit b ((i + 6) % 8) + bit b ((i + 7) % 8) + bit 0x63 i) % 2

unfoldable pub affine : ℕ → ℕ
affine b =
    affine_bit b 0 + 2 * affine_bit b 1 + 4 * affine_bit b 2 + 8 * affine_bit b 3
    + 16 * affine_bit b 4 + 32 * affine_bit b 5 + 64 * affine_bit b 6 + 128 * affine_bit b 7

-- the S-box: the inverse in the field, then the affine step
unfoldable pub sub_byte : ℕ → ℕ
sub_byte b = affine (inverse b)

-- f at i, i + 1, .., for n numbers
unfoldable pub table_from : (ℕ → ℕ) → ℕ → ℕ → List ℕ
table_from f zero i = []
table_from f (suc n) i = f i ∷ table_from f n (suc i)

-- figure 7: the S-box as a table of 256 bytes
unfoldable pub sbox : List ℕ
sbox = table_from sub_byte 256 0
