-- SP 800-38B, 6: the CMAC of a message, over a block cipher CIPH_K of 16-byte blocks.
use Rattle.std.specs.Prelude.{ℕ, zero, suc, ◌+◌, ◌-◌, ◌*◌, ◌/◌, ◌%◌, cond, List, [], ◌∷◌, ◌++◌, length, take, drop, replicate, ◌==◌, bit_xor, nat_lt, slice_index}
use mathlib.Core.List.{zip_with}
use Rattle.cipher.specs.Aes.{aes128}

-- the exclusive or of two byte strings, as long as the shorter
unfoldable pub xor_bytes : List ℕ → List ℕ → List ℕ
unfolding zip_with
xor_bytes a b = zip_with bit_xor a b

-- X << 1 of a string of bytes, its first bit lost: a byte gives its top bit to the one before it
unfoldable pub shift_left : List ℕ → List ℕ
shift_left [] = []
shift_left (b ∷ bs) = (2 * b % 256 + slice_index bs 0 / 128) ∷ shift_left bs

-- 5.3: R_128 is 120 zero bits, then 10000111
unfoldable pub r128 : List ℕ
r128 = replicate 15 0 ++ 0x87 ∷ []

-- 6.1, steps 2 and 3: one doubling, of L to K1 and of K1 to K2
unfoldable pub double : List ℕ → List ℕ
double b = cond (nat_lt (slice_index b 0) 128) (shift_left b) (xor_bytes (shift_left b) r128)

module _ (ciph : List ℕ → List ℕ) where
  -- 6.1: the subkeys
  unfoldable pub subkey1 : List ℕ
  subkey1 = double (ciph (replicate 16 0))

  unfoldable pub subkey2 : List ℕ
  subkey2 = double subkey1

  -- 6.2, step 4: the last block M_n* made whole
  unfoldable pub last_block : List ℕ → List ℕ
  last_block m = cond (length m == 16) (xor_bytes m subkey1) (xor_bytes (m ++ 0x80 ∷ replicate (15 - length m) 0) subkey2)

  -- 6.2, steps 5 and 6: C_i = CIPH_K(C_(i-1) ⊕ M_i) over the first n blocks of m, from C_0 = c
  unfoldable pub chain : ℕ → List ℕ → List ℕ → List ℕ
  chain zero c m = c
  chain (suc n) c m = chain n (ciph (xor_bytes c (take 16 m))) (drop 16 m)

  -- how many blocks stand before the last one, which is never empty unless the message is
  unfoldable pub before : List ℕ → ℕ
  before m = (length m - 1) / 16

  -- 6.2: the tag, all 128 bits of it
  unfoldable pub cmac_over : List ℕ → List ℕ
  cmac_over m = ciph (xor_bytes (chain (before m) (replicate 16 0) m) (last_block (drop (16 * before m) m)))

-- AES-128's CMAC
unfoldable pub cmac : List ℕ → List ℕ → List ℕ
cmac key m = cmac_over (aes128 key) m
