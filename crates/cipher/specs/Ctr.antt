-- SP 800-38A, 6.5: counter mode, with 01's counter block.
use Rattle.std.specs.Prelude.{ℕ, suc, ◌+◌, ◌/◌, ◌%◌, ◌^◌, List, [], ◌∷◌, ◌++◌, bit_xor, slice_index}
use Rattle.cipher.specs.Aes.{aes128}

-- a number below 2^64 as 8 bytes, the highest first
unfoldable pub be64 : ℕ → List ℕ
be64 n =
    n / 2 ^ 56 % 256 ∷ n / 2 ^ 48 % 256 ∷ n / 2 ^ 40 % 256 ∷ n / 2 ^ 32 % 256
    ∷ n / 2 ^ 24 % 256 ∷ n / 2 ^ 16 % 256 ∷ n / 2 ^ 8 % 256 ∷ n % 256 ∷ []

-- T_j: the 8-byte IV, then a 64-bit big-endian count
unfoldable pub counter_block : List ℕ → ℕ → List ℕ
counter_block iv count = iv ++ be64 count

-- over a block cipher CIPH_K
module _ (ciph : List ℕ → List ℕ) where
  -- byte j of the key stream: byte j % 16 of the output block O of block j / 16. The count wraps at 2^64.
  unfoldable pub stream_byte : List ℕ → ℕ → ℕ → ℕ
  stream_byte iv count j = slice_index (ciph (counter_block iv ((count + j / 16) % 2 ^ 64))) (j % 16)

  -- bytes j, j + 1, .. of a message, each added to its byte of the key stream
  unfoldable pub ctr_from : List ℕ → ℕ → ℕ → List ℕ → List ℕ
  ctr_from iv count j [] = []
  ctr_from iv count j (b ∷ bs) = bit_xor b (stream_byte iv count j) ∷ ctr_from iv count (suc j) bs

-- a message in counter mode from a start count: encryption and decryption alike
unfoldable pub ctr_at : List ℕ → List ℕ → ℕ → List ℕ → List ℕ
ctr_at key iv count m = ctr_from (aes128 key) iv count 0 m

-- 01: the count starts at 0
unfoldable pub ctr : List ℕ → List ℕ → List ℕ → List ℕ
ctr key iv m = ctr_at key iv 0 m
