-- The table that the code of AES looks up beside the S-box.
use Rattle.std.specs.Prelude.{ℕ, List, map, bit_xor}
use Rattle.cipher.specs.Field.{xtime}
use Rattle.cipher.specs.Sbox.{sbox}
use Rattle.cipher.specs.Aes.{Word, word_number}

-- MixColumns of the column (s, 0, 0, 0)
unfoldable pub mix_word : ℕ → Word
mix_word s = record { b0 = xtime s; b1 = s; b2 = s; b3 = bit_xor (xtime s) s }

-- what a substitute adds to a mixed column, as a number
unfoldable pub mix_entry : ℕ → ℕ
mix_entry s = word_number (mix_word s)

-- for each byte, what its substitute adds
unfoldable pub mix_table : List ℕ
mix_table = map mix_entry sbox
