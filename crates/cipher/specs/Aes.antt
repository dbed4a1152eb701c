-- FIPS 197, 5: AES with a key of 128 bits, encryption of one block. Bytes are numbers below 256, a block is a list of 16 of them.
use Rattle.std.specs.Prelude.{ℕ, zero, suc, ◌+◌, ◌*◌, ◌/◌, ◌%◌, List, [], ◌∷◌, ◌++◌, bit_xor, slice_index}
use Rattle.cipher.specs.Field.{xtime}
use Rattle.cipher.specs.Sbox.{sub_byte}

-- 3.5: a word is four bytes, and a column of the state
pub record Word : Type 0 where
  pub b0 : ℕ
  pub b1 : ℕ
  pub b2 : ℕ
  pub b3 : ℕ

-- 3.4: the state is four columns. Byte r of column c is byte r + 4 * c of the block.
pub record State : Type 0 where
  pub c0 : Word
  pub c1 : Word
  pub c2 : Word
  pub c3 : Word

unfoldable pub word_at : List ℕ → ℕ → Word
word_at l i = record { b0 = slice_index l i; b1 = slice_index l (i + 1); b2 = slice_index l (i + 2); b3 = slice_index l (i + 3) }

unfoldable pub state_of : List ℕ → State
state_of l = record { c0 = word_at l 0; c1 = word_at l 4; c2 = word_at l 8; c3 = word_at l 12 }

unfoldable pub word_bytes : Word → List ℕ
word_bytes w = w.b0 ∷ w.b1 ∷ w.b2 ∷ w.b3 ∷ []

unfoldable pub block_of : State → List ℕ
block_of s = word_bytes s.c0 ++ word_bytes s.c1 ++ word_bytes s.c2 ++ word_bytes s.c3

unfoldable pub xor_word : Word → Word → Word
xor_word v w = record { b0 = bit_xor v.b0 w.b0; b1 = bit_xor v.b1 w.b1; b2 = bit_xor v.b2 w.b2; b3 = bit_xor v.b3 w.b3 }

-- 5.2: SubWord and RotWord
unfoldable pub sub_word : Word → Word
sub_word w = record { b0 = sub_byte w.b0; b1 = sub_byte w.b1; b2 = sub_byte w.b2; b3 = sub_byte w.b3 }

unfoldable pub rot_word : Word → Word
rot_word w = record { b0 = w.b1; b1 = w.b2; b2 = w.b3; b3 = w.b0 }

-- 5.1.1: SubBytes
unfoldable pub sub_bytes : State → State
sub_bytes s = record { c0 = sub_word s.c0; c1 = sub_word s.c1; c2 = sub_word s.c2; c3 = sub_word s.c3 }

-- 5.1.2: ShiftRows. Row r moves r columns to the left; a column then has its byte r from r columns to its right.
unfoldable pub diagonal : Word → Word → Word → Word → Word
diagonal a b c d = record { b0 = a.b0; b1 = b.b1; b2 = c.b2; b3 = d.b3 }

unfoldable pub shift_rows : State → State
shift_rows s = record {
  c0 = diagonal s.c0 s.c1 s.c2 s.c3;
  c1 = diagonal s.c1 s.c2 s.c3 s.c0;
  c2 = diagonal s.c2 s.c3 s.c0 s.c1;
  c3 = diagonal s.c3 s.c0 s.c1 s.c2;
}

-- 5.1.3: MixColumns, equation 5.6. {02} • b is xtime b, and {03} • b is xtime b + b.
unfoldable pub mix_byte : ℕ → ℕ → ℕ → ℕ → ℕ
mix_byte a b c d = bit_xor (bit_xor (bit_xor (xtime a) (bit_xor (xtime b) b)) c) d

unfoldable pub mix_column : Word → Word
mix_column w = record {
  b0 = mix_byte w.b0 w.b1 w.b2 w.b3;
  b1 = mix_byte w.b1 w.b2 w.b3 w.b0;
  b2 = mix_byte w.b2 w.b3 w.b0 w.b1;
  b3 = mix_byte w.b3 w.b0 w.b1 w.b2;
}

unfoldable pub mix_columns : State → State
mix_columns s = record { c0 = mix_column s.c0; c1 = mix_column s.c1; c2 = mix_column s.c2; c3 = mix_column s.c3 }

-- 5.1.4: AddRoundKey. A round key is four words, w[4 * round] to w[4 * round + 3].
unfoldable pub add_round_key : State → State → State
add_round_key k s = record { c0 = xor_word s.c0 k.c0; c1 = xor_word s.c1 k.c1; c2 = xor_word s.c2 k.c2; c3 = xor_word s.c3 k.c3 }

-- 5.1, figure 5: the state after r rounds, the round keys being w 0, w 1, ..
unfoldable pub after_rounds : (ℕ → State) → ℕ → State → State
after_rounds w zero s = add_round_key (w zero) s
after_rounds w (suc r) s = add_round_key (w (suc r)) (mix_columns (shift_rows (sub_bytes (after_rounds w r s))))

-- nine rounds, and the last one without MixColumns
unfoldable pub cipher : (ℕ → State) → State → State
cipher w s = add_round_key (w 10) (shift_rows (sub_bytes (after_rounds w 9 s)))

-- 5.2: Rcon[i] is x^(i - 1), with three zero bytes after it
unfoldable pub rcon_byte : ℕ → ℕ
rcon_byte zero = 1
rcon_byte (suc i) = xtime (rcon_byte i)

unfoldable pub rcon : ℕ → Word
rcon i = record { b0 = rcon_byte i; b1 = 0; b2 = 0; b3 = 0 }

-- 5.2, figure 11, at Nk = 4: four more words. The first goes through RotWord, SubWord and Rcon[i + 1].
unfoldable pub next_round_key : ℕ → State → State
next_round_key i k =
    let w0 = xor_word k.c0 (xor_word (sub_word (rot_word k.c3)) (rcon i)) in
    let w1 = xor_word k.c1 w0 in
    let w2 = xor_word k.c2 w1 in
    let w3 = xor_word k.c3 w2 in
    record { c0 = w0; c1 = w1; c2 = w2; c3 = w3 }

-- the round keys of a 16-byte key
unfoldable pub round_key : List ℕ → ℕ → State
round_key key zero = state_of key
round_key key (suc r) = next_round_key r (round_key key r)

-- CIPH_K: a block encrypted under a key
unfoldable pub aes128 : List ℕ → List ℕ → List ℕ
aes128 key block = block_of (cipher (round_key key) (state_of block))

-- An expanded key is kept as 44 numbers of 32 bits, the words w[0] to w[43], each with its first byte highest.
unfoldable pub word_number : Word → ℕ
word_number w = w.b0 * 0x1000000 + w.b1 * 0x10000 + w.b2 * 0x100 + w.b3

unfoldable pub number_word : ℕ → Word
number_word x = record { b0 = x / 0x1000000 % 256; b1 = x / 0x10000 % 256; b2 = x / 0x100 % 256; b3 = x % 256 }

unfoldable pub state_numbers : State → List ℕ
state_numbers s = word_number s.c0 ∷ word_number s.c1 ∷ word_number s.c2 ∷ word_number s.c3 ∷ []

unfoldable pub expand_to : List ℕ → ℕ → List ℕ
expand_to key zero = state_numbers (round_key key zero)
expand_to key (suc r) = expand_to key r ++ state_numbers (round_key key (suc r))

unfoldable pub expand_key : List ℕ → List ℕ
expand_key key = expand_to key 10

-- the round keys that 44 numbers stand for, whatever they are
unfoldable pub kept_key : List ℕ → ℕ → State
kept_key ks r = record {
  c0 = number_word (slice_index ks (4 * r));
  c1 = number_word (slice_index ks (4 * r + 1));
  c2 = number_word (slice_index ks (4 * r + 2));
  c3 = number_word (slice_index ks (4 * r + 3));
}

-- a block encrypted under an expanded key
unfoldable pub encrypt_with : List ℕ → List ℕ → List ℕ
encrypt_with ks block = block_of (cipher (kept_key ks) (state_of block))
