-- What is proved of the definitions. `proofs/Theorems` has each statement with its proof. As far as can be, a statement says in the library's words what
-- a definition gives, so that another definition under the same name would not do.
use Rattle.std.specs.Prelude.{◌≡◌, ℕ, ◌+◌, ◌-◌, ◌*◌, ◌/◌, ◌%◌, ◌^◌, ◌<◌, ◌≤◌, List, [], ◌∷◌, ◌++◌, length, take, drop, set, replicate, bit_xor, slice_index, slice_set}
use mathlib.Core.List.{foldl, flatten, zip_with}
use Rattle.cipher.specs.declared.cmac.CmacState.{CmacState}
use Rattle.cipher.specs.Field.{xtime, mul}
use Rattle.cipher.specs.Sbox.{inverse, sub_byte, sbox}
use Rattle.cipher.specs.Aes.{aes128, expand_key, encrypt_with}
use Rattle.cipher.specs.Cmac.{xor_bytes, double, cmac}
use Rattle.cipher.specs.CmacState.{keyed, begun, fed, finished}
use Rattle.cipher.specs.Ctr.{be64, ctr_at, ctr}
use Rattle.cipher.specs.Kdf.{enc_prefix, auth_prefix, salt, kdf, derived_key}

-- FIPS 197, 4: the sum of bytes is the exclusive or. Times x is a left shift, less 0x11b where x^8 appears (4.2.1). 1 is the unit, the product
-- distributes over the sum, and the x of a factor can be drawn out: every byte is a sum of powers of x, so no other product obeys these three.
pub record FieldLaw : Type 0 where
  pub xtime_low : (b : ℕ) → b < 128 → xtime b ≡ 2 * b
  pub xtime_high : (b : ℕ) → 128 ≤ b → xtime b ≡ bit_xor (2 * b) 0x11b
  pub unit : (a : ℕ) → mul a 1 ≡ a
  pub distributes : (a b c : ℕ) → mul a (bit_xor b c) ≡ bit_xor (mul a b) (mul a c)
  pub times_x : (a b : ℕ) → a < 256 → b < 256 → mul a (xtime b) ≡ xtime (mul a b)
  pub commutes : (a b : ℕ) → a < 256 → b < 256 → mul a b ≡ mul b a

-- FIPS 197, 4.2: the inverse is one, for every byte but 0, and a byte
pub record InverseLaw : Type 0 where
  pub of_zero : inverse 0 ≡ 0
  pub product : (b : ℕ) → 0 < b → b < 256 → mul b (inverse b) ≡ 1
  pub fits : (b : ℕ) → b < 256 → inverse b < 256

-- 01: "inverse in the field, then the affine step", FIPS 197's rule (equation 5.1), over the whole table: bit i of an entry is the sum of bits
-- i, i + 4, i + 5, i + 6, i + 7, taken modulo 8, of the inverse, and of bit i of 0x63.
pub record SboxLaw : Type 0 where
  pub entries : length sbox ≡ 256
  pub entry : (b : ℕ) → b < 256 → slice_index sbox b ≡ sub_byte b
  pub fits : (b : ℕ) → b < 256 → slice_index sbox b < 256
  pub affine_by_bit : (b i : ℕ) → b < 256 → i < 8
      → let c = inverse b in
      slice_index sbox b / 2 ^ i % 2
      ≡ (c / 2 ^ i + c / 2 ^ ((i + 4) % 8) + c / 2 ^ ((i + 5) % 8) + c / 2 ^ ((i + 6) % 8) + c / 2 ^ ((i + 7) % 8) + 0x63 / 2 ^ i) % 2

-- FIPS 197, 5.1: what is encrypted under an expanded key is encrypted under the key
abbrev pub ExpandedKey : Type 0
ExpandedKey = (key : List ℕ) → ((i : ℕ) → slice_index key i < 256) → (block : List ℕ) → encrypt_with (expand_key key) block ≡ aes128 key block

-- SP 800-38B, 6.1: the doubling of a block. The bits move one place to the left, and where the first one is lost, 10000111 is added to the last byte.
pub record DoubleLaw : Type 0 where
  pub bytes : (b : List ℕ) → length b ≡ 16 → length (double b) ≡ 16
  pub byte_at : (b : List ℕ) (i : ℕ) → length b ≡ 16 → i < 15 → slice_index (double b) i ≡ 2 * slice_index b i % 256 + slice_index b (i + 1) / 128
  pub last_kept : (b : List ℕ) → length b ≡ 16 → slice_index b 0 < 128 → slice_index (double b) 15 ≡ 2 * slice_index b 15 % 256
  pub last_lost : (b : List ℕ) → length b ≡ 16 → 128 ≤ slice_index b 0 → slice_index (double b) 15 ≡ bit_xor (2 * slice_index b 15 % 256) 0x87

-- SP 800-38B, 6.2: the tag of one whole block, and of less than one; of a block with less than one behind it; and of a block with more behind it,
-- which is the tag of the rest with the encrypted block added to its front. Every message is one of these, so no other tag obeys them.
pub record CmacLaw : Type 0 where
  pub added : (a b : List ℕ) → xor_bytes a b ≡ zip_with bit_xor a b
  pub full : (key m : List ℕ) → length m ≡ 16 → cmac key m ≡ aes128 key (zip_with bit_xor m (double (aes128 key (replicate 16 0))))
  pub short : (key m : List ℕ) → length m < 16
      → cmac key m ≡ aes128 key (zip_with bit_xor (m ++ 0x80 ∷ replicate (15 - length m) 0) (double (double (aes128 key (replicate 16 0)))))
  pub block_short : (key b m : List ℕ) → length b ≡ 16 → 0 < length m → length m < 16
      → let last = zip_with bit_xor (m ++ 0x80 ∷ replicate (15 - length m) 0) (double (double (aes128 key (replicate 16 0)))) in
      cmac key (b ++ m) ≡ aes128 key (zip_with bit_xor (aes128 key b) last)
  pub block_more : (key b m : List ℕ) → length b ≡ 16 → 16 ≤ length m
      → cmac key (b ++ m) ≡ cmac key (zip_with bit_xor (aes128 key b) (take 16 m) ++ drop 16 m)

-- 01: a CMAC "is begun, fed and finished". What each does to the state; feeding, for one byte and for none, and `FeedAppend` says the rest. A
-- full block is encrypted when the next byte comes, since it may have been the last one.
pub record StateLaw : Type 0 where
  pub keyed_is : (key : List ℕ) → keyed key ≡ record { block = replicate 16 0; pending = 0; keys = expand_key key }
  pub begun_is : (s : CmacState) → begun s ≡ record { block = replicate 16 0; pending = 0; keys = s.keys }
  pub fed_none : (s : CmacState) → s.pending ≤ 16 → fed s [] ≡ s
  pub fed_short : (s : CmacState) (b : ℕ) → s.pending < 16
      → fed s (b ∷ [])
      ≡ record { block = slice_set s.block s.pending (bit_xor (slice_index s.block s.pending) b); pending = s.pending + 1; keys = s.keys }
  pub fed_full : (s : CmacState) (b : ℕ) → s.pending ≡ 16
      → fed s (b ∷ []) ≡ fed (record { block = encrypt_with s.keys s.block; pending = 0; keys = s.keys }) (b ∷ [])
  pub finished_none : (s : CmacState) → (finished s).pending ≡ 0
  pub finished_full : (s : CmacState) → s.pending ≡ 16
      → (finished s).block ≡ encrypt_with s.keys (zip_with bit_xor s.block (double (encrypt_with s.keys (replicate 16 0))))
  pub finished_short : (s : CmacState) → s.pending < 16
      → let closed = set s.block s.pending (bit_xor (slice_index s.block s.pending) 0x80) in
      (finished s).block ≡ encrypt_with s.keys (zip_with bit_xor closed (double (double (encrypt_with s.keys (replicate 16 0)))))

-- 01: "How the message is divided between feeds makes no difference", from any state
abbrev pub FeedAppend : Type 0
FeedAppend = (s : CmacState) (a b : List ℕ) → fed (fed s a) b ≡ fed s (a ++ b)

-- the finished state's block is SP 800-38B's tag of the whole message, whatever the division, and whatever the state held before it began
abbrev pub TagOfParts : Type 0
TagOfParts = (key : List ℕ) → ((i : ℕ) → slice_index key i < 256) → (s : CmacState) → s.keys ≡ expand_key key → (parts : List (List ℕ))
    → (finished (foldl fed (begun s) parts)).block ≡ cmac key (flatten parts)

-- What `cmac_tag`, `tag_parts` and `kdf_counter_cmac` promise is the tag of a state for the key that is begun, fed the parts and finished.
pub record OneShot : Type 0 where
  pub whole : (key : List ℕ) → ((i : ℕ) → slice_index key i < 256) → (m : List ℕ) → cmac key m ≡ (finished (fed (begun (keyed key)) m)).block
  pub parts : (key : List ℕ) → ((i : ℕ) → slice_index key i < 256) → (a b : List ℕ)
      → cmac key (a ++ b) ≡ (finished (fed (fed (begun (keyed key)) a) b)).block
  pub label : (key : List ℕ) → ((i : ℕ) → slice_index key i < 256) → (a b : List ℕ)
      → let labelled = fed (fed (fed (begun (keyed key)) (0x01 ∷ [])) a) b in
      kdf key (a ++ b) ≡ (finished (fed labelled (0x00 ∷ 0x00 ∷ 0x00 ∷ 0x00 ∷ 0x80 ∷ []))).block

-- a state stands for its key to the end, so that it can begin again
pub record KeysKept : Type 0 where
  pub in_fed : (s : CmacState) (m : List ℕ) → (fed s m).keys ≡ s.keys
  pub in_finished : (s : CmacState) → (finished s).keys ≡ s.keys

-- 01: "A state that claims more pending bytes than a block holds is taken as holding one full block."
pub record FullBlock : Type 0 where
  pub in_fed : (s : CmacState) (m : List ℕ) → 16 < s.pending → fed s m ≡ fed (record { block = s.block; pending = 16; keys = s.keys }) m
  pub in_finished : (s : CmacState) → 16 < s.pending → finished s ≡ finished (record { block = s.block; pending = 16; keys = s.keys })

-- a number as 8 bytes, the highest first
pub record BigEndian : Type 0 where
  pub bytes : (n : ℕ) → length (be64 n) ≡ 8
  pub byte_at : (n i : ℕ) → i < 8 → slice_index (be64 n) i ≡ n / 256 ^ (7 - i) % 256

-- SP 800-38A, 6.5, and 01: "the first counter block is the 8-byte IV, then a 64-bit big-endian count from 0. The last partial block uses the
-- front of its key stream." Byte j is added to byte j % 16 of the encrypted counter block j / 16, also in a partial block.
pub record CtrLaw : Type 0 where
  pub from_zero : (key iv m : List ℕ) (j : ℕ) → j < length m
      → slice_index (ctr key iv m) j ≡ bit_xor (slice_index m j) (slice_index (aes128 key (iv ++ be64 (j / 16))) (j % 16))
  pub from_count : (key iv : List ℕ) (count : ℕ) (m : List ℕ) (j : ℕ) → j < length m
      → slice_index (ctr_at key iv count m) j ≡ bit_xor (slice_index m j) (slice_index (aes128 key (iv ++ be64 ((count + j / 16) % 2 ^ 64))) (j % 16))

-- counter mode applied twice gives the message back
pub record CtrTwice : Type 0 where
  pub from_zero : (key iv m : List ℕ) → ctr key iv (ctr key iv m) ≡ m
  pub from_count : (key iv : List ℕ) (count : ℕ) (m : List ℕ) → ctr_at key iv count (ctr_at key iv count m) ≡ m

-- what stands further behind changes nothing: the front of a message alone gives the front of the whole
abbrev pub CtrFront : Type 0
CtrFront = (key iv m : List ℕ) (n : ℕ) → ctr key iv (take n m) ≡ take n (ctr key iv m)

-- 01: "CMAC under the 16-byte device key of the byte 01, the salt, the byte 00, and 00 00 00 80. The salt is "ENC" or "AUTH" followed by the name,
-- cut so that the whole salt has at most 32 bytes."
pub record DerivationLaw : Type 0 where
  pub enc : enc_prefix ≡ 0x45 ∷ 0x4e ∷ 0x43 ∷ []
  pub auth : auth_prefix ≡ 0x41 ∷ 0x55 ∷ 0x54 ∷ 0x48 ∷ []
  pub cut : (prefix name : List ℕ) → salt prefix name ≡ take 32 (prefix ++ name)
  pub uncut : (key label : List ℕ) → kdf key label ≡ cmac key (0x01 ∷ (label ++ 0x00 ∷ 0x00 ∷ 0x00 ∷ 0x00 ∷ 0x80 ∷ []))
  pub derived : (key prefix name : List ℕ)
      → derived_key key prefix name ≡ cmac key (0x01 ∷ (take 32 (prefix ++ name) ++ 0x00 ∷ 0x00 ∷ 0x00 ∷ 0x00 ∷ 0x80 ∷ []))

-- how long a block, a tag, a derived key and an encrypted message are
pub record LengthLaw : Type 0 where
  pub of_block : (key block : List ℕ) → length (aes128 key block) ≡ 16
  pub of_tag : (key m : List ℕ) → length (cmac key m) ≡ 16
  pub of_key : (key prefix name : List ℕ) → length (derived_key key prefix name) ≡ 16
  pub of_ctr : (key iv m : List ℕ) → length (ctr key iv m) ≡ length m
  pub of_ctr_at : (key iv : List ℕ) (count : ℕ) (m : List ℕ) → length (ctr_at key iv count m) ≡ length m
