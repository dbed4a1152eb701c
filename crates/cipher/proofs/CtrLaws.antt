-- Laws of counter mode. Assumes nothing.
use Rattle.std.proofs.Common.{◌≡◌, ℕ, zero, suc, ◌+◌, ◌-◌, ◌/◌, ◌%◌, ◌^◌, ◌<◌, List, [], ◌∷◌, ◌++◌, length, get_or, take, sym, refl, ap, ◌∙◌, le_of_suc-le-suc, not-suc-le-zero, zero-add, arith}
use lib.Bits.{bit_xor}
use lib.Seq.{take-nil}
use lib.Pow.{field, mod-mod-pow}
use Rattle.cipher.specs.Aes.{aes128}
use Rattle.cipher.specs.Ctr.{be64, counter_block, stream_byte, ctr_from, ctr_at, ctr}
use Rattle.cipher.specs.Laws.{BigEndian, CtrLaw, CtrTwice, CtrFront}
use Rattle.cipher.proofs.Xor.{xor-twice}

module _ (ciph : List ℕ → List ℕ) (iv : List ℕ) (count : ℕ) where
  from_at : (j : ℕ) (m : List ℕ) (i : ℕ) → i < length m
      → get_or (ctr_from ciph iv count j m) i 0 ≡ bit_xor (get_or m i 0) (stream_byte ciph iv count (j + i))
  unfolding ctr_from
  from_at j [] i h = absurd (not-suc-le-zero h)
  from_at j (b ∷ bs) zero h = ap (λ (k : ℕ). bit_xor b (stream_byte ciph iv count k)) (omega arith)
  from_at j (b ∷ bs) (suc i) h =
      from_at (suc j) bs i (le_of_suc-le-suc h) ∙ ap (λ (k : ℕ). bit_xor (get_or bs i 0) (stream_byte ciph iv count k)) (omega arith)

  from-twice : (j : ℕ) (m : List ℕ) → ctr_from ciph iv count j (ctr_from ciph iv count j m) ≡ m
  unfolding ctr_from
  from-twice j [] = refl
  from-twice j (b ∷ bs) = rw (xor-twice b (stream_byte ciph iv count j), from-twice (suc j) bs)

  pub from-length : (j : ℕ) (m : List ℕ) → length (ctr_from ciph iv count j m) ≡ length m
  unfolding ctr_from
  from-length j [] = refl
  from-length j (b ∷ bs) = ap suc (from-length (suc j) bs)

  from_front : (j : ℕ) (m : List ℕ) (n : ℕ) → ctr_from ciph iv count j (take n m) ≡ take n (ctr_from ciph iv count j m)
  unfolding ctr_from
  from_front j [] n = ap (ctr_from ciph iv count j) (take-nil n) ∙ sym (take-nil n)
  from_front j (b ∷ bs) zero = refl
  from_front j (b ∷ bs) (suc n) = ap (λ (l : List ℕ). bit_xor b (stream_byte ciph iv count j) ∷ l) (from_front (suc j) bs n)

ctr-at-byte : (key iv : List ℕ) (count : ℕ) (m : List ℕ) (j : ℕ) → j < length m
    → get_or (ctr_at key iv count m) j 0 ≡ bit_xor (get_or m j 0) (get_or (aes128 key (iv ++ be64 ((count + j / 16) % 2 ^ 64))) (j % 16) 0)
unfolding ctr_at stream_byte counter_block
ctr-at-byte key iv count m j h =
    from_at (aes128 key) iv count 0 m j h ∙ ap (λ (k : ℕ). bit_xor (get_or m j 0) (stream_byte (aes128 key) iv count k)) (zero-add j)

-- eight bytes tell a number up to 2^64
pub byte-wraps : (n j k : ℕ) → n % 2 ^ (j + 8 + k) / 2 ^ k % 2 ^ 8 ≡ n / 2 ^ k % 2 ^ 8
byte-wraps n j k = ap (λ (x : ℕ). x % 2 ^ 8) (field n (j + 8) k) ∙ mod-mod-pow (n / 2 ^ k) j 8

be64-wraps : (n : ℕ) → be64 (n % 2 ^ 64) ≡ be64 n
unfolding be64
be64-wraps n = λ i.
    byte-wraps n 0 56 i ∷ byte-wraps n 8 48 i ∷ byte-wraps n 16 40 i ∷ byte-wraps n 24 32 i ∷ byte-wraps n 32 24 i ∷ byte-wraps n 40 16 i
    ∷ byte-wraps n 48 8 i ∷ mod-mod-pow n 56 8 i ∷ []

pub ctr-law : CtrLaw
unfolding ctr
ctr-law = record {
  from_zero = λ key iv m j h.
      ctr-at-byte key iv 0 m j h
      ∙ ap (λ (l : List ℕ). bit_xor (get_or m j 0) (get_or (aes128 key (iv ++ l)) (j % 16) 0)) (be64-wraps (0 + j / 16) ∙ ap be64 (zero-add (j / 16)));
  from_count = ctr-at-byte;
}

pub ctr-twice : CtrTwice
unfolding ctr ctr_at
ctr-twice = record { from_zero = λ key iv m. from-twice (aes128 key) iv _ 0 m; from_count = λ key iv count m. from-twice (aes128 key) iv count 0 m }

pub ctr-front : CtrFront
unfolding ctr ctr_at
ctr-front key iv m n = from_front (aes128 key) iv _ 0 m n

pub ctr-at-length : (key iv : List ℕ) (count : ℕ) (m : List ℕ) → length (ctr_at key iv count m) ≡ length m
unfolding ctr_at
ctr-at-length key iv count m = from-length (aes128 key) iv count 0 m

pub ctr-length : (key iv m : List ℕ) → length (ctr key iv m) ≡ length m
unfolding ctr
ctr-length key iv m = ctr-at-length key iv _ m

-- the places of the eight bytes
byte_at : (n i : ℕ) → i < 8 → get_or (be64 n) i 0 ≡ n / 256 ^ (7 - i) % 256
unfolding be64
byte_at n zero h = refl
byte_at n (suc zero) h = refl
byte_at n (suc (suc zero)) h = refl
byte_at n (suc (suc (suc zero))) h = refl
byte_at n (suc (suc (suc (suc zero)))) h = refl
byte_at n (suc (suc (suc (suc (suc zero))))) h = refl
byte_at n (suc (suc (suc (suc (suc (suc zero)))))) h = refl
byte_at n (suc (suc (suc (suc (suc (suc (suc zero))))))) h = omega arith
byte_at n (suc (suc (suc (suc (suc (suc (suc (suc i)))))))) h = absurd (omega arith)

pub big_endian : BigEndian
unfolding be64
big_endian = record { bytes = λ n. refl; byte_at = byte_at }
