-- What the words of this crate that statements use mean, in the library's own words: a word given another meaning breaks its law here, even where every
-- statement that uses it would still hold.
use Rattle.std.specs.Prelude.{◌≡◌, ◌≢◌, ◌⊎◌, ◌↔◌, true, false, List, ℕ, ◌+◌, ◌*◌, ◌/◌, ◌%◌, ◌^◌, ◌<◌, length, get_or, take, replicate}
use Rattle.std.specs.Int.Bits.{bit_or, bit_xor}
use Rattle.buffers.specs.Bytes.{bytes_eq, zeros, le_bytes, le_value, u16_at, u32_at}
use Rattle.buffers.specs.Compare.{precedes, diff_accumulate}

pub record ByteLaws : Type 0 where
  -- the test of two byte strings is their equality
  pub equal : (a b : List ℕ) → (bytes_eq a b ≡ true) ↔ (a ≡ b)
  -- a fill is zero at every length
  pub fill : (n : ℕ) → zeros n ≡ replicate n 0

-- up to i the two are equal, and there a ends, or has the smaller byte
pub record FirstDifference (a b : List ℕ) : Type 0 where
  pub i : ℕ
  pub in_range : i < length b
  pub same : take i a ≡ take i b
  pub smaller : (i ≡ length a) ⊎ ((i < length a) × (get_or a i 0 < get_or b i 0))

-- 02, No. 7: "byte order of their names (a prefix first)", a strict total order
pub record OrderLaws : Type 0 where
  pub exact : (a b : List ℕ) → (precedes a b ≡ true) ↔ FirstDifference a b
  pub irreflexive : (a : List ℕ) → precedes a a ≡ false
  pub transitive : (a b c : List ℕ) → precedes a b ≡ true → precedes b c ≡ true → precedes a c ≡ true
  pub total : (a b : List ℕ) → (precedes a b ≡ true) ⊎ (a ≡ b) ⊎ (precedes b a ≡ true)

-- 02, No. 3: what a comparison of CMACs hands back, and its yes
pub record DifferenceLaws : Type 0 where
  -- "the bitwise or of the sixteen pairs' exclusive ors", written out
  pub sixteen : (a b : List ℕ) → length a ≡ 16 → length b ≡ 16
      → let d : ℕ → ℕ = λ i. bit_xor (get_or a i 0) (get_or b i 0) in
      let or : ℕ → ℕ → ℕ = bit_or in
      let front = or (or (or (or (or (or (or (d 0) (d 1)) (d 2)) (d 3)) (d 4)) (d 5)) (d 6)) (d 7) in
      diff_accumulate a b ≡ or (or (or (or (or (or (or (or front (d 8)) (d 9)) (d 10)) (d 11)) (d 12)) (d 13)) (d 14)) (d 15)
  -- so a bit is set just where the two bytes of some pair differ in it
  pub bit : (a b : List ℕ) (k : ℕ) → length a ≡ length b
      → (diff_accumulate a b / 2 ^ k % 2 ≡ 1) ↔ ((i : ℕ) × (i < length a) × (get_or a i 0 / 2 ^ k % 2 ≢ get_or b i 0 / 2 ^ k % 2))
  -- of bytes it is a byte
  pub byte : (a b : List ℕ) → length a ≡ length b → ((i : ℕ) → (get_or a i 0 < 256) × (get_or b i 0 < 256)) → diff_accumulate a b < 256
  -- "yes is exactly a 0 there"
  pub yes : (a b : List ℕ) → length a ≡ length b → (diff_accumulate a b ≡ 0) ↔ (a ≡ b)

pub record NumberLaws : Type 0 where
  -- a number in k bytes: byte i counts 256 ^ i
  pub width : (k n : ℕ) → length (le_bytes k n) ≡ k
  pub digit : (k n i : ℕ) → i < k → get_or (le_bytes k n) i 0 ≡ n / 256 ^ i % 256
  -- it is read back from them
  pub value : (k n : ℕ) → n < 256 ^ k → le_value (le_bytes k n) ≡ n
  -- the 2-byte and the 4-byte number at an offset
  pub two : (l : List ℕ) (i : ℕ) → u16_at l i ≡ get_or l i 0 + 256 * get_or l (i + 1) 0
  pub four : (l : List ℕ) (i : ℕ) → u32_at l i ≡ u16_at l i + 65536 * u16_at l (i + 2)
