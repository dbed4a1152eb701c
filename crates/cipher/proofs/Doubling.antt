-- The doubling of a block in four 32-bit numbers. Assumes nothing.
use Rattle.std.proofs.Common.{◌≡◌, ℕ, ◌+◌, ◌*◌, ◌/◌, ◌%◌, ◌^◌, ◌<◌, ◌≤◌, List, get_or, sym, ap, ◌∙◌, arith, lit<, le-ltb, lt-ltb}
use lib.Bits.{bit_xor, xor_zero_r}
use Rattle.cipher.specs.Aes.{Word, number_word, word_bytes, block_of, xor_word, add_round_key}
use Rattle.cipher.specs.Cmac.{xor_bytes, shift_left, r128, double}
use Rattle.cipher.specs.Columns.{words_state}
use Rattle.cipher.proofs.Words.{bytes32, word_of, word-ext, state-ext, number-xor}
use Rattle.cipher.proofs.States.{block-sum}

-- the bits of a one place to the left, and the first of b behind them
abbrev shifted : ℕ → ℕ → ℕ
shifted a b = a % 0x80000000 * 2 + b / 0x80000000

-- in bytes: each gives its top bit to the one before it
first_bit : (b u v w x : ℕ) → v < 256 → w < 256 → x < 256 → b ≡ u * 0x1000000 + v * 0x10000 + w * 0x100 + x → b / 0x80000000 ≡ u / 128
first_bit b u v w x hv hw hx e = omega arith

without-first : (a p q r s : ℕ) → q < 256 → r < 256 → s < 256 → a ≡ p * 0x1000000 + q * 0x10000 + r * 0x100 + s
    → a % 0x80000000 ≡ p % 128 * 0x1000000 + q * 0x10000 + r * 0x100 + s
without-first a p q r s hq hr hs e = omega arith

carried : (n m q r s t p q₁ q₂ r₁ r₂ s₁ s₂ : ℕ) → n ≡ m * 0x1000000 + q * 0x10000 + r * 0x100 + s
    → m * 2 ≡ p → q * 2 ≡ q₁ * 256 + q₂ → r * 2 ≡ r₁ * 256 + r₂ → s * 2 ≡ s₁ * 256 + s₂
    → n * 2 + t ≡ (p + q₁) * 0x1000000 + (q₂ + r₁) * 0x10000 + (r₂ + s₁) * 0x100 + (s₂ + t)
carried n m q r s t p q₁ q₂ r₁ r₂ s₁ s₂ e em eq er es = omega arith

carry : (q : ℕ) → q * 2 ≡ q / 128 * 256 + 2 * q % 256
carry q = omega arith

top : (p : ℕ) → p % 128 * 2 ≡ 2 * p % 256
top p = omega arith

shift-sum : (a b p q r s u v w x : ℕ) → q < 256 → r < 256 → s < 256 → v < 256 → w < 256 → x < 256
    → a ≡ p * 0x1000000 + q * 0x10000 + r * 0x100 + s → b ≡ u * 0x1000000 + v * 0x10000 + w * 0x100 + x
    → shifted a b
    ≡ (2 * p % 256 + q / 128) * 0x1000000 + (2 * q % 256 + r / 128) * 0x10000 + (2 * r % 256 + s / 128) * 0x100 + (2 * s % 256 + u / 128)
shift-sum a b p q r s u v w x hq hr hs hv hw hx ea eb =
    ap (λ (n : ℕ). a % 0x80000000 * 2 + n) (first_bit b u v w x hv hw hx eb)
    ∙ carried (a % 0x80000000) (p % 128) q r s (u / 128) _ _ _ _ _ _ _ (without-first a p q r s hq hr hs ea) (top p) (carry q) (carry r) (carry s)

byte_fits : (p q : ℕ) → q < 256 → 2 * p % 256 + q / 128 < 256
byte_fits p q h = omega arith

shifted-word : (a b : ℕ) → a < 2 ^ 32 → b < 2 ^ 32
    → let v = number_word a in
    number_word (shifted a b)
    ≡ record {
      b0 = 2 * v.b0 % 256 + v.b1 / 128;
      b1 = 2 * v.b1 % 256 + v.b2 / 128;
      b2 = 2 * v.b2 % 256 + v.b3 / 128;
      b3 = 2 * v.b3 % 256 + (number_word b).b0 / 128;
    }
unfolding number_word
shifted-word a b ha hb =
    let v = bytes32 a ha in
    let w = bytes32 b hb in
    word_of _ _ _ _ _ (byte_fits _ _ v.b1) (byte_fits _ _ v.b2) (byte_fits _ _ v.b3) (byte_fits _ _ w.b0)
    (shift-sum a b _ _ _ _ _ _ _ _ v.b1 v.b2 v.b3 w.b1 w.b2 w.b3 v.sum w.sum)

-- R_128 added to the last of four numbers
none-added : (w : Word) → xor_word w (record { b0 = 0; b1 = 0; b2 = 0; b3 = 0 }) ≡ w
unfolding xor_word
none-added w = word-ext (xor_zero_r _) (xor_zero_r _) (xor_zero_r _) (xor_zero_r _)

last-added : (a b c d : ℕ) → block_of (words_state a b c (bit_xor d 0x87)) ≡ xor_bytes (block_of (words_state a b c d)) r128
unfolding words_state r128 add_round_key block_of word_bytes number_word
last-added a b c d =
    ap block_of (state-ext (sym (none-added _)) (sym (none-added _)) (sym (none-added _)) (number-xor d 0x87))
    ∙ block-sum (words_state 0 0 0 0x87) (words_state a b c d)

module _ (a b c d : ℕ) (ha : a < 2 ^ 32) (hb : b < 2 ^ 32) (hc : c < 2 ^ 32) (hd : d < 2 ^ 32) where
  shift-block : block_of (words_state (shifted a b) (shifted b c) (shifted c d) (shifted d 0)) ≡ shift_left (block_of (words_state a b c d))
  unfolding words_state block_of word_bytes shift_left number_word
  shift-block =
      ap block_of (state-ext (shifted-word a b ha hb) (shifted-word b c hb hc) (shifted-word c d hc hd) (shifted-word d 0 hd (lit< tt)))

  first_byte : get_or (block_of (words_state a b c d)) 0 0 ≡ a / 0x1000000
  unfolding words_state block_of word_bytes number_word
  first_byte = sym (bytes32 a ha).top

  pub double-low : a < 0x80000000
      → block_of (words_state (shifted a b) (shifted b c) (shifted c d) (shifted d 0)) ≡ double (block_of (words_state a b c d))
  unfolding double
  double-low h = rw (lt-ltb (get_or (block_of (words_state a b c d)) 0 0) 128 (rw first_byte (omega arith))) shift-block

  pub double-high : 0x80000000 ≤ a
      → block_of (words_state (shifted a b) (shifted b c) (shifted c d) (bit_xor (shifted d 0) 0x87)) ≡ double (block_of (words_state a b c d))
  unfolding double
  double-high h =
      rw (le-ltb (get_or (block_of (words_state a b c d)) 0 0) 128 (rw first_byte (omega arith)))
      (last-added (shifted a b) (shifted b c) (shifted c d) (shifted d 0) ∙ ap (λ (l : List ℕ). xor_bytes l r128) shift-block)
