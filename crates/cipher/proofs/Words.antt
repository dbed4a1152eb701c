-- Words and the 32-bit numbers that hold them, and the S-box's entries. Assumes nothing.
use Rattle.std.proofs.Common.{◌≡◌, ℕ, zero, suc, ◌+◌, ◌*◌, ◌/◌, ◌%◌, ◌^◌, ◌<◌, get_or, sym, refl, ap, ◌∙◌, le_of_suc-le-suc, not-suc-le-zero, add-zero, zero-add, add_comm, arith, w32}
use Rattle.std.specs.Int.{rotate_right}
use Rattle.std.specs.Int.Bits.{bit_or, or_shifted_r}
use native.Mathlib.Nat.{div-div-eq-div-mul}
use lib.Bits.{bit_xor, xor_shr, xor_mod}
use Rattle.cipher.specs.Sbox.{sub_byte, sbox, table_from}
use Rattle.cipher.specs.Aes.{Word, State, number_word, word_number, xor_word, rot_word}

pub table_at : (f : ℕ → ℕ) (n i k : ℕ) → k < n → get_or (table_from f n i) k 0 ≡ f (i + k)
unfolding table_from
table_at f zero i k h = absurd (not-suc-le-zero h)
table_at f (suc n) i zero h = ap f (sym (add-zero i))
table_at f (suc n) i (suc k) h = table_at f n (suc i) k (le_of_suc-le-suc h) ∙ ap f (omega arith)

pub sbox-at : (b : ℕ) → b < 256 → get_or sbox b 0 ≡ sub_byte b
unfolding sbox
sbox-at b h = table_at sub_byte 256 0 b h ∙ ap sub_byte (zero-add b)

pub word-ext : {v w : Word} → v.b0 ≡ w.b0 → v.b1 ≡ w.b1 → v.b2 ≡ w.b2 → v.b3 ≡ w.b3 → v ≡ w
word-ext p q r s = λ i. record { b0 = p i; b1 = q i; b2 = r i; b3 = s i }

pub state-ext : {s t : State} → s.c0 ≡ t.c0 → s.c1 ≡ t.c1 → s.c2 ≡ t.c2 → s.c3 ≡ t.c3 → s ≡ t
state-ext p q r s = λ i. record { c0 = p i; c1 = q i; c2 = r i; c3 = s i }

-- a byte of an exclusive or
xor-byte : (k x y : ℕ) → bit_xor x y / 2 ^ k % 2 ^ 8 ≡ bit_xor (x / 2 ^ k % 2 ^ 8) (y / 2 ^ k % 2 ^ 8)
xor-byte k x y = ap (λ (n : ℕ). n % 2 ^ 8) (xor_shr x y k) ∙ xor_mod (x / 2 ^ k) (y / 2 ^ k) 8

pub number-xor : (x y : ℕ) → number_word (bit_xor x y) ≡ xor_word (number_word x) (number_word y)
unfolding number_word xor_word
number-xor x y = word-ext (xor-byte 24 x y) (xor-byte 16 x y) (xor-byte 8 x y) (xor_mod x y 8)

pub number_word_lem : (w : Word) → w.b0 < 256 → w.b1 < 256 → w.b2 < 256 → w.b3 < 256 → number_word (word_number w) ≡ w
unfolding number_word word_number
number_word_lem w h0 h1 h2 h3 = word-ext (omega arith) (omega arith) (omega arith) (omega arith)

-- A 32-bit number from its four bytes, each read by a division of its own.
pub record Bytes32 (x : ℕ) : Type 0 where
  pub sum : x ≡ x / 0x1000000 % 256 * 0x1000000 + x / 0x10000 % 256 * 0x10000 + x / 0x100 % 256 * 0x100 + x % 256
  pub top : x / 0x1000000 ≡ x / 0x1000000 % 256
  pub b0 : x / 0x1000000 % 256 < 256
  pub b1 : x / 0x10000 % 256 < 256
  pub b2 : x / 0x100 % 256 < 256
  pub b3 : x % 256 < 256

-- the same by repeated division, which `omega` follows
by-steps : (x q r s : ℕ) → q ≡ x / 256 → r ≡ q / 256 → s ≡ r / 256 → x < 2 ^ 32 → s < 256
by-steps x q r s eq er es h = omega arith

sum-steps : (x q r s : ℕ) → q ≡ x / 256 → r ≡ q / 256 → s ≡ r / 256 → s < 256
    → x ≡ s % 256 * 0x1000000 + r % 256 * 0x10000 + q % 256 * 0x100 + x % 256
sum-steps x q r s eq er es h = omega arith

pub bytes32 : (x : ℕ) → x < 2 ^ 32 → Bytes32 x
bytes32 x h =
    let r : x / 0x10000 ≡ x / 0x100 / 256 = sym (div-div-eq-div-mul x 0x100 256) in
    let s : x / 0x1000000 ≡ x / 0x10000 / 256 = sym (div-div-eq-div-mul x 0x10000 256) in
    let t : x / 0x1000000 < 256 = by-steps x (x / 0x100) (x / 0x10000) (x / 0x1000000) refl r s h in
    record {
      sum = sum-steps x (x / 0x100) (x / 0x10000) (x / 0x1000000) refl r s t;
      top = omega arith;
      b0 = omega arith;
      b1 = omega arith;
      b2 = omega arith;
      b3 = omega arith;
    }

pub word_number_lem : (x : ℕ) → x < 2 ^ 32 → word_number (number_word x) ≡ x
unfolding number_word word_number
word_number_lem x h = sym (bytes32 x h).sum

-- the word of a number that is given byte by byte
pub word_of : (x a b c d : ℕ) → a < 256 → b < 256 → c < 256 → d < 256 → x ≡ a * 0x1000000 + b * 0x10000 + c * 0x100 + d
    → number_word x ≡ record { b0 = a; b1 = b; b2 = c; b3 = d }
unfolding word_number
word_of x a b c d ha hb hc hd e = rw e (number_word_lem (record { b0 = a; b1 = b; b2 = c; b3 = d }) ha hb hc hd)

-- a number of four bytes, turned by one, two and three of them
module _ (w a b c d : ℕ) (ha : a < 256) (hb : b < 256) (hc : c < 256) (hd : d < 256) (e : w ≡ a * 0x1000000 + b * 0x10000 + c * 0x100 + d) where
  turn-1 : w / 0x100 + w % 0x100 * 0x1000000 ≡ d * 0x1000000 + a * 0x10000 + b * 0x100 + c
  turn-1 = omega arith

  turn-2 : w / 0x10000 + w % 0x10000 * 0x10000 ≡ c * 0x1000000 + d * 0x10000 + a * 0x100 + b
  turn-2 = omega arith

  turn_3 : w / 0x1000000 + w % 0x1000000 * 0x100 ≡ b * 0x1000000 + c * 0x10000 + d * 0x100 + a
  turn_3 = omega arith

-- std's rotation, in words
module _ (x : ℕ) (h : x < 2 ^ 32) where
  abbrev bytes : Bytes32 x
  bytes = bytes32 x h

  -- two parts that share no bit
  joined : (a k b : ℕ) → b < 2 ^ k → (x * 2 ^ k) % 2 ^ 32 ≡ a * 2 ^ k → bit_or b ((x * 2 ^ k) % 2 ^ 32) ≡ b + a * 2 ^ k
  joined a k b l e = ap (bit_or b) e ∙ or_shifted_r a k b l ∙ add_comm (a * 2 ^ k) b

  rotated-1 : rotate_right w32 x 8 ≡ x / 0x100 + x % 0x100 * 0x1000000
  rotated-1 = joined (x % 0x100) 24 (x / 0x100) (omega arith) (omega arith)

  rotated-2 : rotate_right w32 x 16 ≡ x / 0x10000 + x % 0x10000 * 0x10000
  rotated-2 = joined (x % 0x10000) 16 (x / 0x10000) (omega arith) (omega arith)

  rotated_3 : rotate_right w32 x 24 ≡ x / 0x1000000 + x % 0x1000000 * 0x100
  rotated_3 = joined (x % 0x1000000) 8 (x / 0x1000000) (omega arith) (omega arith)

  pub turned-1 : number_word (rotate_right w32 x 8) ≡ rot_word (rot_word (rot_word (number_word x)))
  unfolding number_word rot_word
  turned-1 =
      rw rotated-1
      (word_of _ _ _ _ _ bytes.b3 bytes.b0 bytes.b1 bytes.b2
      (turn-1 x _ _ _ _ bytes.b0 bytes.b1 bytes.b2 bytes.b3 bytes.sum))

  pub turned-2 : number_word (rotate_right w32 x 16) ≡ rot_word (rot_word (number_word x))
  unfolding number_word rot_word
  turned-2 =
      rw rotated-2
      (word_of _ _ _ _ _ bytes.b2 bytes.b3 bytes.b0 bytes.b1
      (turn-2 x _ _ _ _ bytes.b0 bytes.b1 bytes.b2 bytes.b3 bytes.sum))

  pub turned_3 : number_word (rotate_right w32 x 24) ≡ rot_word (number_word x)
  unfolding number_word rot_word
  turned_3 =
      rw rotated_3
      (word_of _ _ _ _ _ bytes.b1 bytes.b2 bytes.b3 bytes.b0
      (turn_3 x _ _ _ _ bytes.b0 bytes.b1 bytes.b2 bytes.b3 bytes.sum))
