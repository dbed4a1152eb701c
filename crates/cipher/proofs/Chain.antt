-- The tag of a message by its blocks, and the doubling of a block by its bytes. Assumes nothing.
use Rattle.std.proofs.Common.{◌≡◌, ℕ, zero, suc, ◌+◌, ◌-◌, ◌*◌, ◌/◌, ◌%◌, ◌<◌, ◌≤◌, eqb, ltb, List, [], ◌∷◌, ◌++◌, length, get_or, take, drop, replicate, sym, refl, ap, ◌∙◌, ap₂, append-nil, le_of_suc-le-suc, not-suc-le-zero, add-zero, add-one, arith, length-append, length-drop, drop_of_length-le, length-take-le, take_all, drop-drop, take_at, drop_at, ltb-false, ltb-true, le-ltb, lt-ltb, eq-eqb, ne_eqb, eqb-true}
use mathlib.Core.List.{zip_with}
use lib.Bits.{bit_xor, xor_zero_r}
use lib.ListN.{length-replicate}
use lib.ListN.{get_or-replicate, get_or-append, get_or-eq_default}
use borrow.Author.Tests.{eqb-false}
use Rattle.cipher.specs.Aes.{aes128}
use Rattle.cipher.specs.Cmac.{xor_bytes, shift_left, r128, double, subkey1, subkey2, last_block, chain, before, cmac_over, cmac}
use Rattle.cipher.specs.Laws.{DoubleLaw, CmacLaw}
use Rattle.cipher.proofs.Cases.{by-test}
use Rattle.cipher.proofs.Lengths.{aes_length}
use Rattle.cipher.proofs.Tag.{xor-bytes-assoc}

-- exclusive or of byte strings
xor-at : (a b : List ℕ) (i : ℕ) → i < length a → i < length b → get_or (xor_bytes a b) i 0 ≡ bit_xor (get_or a i 0) (get_or b i 0)
unfolding xor_bytes zip_with
xor-at [] b i h k = absurd (not-suc-le-zero h)
xor-at (x ∷ a) [] i h k = absurd (not-suc-le-zero k)
xor-at (x ∷ a) (y ∷ b) zero h k = refl
xor-at (x ∷ a) (y ∷ b) (suc i) h k = xor-at a b i (le_of_suc-le-suc h) (le_of_suc-le-suc k)

pub xor-length : (a b : List ℕ) → length a ≤ length b → length (xor_bytes a b) ≡ length a
unfolding xor_bytes zip_with
xor-length [] b h = refl
xor-length (x ∷ a) [] h = absurd (not-suc-le-zero h)
xor-length (x ∷ a) (y ∷ b) h = ap suc (xor-length a b (le_of_suc-le-suc h))

xor-short : (a b : List ℕ) → length (xor_bytes a b) ≤ length a
unfolding xor_bytes zip_with
xor-short [] b = omega arith
xor-short (x ∷ a) [] = omega arith
xor-short (x ∷ a) (y ∷ b) = omega (arith, xor-short a b)

pub zero_xor : (n : ℕ) (b : List ℕ) → length b ≤ n → xor_bytes (replicate n 0) b ≡ b
unfolding xor_bytes zip_with
zero_xor zero [] h = refl
zero_xor zero (x ∷ b) h = absurd (not-suc-le-zero h)
zero_xor (suc n) [] h = refl
zero_xor (suc n) (x ∷ b) h = ap (λ (l : List ℕ). x ∷ l) (zero_xor n b (le_of_suc-le-suc h))

-- the doubling
shift-length : (b : List ℕ) → length (shift_left b) ≡ length b
unfolding shift_left
shift-length [] = refl
shift-length (x ∷ b) = ap suc (shift-length b)

shift-at : (b : List ℕ) (i : ℕ) → i < length b → get_or (shift_left b) i 0 ≡ 2 * get_or b i 0 % 256 + get_or b (suc i) 0 / 128
unfolding shift_left
shift-at [] i h = absurd (not-suc-le-zero h)
shift-at (x ∷ b) zero h = refl
shift-at (x ∷ b) (suc i) h = shift-at b i (le_of_suc-le-suc h)

r128-length : length r128 ≡ 16
unfolding r128
r128-length = refl

r128-zero : (i : ℕ) → i < 15 → get_or r128 i 0 ≡ 0
unfolding r128
r128-zero i h = get_or-append (replicate 15 0) (0x87 ∷ []) 0 i h ∙ get_or-replicate 15 i 0 0 h

module _ (b : List ℕ) (h : length b ≡ 16) where
  low : get_or b 0 0 < 128 → double b ≡ shift_left b
  unfolding double
  low k = rw (lt-ltb (get_or b 0 0) 128 k)

  high : 128 ≤ get_or b 0 0 → double b ≡ xor_bytes (shift_left b) r128
  unfolding double
  high k = rw (le-ltb (get_or b 0 0) 128 k)

  either : {A : Type 0} → (get_or b 0 0 < 128 → A) → (128 ≤ get_or b 0 0 → A) → A
  either f g = by-test (ltb (get_or b 0 0) 128) (λ e. f (ltb-true (get_or b 0 0) 128 e)) (λ e. g (ltb-false (get_or b 0 0) 128 e))

  shifted : length (shift_left b) ≡ 16
  shifted = shift-length b ∙ h

  double-length : length (double b) ≡ 16
  double-length =
      either (λ k. ap length (low k) ∙ shifted)
      (λ k. ap length (high k) ∙ xor-length (shift_left b) r128 (omega (arith, r128-length, shifted)) ∙ shifted)

  added-at : (i : ℕ) → i < 16 → get_or (xor_bytes (shift_left b) r128) i 0 ≡ bit_xor (get_or (shift_left b) i 0) (get_or r128 i 0)
  added-at i k = xor-at (shift_left b) r128 i (omega (arith, shifted)) (omega (arith, r128-length))

  double-at : (i : ℕ) → i < 15 → get_or (double b) i 0 ≡ 2 * get_or b i 0 % 256 + get_or b (i + 1) 0 / 128
  double-at i k =
      let moved : get_or (shift_left b) i 0 ≡ 2 * get_or b i 0 % 256 + get_or b (i + 1) 0 / 128 =
      shift-at b i (omega arith) ∙ sym (ap (λ (n : ℕ). 2 * get_or b i 0 % 256 + get_or b n 0 / 128) (add-one i)) in
      either (λ l. ap (λ (d : List ℕ). get_or d i 0) (low l) ∙ moved)
      (λ l.
      ap (λ (d : List ℕ). get_or d i 0) (high l) ∙ added-at i (omega arith)
      ∙ ap (bit_xor (get_or (shift_left b) i 0)) (r128-zero i k) ∙ xor_zero_r (get_or (shift_left b) i 0) ∙ moved)

  last-shifted : get_or (shift_left b) 15 0 ≡ 2 * get_or b 15 0 % 256
  last-shifted =
      shift-at b 15 (omega arith) ∙ ap (λ (n : ℕ). 2 * get_or b 15 0 % 256 + n / 128) (get_or-eq_default b 0 {n = 16} (omega arith)) ∙ add-zero _

  last-low : get_or b 0 0 < 128 → get_or (double b) 15 0 ≡ 2 * get_or b 15 0 % 256
  last-low k = ap (λ (d : List ℕ). get_or d 15 0) (low k) ∙ last-shifted

  last-high : 128 ≤ get_or b 0 0 → get_or (double b) 15 0 ≡ bit_xor (2 * get_or b 15 0 % 256) 0x87
  unfolding r128
  last-high k = ap (λ (d : List ℕ). get_or d 15 0) (high k) ∙ added-at 15 (omega arith) ∙ ap (λ (n : ℕ). bit_xor n 0x87) last-shifted

pub double-law : DoubleLaw
double-law = record { bytes = double-length; byte_at = λ b i h k. double-at b h i k; last_kept = last-low; last_lost = last-high }

module _ (ciph : List ℕ → List ℕ) where
  -- what is encrypted last, from the chaining block c
  abbrev closing : List ℕ → List ℕ → List ℕ
  closing c m = xor_bytes (chain ciph (before ciph m) c m) (last_block ciph (drop (16 * before ciph m) m))

  close-one : (c m : List ℕ) → length m ≤ 16 → closing c m ≡ xor_bytes c (last_block ciph m)
  unfolding before chain
  close-one c m h = let none : (length m - 1) / 16 ≡ 0 = omega arith in rw none

  close_more : (c m : List ℕ) → 16 < length m → closing c m ≡ closing (ciph (xor_bytes c (take 16 m))) (drop 16 m)
  unfolding before chain
  close_more c m h =
      let n = (length (drop 16 m) - 1) / 16 in
      let more : (length m - 1) / 16 ≡ suc n = rw (length-drop 16 m) (omega arith) in
      let next : 16 * suc n ≡ 16 + 16 * n = omega arith in
      rw more (ap (λ (l : List ℕ). xor_bytes (chain ciph n (ciph (xor_bytes c (take 16 m))) (drop 16 m)) (last_block ciph l))
      (ap (λ (k : ℕ). drop k m) next ∙ sym (drop-drop (16 * n) 16 m)))

  last-full : (m : List ℕ) → length m ≡ 16 → last_block ciph m ≡ xor_bytes m (subkey1 ciph)
  unfolding last_block
  last-full m h = rw (eq-eqb (length m) 16 h)

  last-short : (m : List ℕ) → length m < 16 → last_block ciph m ≡ xor_bytes (m ++ 0x80 ∷ replicate (15 - length m) 0) (subkey2 ciph)
  unfolding last_block
  last-short m h = rw (ne_eqb (length m) 16 (λ q. omega arith))

  padded : (m : List ℕ) → length m < 16 → length (m ++ 0x80 ∷ replicate (15 - length m) 0) ≡ 16
  padded m h = length-append m (0x80 ∷ replicate (15 - length m) 0) ∙ rw length-replicate (omega arith)

  tag-full : (m : List ℕ) → length m ≡ 16 → cmac_over ciph m ≡ ciph (xor_bytes m (subkey1 ciph))
  unfolding cmac_over
  tag-full m h =
      ap ciph
      (close-one (replicate 16 0) m (omega arith) ∙ ap (xor_bytes (replicate 16 0)) (last-full m h)
      ∙ zero_xor 16 (xor_bytes m (subkey1 ciph)) (omega (arith, xor-short m (subkey1 ciph))))

  tag-short : (m : List ℕ) → length m < 16 → cmac_over ciph m ≡ ciph (xor_bytes (m ++ 0x80 ∷ replicate (15 - length m) 0) (subkey2 ciph))
  unfolding cmac_over
  tag-short m h =
      let p = m ++ 0x80 ∷ replicate (15 - length m) 0 in
      ap ciph
      (close-one (replicate 16 0) m (omega arith) ∙ ap (xor_bytes (replicate 16 0)) (last-short m h)
      ∙ zero_xor 16 (xor_bytes p (subkey2 ciph)) (omega (arith, xor-short p (subkey2 ciph), padded m h)))

  -- a block in front
  tag-behind : (b m : List ℕ) → length b ≡ 16 → 0 < length m → cmac_over ciph (b ++ m) ≡ ciph (closing (ciph b) m)
  unfolding cmac_over
  tag-behind b m h k =
      ap ciph
      (close_more (replicate 16 0) (b ++ m) (rw (length-append b m) (omega arith))
      ∙ ap₂ (λ (x y : List ℕ). closing (ciph x) y) (ap (xor_bytes (replicate 16 0)) (take_at b m 16 h) ∙ zero_xor 16 b (omega arith)) (drop_at b m 16 h))

  tag-block-short : (b m : List ℕ) → length b ≡ 16 → 0 < length m → length m < 16
      → cmac_over ciph (b ++ m) ≡ ciph (xor_bytes (ciph b) (xor_bytes (m ++ 0x80 ∷ replicate (15 - length m) 0) (subkey2 ciph)))
  tag-block-short b m h k l = tag-behind b m h k ∙ ap ciph (close-one (ciph b) m (omega arith) ∙ ap (xor_bytes (ciph b)) (last-short m l))

  tag-block-more : (b m : List ℕ) → length b ≡ 16 → length (ciph b) ≡ 16 → 16 ≤ length m
      → cmac_over ciph (b ++ m) ≡ cmac_over ciph (xor_bytes (ciph b) (take 16 m) ++ drop 16 m)
  tag-block-more b m h k l =
      let front = take 16 m in
      let rest = drop 16 m in
      let x = xor_bytes (ciph b) front in
      let sized : length x ≡ 16 = xor-length (ciph b) front (omega (arith, length-take-le 16 m l)) ∙ k in
      tag-behind b m h (omega arith)
      ∙ by-test (eqb (length m) 16)
      (λ e.
      let q = eqb-true (length m) 16 e in
      let none : rest ≡ [] = drop_of_length-le m {i = 16} (omega arith) in
      let all : front ≡ m = take_all 16 m (omega arith) in
      ap ciph
      (close-one (ciph b) m (omega arith) ∙ ap (xor_bytes (ciph b)) (last-full m q)
      ∙ sym (xor-bytes-assoc (ciph b) m (subkey1 ciph)) ∙ ap (λ (y : List ℕ). xor_bytes (xor_bytes (ciph b) y) (subkey1 ciph)) (sym all))
      ∙ sym (ap (cmac_over ciph) (ap (λ (y : List ℕ). x ++ y) none ∙ append-nil x) ∙ tag-full x sized))
      (λ e.
      let q = eqb-false (length m) 16 e in
      ap ciph (close_more (ciph b) m (omega arith)) ∙ sym (tag-behind x rest sized (rw (length-drop 16 m) (omega arith))))

pub cmac-law : CmacLaw
unfolding cmac xor_bytes subkey1 subkey2
cmac-law = record {
  added = λ a b. refl;
  full = λ key m h. tag-full (aes128 key) m h;
  short = λ key m h. tag-short (aes128 key) m h;
  block_short = λ key b m h k l. tag-block-short (aes128 key) b m h k l;
  block_more = λ key b m h l. tag-block-more (aes128 key) b m h (aes_length key b) l;
}
