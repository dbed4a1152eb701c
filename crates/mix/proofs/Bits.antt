-- The ranges of level and pan, of the number that a float is and of its bits. Assumes nothing.
use mathlib.Core.Path.{◌≡◌, refl, sym, ap, ◌∙◌}
use mathlib.Core.Bool.{Bool, true, false, not, ◌&&◌, ◌||◌, cond}
use Prim.Native.Nat.{ℕ, zero, suc, ◌+◌, ◌*◌, ◌/◌, ◌%◌, ◌^◌, ◌≤◌, ◌<◌}
use native.Mathlib.Nat.{mul_right_comm, mul-le-mul_left, mul-le-mul_right, le_of_mul-le-mul_right, mul-pos, mul-one, one-mul, zero-mul, pow-succ'}
use native.Mathlib.Omega.{arith}
use borrow.Author.Tests.{ltb-true, ltb-false, leb-true, leb-false, le-leb, lt-leb, eqb-true, eqb-false, eq-eqb, ne_eqb}
use lib.IntN.{ℤ, pos}
use lib.Dec.{T, eqb, leb, ltb}
use lib.Pow.{pow_pos, pow_mono}
use lib.Ieee.{Float, nan, inf, fin, binary32, up, down, le, is_nan, odd, of_fields, of_bits}
use lib.Ieee.Fits.{down_pos}
use lib.Ieee.Exact.{HasValue, odd_sign}
use Rattle.buffers.proofs.Split.{split, clash}
use Rattle.buffers.proofs.Folds.{and-true}
use Rattle.mix.specs.Range.{level_in_range, pan_in_range}

-- ---- two tests that say the same

same : (a b : Bool) → (a ≡ true → b ≡ true) → (b ≡ true → a ≡ true) → a ≡ b
same true b f g = sym (f refl)
same false true f g = g refl
same false false f g = refl

same-le : (a b c d : ℕ) → (a ≤ b → c ≤ d) → (c ≤ d → a ≤ b) → leb a b ≡ leb c d
same-le a b c d f g = same (leb a b) (leb c d) (λ t. le-leb c d (f (leb-true a b t))) (λ t. le-leb a b (g (leb-true c d t)))

same-eq : (a b c d : ℕ) → (a ≡ b → c ≡ d) → (c ≡ d → a ≡ b) → eqb a b ≡ eqb c d
same-eq a b c d f g = same (eqb a b) (eqb c d) (λ t. eq-eqb c d (f (eqb-true a b t))) (λ t. eq-eqb a b (g (eqb-true c d t)))

-- ---- comparisons, by sign

less-or-equal : (a b : ℕ) → (ltb a b || (eqb a b && true)) ≡ leb a b
less-or-equal a b = split (ltb a b)
    (λ t. let h = ltb-true a b t in rw (t, le-leb a b (omega arith)))
    (λ t.
    let h = ltb-false a b t in
    split (eqb a b)
    (λ e. let k = eqb-true a b e in rw (t, e, le-leb a b (omega arith)))
    (λ e. let k = eqb-false a b e in rw (t, e, lt-leb a b (omega arith))))

signs-differ : (a b : ℕ) → (ltb 0 (a + b) || (eqb a b && eqb a 0)) ≡ true
signs-differ a b = split (ltb 0 (a + b))
    (λ t. rw t)
    (λ t. let h = ltb-false 0 (a + b) t in rw (t, eq-eqb a b (omega arith), eq-eqb a 0 (omega arith)))

module _ (m : ℕ) (e : ℤ) (n : ℕ) (d : ℤ) where
  le-plus : le (fin false m e) (fin false n d) ≡ leb (m * up e * down d) (n * up d * down e)
  unfolding le
  le-plus = less-or-equal (m * up e * down d) (n * up d * down e)

  le-minus : le (fin true m e) (fin true n d) ≡ leb (n * up d * down e) (m * up e * down d)
  unfolding le
  le-minus =
      let a = m * up e * down d in
      let b = n * up d * down e in
      ap (λ (x : Bool). ltb b a || (x && true)) (same-eq a b b a sym sym) ∙ less-or-equal b a

  le-minus-plus : le (fin true m e) (fin false n d) ≡ true
  unfolding le
  le-minus-plus = signs-differ (m * up e * down d) (n * up d * down e)

  le-plus-minus : le (fin false m e) (fin true n d) ≡ (eqb (m * up e * down d) (n * up d * down e) && eqb (m * up e * down d) 0)
  unfolding le
  le-plus-minus = refl

only_zero : (z a b : ℕ) → z ≡ 0 → a ≡ b → ((eqb z a && eqb z 0) && true) ≡ eqb b 0
only_zero z a b p q = split (eqb b 0)
    (λ t. let h = eqb-true b 0 t in rw (t, eq-eqb z a (omega arith), eq-eqb z 0 p))
    (λ t. let h = eqb-false b 0 t in rw (t, ne_eqb z a (omega arith)))

pub level-fin : (s : Bool) (m : ℕ) (e : ℤ) → level_in_range (fin s m e) ≡ cond s (eqb (m * up e) 0) (leb (m * up e) (4 * down e))
unfolding level_in_range
level-fin false m e = rw (le-plus 0 (pos 0) m e, le-plus m e 1 (pos 2), le-leb (0 * down e) (m * up e * 1) (omega arith), mul-one)
level-fin true m e =
    rw (le-plus-minus 0 (pos 0) m e, le-minus-plus m e 1 (pos 2))
    (only_zero (0 * down e) (m * up e * 1) (m * up e) (zero-mul (down e)) (mul-one (m * up e)))

pub pan-fin : (s : Bool) (m : ℕ) (e : ℤ) → pan_in_range (fin s m e) ≡ leb (m * up e) (down e)
unfolding pan_in_range
pan-fin false m e = rw (le-minus-plus 1 (pos 0) m e, le-plus m e 1 (pos 0), mul-one (m * up e), one-mul (down e))
pan-fin true m e = rw (le-minus 1 (pos 0) m e, le-minus-plus m e 1 (pos 0), mul-one (m * up e), one-mul (down e)) (and-true (leb (m * up e) (down e)))

-- ---- by the fraction that a float equals

zero_test : (a z : ℕ) → z ≡ 0 → eqb a 0 ≡ leb a z
zero_test a z e = same (eqb a 0) (leb a z) (λ t. le-leb a z (omega (arith, eqb-true a 0 t))) (λ t. eq-eqb a 0 (omega (arith, leb-true a z t)))

module _ (m : ℕ) (e : ℤ) (a c : ℕ) (C : 0 < c) (v : m * up e * c ≡ a * down e) where
  up_to : (k : ℕ) → leb (m * up e) (k * down e) ≡ leb a (k * c)
  up_to k =
      let turn : k * down e * c ≡ k * c * down e = mul_right_comm k (down e) c in
      same-le (m * up e) (k * down e) a (k * c)
      (λ h. let g = mul-le-mul_right c h in le_of_mul-le-mul_right (omega arith) (down_pos e))
      (λ h. let g = mul-le-mul_right (down e) h in le_of_mul-le-mul_right (omega arith) C)

  at_zero : eqb (m * up e) 0 ≡ eqb a 0
  at_zero = zero_test (m * up e) (0 * down e) (zero-mul (down e)) ∙ up_to 0 ∙ sym (zero_test a (0 * c) (zero-mul c))

module _ (s : Bool) (a c : ℕ) (C : 0 < c) where
  level-value : (x : Float) → HasValue x s a c → level_in_range x ≡ cond s (eqb a 0) (leb a (4 * c))
  level-value nan v = absurd v
  level-value (inf t) v = absurd v
  level-value (fin t m e) v = level-fin t m e ∙ λ i. cond (v.0 i) (at_zero m e a c C v.1 i) (up_to m e a c C v.1 4 i)

  pan-value : (x : Float) → HasValue x s a c → pan_in_range x ≡ leb a c
  pan-value nan v = absurd v
  pan-value (inf t) v = absurd v
  pan-value (fin t m e) v =
      pan-fin t m e
      ∙ ap (leb (m * up e)) (sym (one-mul (down e)))
      ∙ up_to m e a c C v.1 1
      ∙ ap (leb a) (one-mul c)

-- ---- the order of floats is that of their fields

-- in units of the smallest float: a field of 0 has no leading digit
abbrev magnitude : ℕ → ℕ → ℕ → ℕ
magnitude h t zero = t * 2 ^ 0
magnitude h t (suc x) = (h + t) * 2 ^ x

module _ (h t : ℕ) (H : t < h) where
  lower : (x k : ℕ) → x < k → (h + t) * 2 ^ x ≤ h * 2 ^ k
  lower x k l =
      let p : 2 * 2 ^ x ≤ 2 ^ k = rw (← pow-succ') (pow_mono l) in
      let q = mul-le-mul_left h p in
      let r : (h + t) * 2 ^ x ≤ (h + h) * 2 ^ x = mul-le-mul_right (2 ^ x) (omega arith) in
      omega arith

  higher : (x k : ℕ) → k < x → h * 2 ^ k < (h + t) * 2 ^ x
  higher x k l =
      let p : 2 * 2 ^ k ≤ 2 ^ x = rw (← pow-succ') (pow_mono l) in
      let q = mul-le-mul_left h p in
      let r : h * 2 ^ x ≤ (h + t) * 2 ^ x = mul-le-mul_right (2 ^ x) (omega arith) in
      let z : 0 < h * 2 ^ k = mul-pos (omega arith) (pow_pos k) in
      omega arith

  equal : (x : ℕ) → leb ((h + t) * 2 ^ x) (h * 2 ^ x) ≡ leb (suc x * h + t) (suc x * h)
  equal x = same-le ((h + t) * 2 ^ x) (h * 2 ^ x) (suc x * h + t) (suc x * h)
      (λ l. let z : h + t ≤ h = le_of_mul-le-mul_right l (pow_pos x) in omega arith)
      (λ l. mul-le-mul_right (2 ^ x) (omega arith))

  by_field : (x k : ℕ) → leb (magnitude h t x) (h * 2 ^ k) ≡ leb (x * h + t) (suc k * h)
  by_field zero k =
      let p : h * 1 ≤ h * 2 ^ k = mul-le-mul_left h (pow_pos k) in
      let q : 1 * h ≤ suc k * h = mul-le-mul_right h (omega arith) in
      le-leb (t * 1) (h * 2 ^ k) (omega arith) ∙ sym (le-leb (0 * h + t) (suc k * h) (omega arith))
  by_field (suc x) k = split (ltb x k)
      (λ a.
      let l = ltb-true x k a in
      let q : suc (suc x) * h ≤ suc k * h = mul-le-mul_right h (omega arith) in
      le-leb ((h + t) * 2 ^ x) (h * 2 ^ k) (lower x k l) ∙ sym (le-leb (suc x * h + t) (suc k * h) (omega arith)))
      (λ a.
      let g = ltb-false x k a in
      split (ltb k x)
      (λ b.
      let l = ltb-true k x b in
      let q : suc (suc k) * h ≤ suc x * h = mul-le-mul_right h (omega arith) in
      lt-leb ((h + t) * 2 ^ x) (h * 2 ^ k) (higher x k l) ∙ sym (lt-leb (suc x * h + t) (suc k * h) (omega arith)))
      (λ b. let e : k ≡ x = omega (arith, ltb-false k x b) in rw e (equal x)))

  by_zero : (x : ℕ) → eqb (magnitude h t x) 0 ≡ eqb (x * h + t) 0
  by_zero zero = same-eq (t * 1) 0 (0 * h + t) 0 (λ e. omega arith) (λ e. omega arith)
  by_zero (suc x) =
      let p : 0 < (h + t) * 2 ^ x = mul-pos (omega arith) (pow_pos x) in
      ne_eqb ((h + t) * 2 ^ x) 0 (λ e. omega arith) ∙ sym (ne_eqb (suc x * h + t) 0 (λ e. omega arith))

-- ---- of bits

pub level-none : (b s : Bool) → level_in_range (cond b (inf s) nan) ≡ false
unfolding level_in_range le
level-none true true = refl
level-none true false = refl
level-none false s = refl

pub pan-none : (b s : Bool) → pan_in_range (cond b (inf s) nan) ≡ false
unfolding pan_in_range le
pan-none true true = refl
pan-none true false = refl
pan-none false s = refl

-- 2 ^ 23 is the weight of the field, and the smallest float is 2 ^ -149
module _ (t : ℕ) (H : t < 2 ^ 23) where
  level-odd : (s : Bool) (x q k : ℕ) → q * 2 ^ k ≡ magnitude (2 ^ 23) t x
      → level_in_range (odd 24 s q k 149) ≡ cond s (eqb (x * 2 ^ 23 + t) 0) (leb (x * 2 ^ 23 + t) (129 * 2 ^ 23))
  level-odd s x q k e =
      level-value s (q * 2 ^ k) (2 ^ 149) (pow_pos 149) (odd 24 s q k 149) (odd_sign 24 s q k 149)
      ∙ (λ i. cond s (eqb (e i) 0) (leb (e i) (4 * 2 ^ 149)))
      ∙ λ i. cond s (by_zero (2 ^ 23) t H x i) (by_field (2 ^ 23) t H x 128 i)

  pan-odd : (s : Bool) (x q k : ℕ) → q * 2 ^ k ≡ magnitude (2 ^ 23) t x → pan_in_range (odd 24 s q k 149) ≡ leb (x * 2 ^ 23 + t) (127 * 2 ^ 23)
  pan-odd s x q k e =
      pan-value s (q * 2 ^ k) (2 ^ 149) (pow_pos 149) (odd 24 s q k 149) (odd_sign 24 s q k 149)
      ∙ (λ i. leb (e i) (2 ^ 149))
      ∙ by_field (2 ^ 23) t H x 126

  beyond : (s : Bool) (x : ℕ) → eqb (suc x) 255 ≡ true → cond s (eqb (suc x * 2 ^ 23 + t) 0) (leb (suc x * 2 ^ 23 + t) (129 * 2 ^ 23)) ≡ false
  beyond true x e = ne_eqb (suc x * 2 ^ 23 + t) 0 (λ z. omega arith)
  beyond false x e = lt-leb (suc x * 2 ^ 23 + t) (129 * 2 ^ 23) (omega (arith, eqb-true (suc x) 255 e))

  level-fields : (s : Bool) (x : ℕ) → level_in_range (of_fields binary32 s x t) ≡ cond s (eqb (x * 2 ^ 23 + t) 0) (leb (x * 2 ^ 23 + t) (129 * 2 ^ 23))
  unfolding of_fields
  level-fields s zero = level-odd s 0 t 0 refl
  level-fields s (suc x) = split (eqb (suc x) 255)
      (λ e. rw e (level-none (eqb t 0) s ∙ sym (beyond s x e)))
      (λ e. rw e (level-odd s (suc x) (2 ^ 23 + t) x refl))

  pan-fields : (s : Bool) (x : ℕ) → pan_in_range (of_fields binary32 s x t) ≡ leb (x * 2 ^ 23 + t) (127 * 2 ^ 23)
  unfolding of_fields
  pan-fields s zero = pan-odd s 0 t 0 refl
  pan-fields s (suc x) = split (eqb (suc x) 255)
      (λ e.
      let z = eqb-true (suc x) 255 e in
      rw e (pan-none (eqb t 0) s ∙ sym (lt-leb (suc x * 2 ^ 23 + t) (127 * 2 ^ 23) (omega arith))))
      (λ e. rw e (pan-odd s (suc x) (2 ^ 23 + t) x refl))

-- without its sign a pattern is its field and its digits
two_fields : (n : ℕ) → n % 2 ^ 31 / 2 ^ 23 * 2 ^ 23 + n % 2 ^ 23 ≡ n % 2 ^ 31
two_fields n = omega arith

level-sign : (n : ℕ) → n < 2 ^ 32 → cond (leb (2 ^ 31) n) (eqb (n % 2 ^ 31) 0) (leb (n % 2 ^ 31) 0x40800000) ≡ (leb n 0x40800000 || eqb n 0x80000000)
level-sign n h = split (leb (2 ^ 31) n)
    (λ t.
    let l = leb-true (2 ^ 31) n t in
    rw (t, lt-leb n 0x40800000 (omega arith)) (same-eq (n % 2 ^ 31) 0 n 0x80000000 (λ e. omega arith) (λ e. omega arith)))
    (λ t.
    let l = leb-false (2 ^ 31) n t in
    let e : n % 2 ^ 31 ≡ n = omega arith in
    rw (t, e, ne_eqb n 0x80000000 (λ z. omega arith)) (or-false (leb n 0x40800000)))
  where
    or-false : (b : Bool) → b ≡ (b || false)
    or-false true = refl
    or-false false = refl

pub level-bits-is : (n : ℕ) → n < 2 ^ 32 → level_in_range (of_bits binary32 n) ≡ (leb n 0x40800000 || eqb n 0x80000000)
unfolding of_bits
level-bits-is n h =
    level-fields (n % 2 ^ 23) (omega arith) (leb (2 ^ 31) n) (n % 2 ^ 31 / 2 ^ 23)
    ∙ (λ i. cond (leb (2 ^ 31) n) (eqb (two_fields n i) 0) (leb (two_fields n i) 0x40800000))
    ∙ level-sign n h

pub pan-bits-is : (n : ℕ) → n < 2 ^ 32 → pan_in_range (of_bits binary32 n) ≡ leb (n % 0x80000000) 0x3f800000
unfolding of_bits
pan-bits-is n h =
    pan-fields (n % 2 ^ 23) (omega arith) (leb (2 ^ 31) n) (n % 2 ^ 31 / 2 ^ 23)
    ∙ λ i. leb (two_fields n i) 0x3f800000

pub level-not-nan : (x : Float) → level_in_range x ≡ true → T (not (is_nan x))
unfolding is_nan
level-not-nan nan e = clash (level_in_range nan) e (level-none false false)
level-not-nan (inf s) e = tt
level-not-nan (fin s m d) e = tt

pub pan-not-nan : (x : Float) → pan_in_range x ≡ true → T (not (is_nan x))
unfolding is_nan
pan-not-nan nan e = clash (pan_in_range nan) e (pan-none false false)
pan-not-nan (inf s) e = tt
pan-not-nan (fin s m d) e = tt
