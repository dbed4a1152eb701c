-- The product in the field by its laws: all but one step by the bits of a factor, that step by one test over the bytes. Assumes nothing.
use Rattle.std.proofs.Common.{◌≡◌, ℕ, zero, suc, ◌-◌, ◌*◌, ◌/◌, ◌%◌, ◌^◌, ◌<◌, ◌≤◌, ltb, List, get_or, sym, refl, ap, ◌∙◌, ap₂, mod-lt, zero-lt-suc, one-mul, zero-add, zero-mul, arith, lit<, ltb-false, ltb-true, le-ltb, lt-ltb}
use lib.Arith.{bin_ind}
use lib.Bits.{bit_xor, xor_step, xor_self, xor_comm, xor_zero_r, xor_lt, xor_shr, xor_mod, xor_shifted}
use Rattle.cipher.specs.Field.{xtime, times, mul}
use Rattle.cipher.specs.Sbox.{table_from}
use Rattle.cipher.specs.Laws.{FieldLaw}
use Rattle.cipher.proofs.Cases.{by-test}
use Rattle.cipher.proofs.Xor.{xor_assoc}
use Rattle.cipher.proofs.Words.{table_at}
use Rattle.cipher.proofs.Mix.{xtime-lt}

digit : (n : ℕ) → n % 2 < 2
digit n = mod-lt n (zero-lt-suc 1)

-- four terms, those in the middle exchanged
xor-swap : (a b c d : ℕ) → bit_xor (bit_xor a b) (bit_xor c d) ≡ bit_xor (bit_xor a c) (bit_xor b d)
xor-swap a b c d =
    xor_assoc a b (bit_xor c d)
    ∙ ap (bit_xor a) (sym (xor_assoc b c d) ∙ ap (λ (x : ℕ). bit_xor x d) (xor_comm b c) ∙ xor_assoc c b d)
    ∙ sym (xor_assoc a c (bit_xor b d))

-- a bit times a number
bit-sum : (x y c : ℕ) → x < 2 → y < 2 → bit_xor x y * c ≡ bit_xor (x * c) (y * c)
bit-sum zero y c h k = rw (zero-mul c)
bit-sum (suc zero) zero c h k = rw (zero-mul c) (sym (xor_zero_r (1 * c)))
bit-sum (suc zero) (suc zero) c h k = zero-mul c ∙ sym (xor_self (1 * c))
bit-sum (suc zero) (suc (suc y)) c h k = absurd (omega arith)
bit-sum (suc (suc x)) y c h k = absurd (omega arith)

bit-lt : (x a : ℕ) → x < 2 → a < 256 → x * a < 256
bit-lt zero a h k = rw (zero-mul a) (lit< tt)
bit-lt (suc zero) a h k = rw (one-mul a) k
bit-lt (suc (suc x)) a h k = absurd (omega arith)

xtime_low : (b : ℕ) → b < 128 → xtime b ≡ 2 * b
unfolding xtime
xtime_low b h = rw (lt-ltb b 128 h)

xtime_high : (b : ℕ) → 128 ≤ b → xtime b ≡ bit_xor (2 * b) 0x11b
unfolding xtime
xtime_high b h = rw (le-ltb b 128 h)

-- both cases in one
xtime-bit : (b : ℕ) → b < 256 → xtime b ≡ bit_xor (2 * b) (b / 128 * 0x11b)
xtime-bit b h =
    by-test (ltb b 128)
    (λ e.
    let k = ltb-true b 128 e in
    let z : b / 128 ≡ 0 = omega arith in
    xtime_low b k ∙ sym (rw z (xor_zero_r (2 * b))))
    (λ e.
    let k = ltb-false b 128 e in
    let o : b / 128 ≡ 1 = omega arith in
    xtime_high b k ∙ sym (rw o))

double-sum : (x y : ℕ) → 2 * bit_xor x y ≡ bit_xor (2 * x) (2 * y)
double-sum x y =
    let hx : 2 * x / 2 ≡ x = omega arith in
    let hy : 2 * y / 2 ≡ y = omega arith in
    let lx : 2 * x % 2 ≡ 0 = omega arith in
    let ly : 2 * y % 2 ≡ 0 = omega arith in
    sym (rw (xor_step (2 * x) (2 * y), hx, hy, lx, ly) (omega arith))

xtime-sum : (x y : ℕ) → x < 256 → y < 256 → xtime (bit_xor x y) ≡ bit_xor (xtime x) (xtime y)
xtime-sum x y hx hy =
    xtime-bit (bit_xor x y) (xor_lt 8 x y hx hy)
    ∙ ap₂ bit_xor (double-sum x y) (ap (λ (n : ℕ). n * 0x11b) (xor_shr x y 7) ∙ bit-sum (x / 128) (y / 128) 0x11b (omega arith) (omega arith))
    ∙ xor-swap (2 * x) (2 * y) (x / 128 * 0x11b) (y / 128 * 0x11b)
    ∙ sym (ap₂ bit_xor (xtime-bit x hx) (xtime-bit y hy))

xtime-times : (x a : ℕ) → x < 2 → xtime (x * a) ≡ x * xtime a
unfolding xtime
xtime-times zero a h = rw (zero-mul a, zero-mul (xtime a))
xtime-times (suc zero) a h = rw (one-mul a, one-mul (xtime a))
xtime-times (suc (suc x)) a h = absurd (omega arith)

times-lt : (k a b : ℕ) → a < 256 → times k a b < 256
unfolding times
times-lt zero a b h = lit< tt
times-lt (suc k) a b h = xor_lt 8 (b % 2 * a) (times k (xtime a) (b / 2)) (bit-lt (b % 2) a (digit b) h) (times-lt k (xtime a) (b / 2) (xtime-lt a h))

times_zero : (k a : ℕ) → times k a 0 ≡ 0
unfolding times
times_zero zero a = refl
times_zero (suc k) a = rw (zero-mul a) (times_zero k (xtime a))

times-one : (k a : ℕ) → times (suc k) a 1 ≡ a
unfolding times
times-one k a = rw (one-mul a, times_zero k (xtime a)) (xor_zero_r a)

mul-one : (a : ℕ) → mul a 1 ≡ a
unfolding mul
mul-one a = times-one 7 a

pub mul-lt : (a b : ℕ) → a < 256 → mul a b < 256
unfolding mul
mul-lt a b h = times-lt 8 a b h

-- linear in either factor
times-sum : (k a b c : ℕ) → times k a (bit_xor b c) ≡ bit_xor (times k a b) (times k a c)
unfolding times
times-sum zero a b c = refl
times-sum (suc k) a b c =
    ap₂ bit_xor (ap (λ (n : ℕ). n * a) (xor_mod b c 1) ∙ bit-sum (b % 2) (c % 2) a (digit b) (digit c))
    (ap (times k (xtime a)) (xor_shr b c 1) ∙ times-sum k (xtime a) (b / 2) (c / 2))
    ∙ xor-swap (b % 2 * a) (c % 2 * a) (times k (xtime a) (b / 2)) (times k (xtime a) (c / 2))

mul-sum : (a b c : ℕ) → mul a (bit_xor b c) ≡ bit_xor (mul a b) (mul a c)
unfolding mul
mul-sum a b c = times-sum 8 a b c

xtime-into : (k a b : ℕ) → a < 256 → xtime (times k a b) ≡ times k (xtime a) b
unfolding times xtime
xtime-into zero a b h = refl
xtime-into (suc k) a b h =
    let ha = xtime-lt a h in
    xtime-sum (b % 2 * a) (times k (xtime a) (b / 2)) (bit-lt (b % 2) a (digit b) h) (times-lt k (xtime a) (b / 2) ha)
    ∙ ap₂ bit_xor (xtime-times (b % 2) a (digit b)) (xtime-into k (xtime a) (b / 2) ha)

times-double : (k a b : ℕ) → times (suc k) a (2 * b) ≡ times k (xtime a) b
unfolding times
times-double k a b =
    let low : 2 * b % 2 ≡ 0 = omega arith in
    let high : 2 * b / 2 ≡ b = omega arith in
    rw (low, high, zero-mul a)

-- a factor of k bits
times-short : (k a b : ℕ) → b < 2 ^ k → times (suc k) a b ≡ times k a b
unfolding times
times-short zero a b h = let z : b ≡ 0 = omega arith in rw z (times_zero 1 a)
times-short (suc k) a b h = ap (bit_xor (b % 2 * a)) (times-short k (xtime a) (b / 2) (omega arith))

-- an x from one factor to the other
move-low : (a b : ℕ) → b < 128 → mul a (xtime b) ≡ mul (xtime a) b
unfolding mul
move-low a b h = ap (times 8 a) (xtime_low b h) ∙ times-double 7 a b ∙ sym (times-short 7 (xtime a) b h)

move-top-all : table_from (λ a. mul a (xtime 128)) 256 0 ≡ table_from (λ a. mul (xtime a) 128) 256 0
unfolding table_from mul times xtime
move-top-all = refl

move-top : (a : ℕ) → a < 256 → mul a (xtime 128) ≡ mul (xtime a) 128
move-top a h =
    let at : (f : ℕ → ℕ) → get_or (table_from f 256 0) a 0 ≡ f a = λ f. table_at f 256 0 a h ∙ ap f (zero-add a) in
    sym (at (λ n. mul n (xtime 128))) ∙ ap (λ (l : List ℕ). get_or l a 0) move-top-all ∙ at (λ n. mul (xtime n) 128)

move : (a b : ℕ) → a < 256 → b < 256 → mul a (xtime b) ≡ mul (xtime a) b
move a b ha hb =
    by-test (ltb b 128) (λ e. move-low a b (ltb-true b 128 e))
    (λ e.
    let k = ltb-false b 128 e in
    let c = b - 128 in
    let hc : c < 128 = omega arith in
    let split : b ≡ bit_xor 128 c = sym (xor_shifted 1 7 c hc ∙ omega arith) in
    ap (λ (n : ℕ). mul a (xtime n)) split
    ∙ ap (mul a) (xtime-sum 128 c (lit< tt) (omega arith))
    ∙ mul-sum a (xtime 128) (xtime c)
    ∙ ap₂ bit_xor (move-top a ha) (move-low a c hc)
    ∙ sym (mul-sum (xtime a) 128 c)
    ∙ ap (mul (xtime a)) (sym split))

mul-x : (a b : ℕ) → a < 256 → b < 256 → mul a (xtime b) ≡ xtime (mul a b)
unfolding mul
mul-x a b ha hb = move a b ha hb ∙ sym (xtime-into 8 a b ha)

-- what is linear and lets x through is known by its value at 1
module _ (f g : ℕ → ℕ)
    (f-sum : (b c : ℕ) → b < 256 → c < 256 → f (bit_xor b c) ≡ bit_xor (f b) (f c))
    (g-sum : (b c : ℕ) → b < 256 → c < 256 → g (bit_xor b c) ≡ bit_xor (g b) (g c))
    (f-x : (b : ℕ) → b < 256 → f (xtime b) ≡ xtime (f b)) (g-x : (b : ℕ) → b < 256 → g (xtime b) ≡ xtime (g b)) (one : f 1 ≡ g 1) where
  at_zero : f 0 ≡ g 0
  at_zero = f-sum 0 0 (lit< tt) (lit< tt) ∙ xor_self (f 0) ∙ sym (g-sum 0 0 (lit< tt) (lit< tt) ∙ xor_self (g 0))

  at-bit : (x : ℕ) → x < 2 → f x ≡ g x
  at-bit zero h = at_zero
  at-bit (suc zero) h = one
  at-bit (suc (suc x)) h = absurd (omega arith)

  same : (b : ℕ) → b < 256 → f b ≡ g b
  same =
      bin_ind (λ (n : ℕ). n < 256 → f n ≡ g n) (λ h. at_zero)
      (λ n ih h.
      let half : n / 2 < 256 = omega arith in
      let low : n % 2 < 256 = omega arith in
      let high = xtime-lt (n / 2) half in
      let even : xtime (n / 2) ≡ n / 2 * 2 ^ 1 = xtime_low (n / 2) (omega arith) ∙ omega arith in
      let split : n ≡ bit_xor (n % 2) (xtime (n / 2)) =
      sym (xor_comm (n % 2) (xtime (n / 2)) ∙ ap (λ (m : ℕ). bit_xor m (n % 2)) even ∙ xor_shifted (n / 2) 1 (n % 2) (digit n) ∙ omega arith) in
      ap f split ∙ f-sum (n % 2) (xtime (n / 2)) low high
      ∙ ap₂ bit_xor (at-bit (n % 2) (digit n)) (f-x (n / 2) half ∙ ap xtime (ih half) ∙ sym (g-x (n / 2) half))
      ∙ sym (g-sum (n % 2) (xtime (n / 2)) low high)
      ∙ sym (ap g split))

times-left : (k a b c : ℕ) → a < 256 → b < 256 → times k (bit_xor a b) c ≡ bit_xor (times k a c) (times k b c)
unfolding times
times-left zero a b c ha hb = refl
times-left (suc k) a b c ha hb =
    ap₂ bit_xor (bit-left (c % 2) (digit c))
    (ap (λ (n : ℕ). times k n (c / 2)) (xtime-sum a b ha hb) ∙ times-left k (xtime a) (xtime b) (c / 2) (xtime-lt a ha) (xtime-lt b hb))
    ∙ xor-swap (c % 2 * a) (c % 2 * b) (times k (xtime a) (c / 2)) (times k (xtime b) (c / 2))
  where
    bit-left : (x : ℕ) → x < 2 → x * bit_xor a b ≡ bit_xor (x * a) (x * b)
    bit-left zero h = rw (zero-mul a, zero-mul b) (zero-mul (bit_xor a b))
    bit-left (suc zero) h = rw (one-mul a, one-mul b) (one-mul (bit_xor a b))
    bit-left (suc (suc x)) h = absurd (omega arith)

one-times : (b : ℕ) → b < 256 → mul 1 b ≡ b
one-times =
    same (mul 1) (λ b. b) (λ b c h k. mul-sum 1 b c) (λ b c h k. refl) (λ b h. mul-x 1 b (lit< tt) h) (λ b h. refl) (mul-one 1)

mul_comm : (a b : ℕ) → a < 256 → b < 256 → mul a b ≡ mul b a
unfolding mul
mul_comm a b ha =
    same (mul a) (λ c. mul c a) (λ c d h k. mul-sum a c d) (λ c d h k. times-left 8 c d a h k) (λ c h. mul-x a c ha h)
    (λ c h. sym (xtime-into 8 c a h)) (mul-one a ∙ sym (one-times a ha)) b

pub field-law : FieldLaw
field-law = record {
  xtime_low = xtime_low;
  xtime_high = xtime_high;
  unit = mul-one;
  distributes = mul-sum;
  times_x = mul-x;
  commutes = mul_comm;
}
