-- Little-endian numbers written and read byte by byte, over the width. Assumes nothing.
use mathlib.Core.Path.{◌≡◌, refl, sym, ap, ◌∙◌}
use mathlib.Core.List.{List, [], ◌∷◌, ◌++◌, reverse, reverse-cons}
use Prim.Native.Nat.{ℕ, zero, suc, ◌+◌, ◌-◌, ◌*◌, ◌/◌, ◌%◌, ◌^◌, ◌≤◌, ◌<◌}
use native.Mathlib.Nat.{not-suc-le-zero, le_of_suc-le-suc, pow-succ', div-div-eq-div-mul}
use native.Mathlib.Numerals.{add-one}
use native.Mathlib.Omega.{arith}
use borrow.Author.Tests.{ltb-true, ltb-false}
use lib.Bits.{bit_or}
use lib.Dec.{ltb}
use lib.ListN.{length, get_or, take, drop, set, drop_of_length-le, get_or-eq_default}
use lib.Seq.{append_snoc, take-suc-set, drop-cons}
use Rattle.std.specs.List.{fold}
use Rattle.std.proofs.lemmas.Grind.{or_after_shift, fold-append}
use Rattle.buffers.specs.Bytes.{le_bytes, le_value, le_at, u16_at, u32_at}
use Rattle.buffers.proofs.Split.{split}

-- one more byte is in place
pub put_step : (l : List ℕ) (n i value : ℕ) → i < n → i < length l
    → take (i + 1) (set l i (value % 256)) ++ le_bytes (n - (i + 1)) (value / 256) ≡ take i l ++ le_bytes (n - i) value
put_step l n i value hn hl =
    let e : n - i ≡ suc (n - (i + 1)) = omega arith in
    rw (e, add-one, take-suc-set l i (value % 256) hl) (append_snoc (take i l) (value % 256) (le_bytes (n - suc i) (value / 256)))

pub value-bound : (l : List ℕ) (k : ℕ) → length l ≤ k → ((i : ℕ) → get_or l i 0 < 256) → le_value l < 256 ^ k
value-bound [] zero h f = omega arith
value-bound [] (suc k) h f = let e : 256 ^ suc k ≡ 256 * 256 ^ k = omega arith in let r = value-bound [] k (omega arith) f in omega arith
value-bound (b ∷ l) zero h f = absurd (omega arith)
value-bound (b ∷ l) (suc k) h f =
    let e : 256 ^ suc k ≡ 256 * 256 ^ k = omega arith in
    let r = value-bound l k (omega arith) (λ i. f (suc i)) in
    let b-bound = f 0 in
    omega arith

-- the bytes of at most four, joined from the last to the first
abbrev join : ℕ → ℕ → ℕ
join v b = bit_or (v * 2 ^ 8 % 2 ^ 32) b

pub joined : (l : List ℕ) → length l ≤ 4 → ((i : ℕ) → get_or l i 0 < 256) → fold join 0 (reverse l) ≡ le_value l
joined [] h f = refl
joined (b ∷ l) h f =
    let small = value-bound l 3 (omega arith) (λ i. f (suc i)) in
    let b-bound = f 0 in
    let shifted : bit_or (le_value l * 2 ^ 8 % 2 ^ 32) b ≡ le_value l * 2 ^ 8 + b = or_after_shift (le_value l) (2 ^ 8) (2 ^ 32) b refl (omega arith) (omega arith) in
    rw (reverse-cons, fold-append, joined l (omega arith) (λ i. f (suc i))) (shifted ∙ omega arith)

-- the k bytes from i on, each by its index: past the end they count nothing
abbrev bytes_from : List ℕ → ℕ → ℕ → List ℕ
bytes_from l i zero = []
bytes_from l i (suc k) = get_or l i 0 ∷ bytes_from l (suc i) k

none_from : (l : List ℕ) (k i : ℕ) → length l ≤ i → le_value (bytes_from l i k) ≡ 0
none_from l zero i h = refl
none_from l (suc k) i h = rw (get_or-eq_default l 0 {n = i} h, none_from l k (suc i) (omega arith))

value-from : (l : List ℕ) (k i : ℕ) → le_at k l i ≡ le_value (bytes_from l i k)
value-from l zero i = refl
value-from l (suc k) i = split (ltb i (length l))
    (λ t. rw (drop-cons l i 0 (ltb-true i (length l) t)) (ap (λ (v : ℕ). get_or l i 0 + 256 * v) (value-from l k (suc i))))
    (λ t. let h = ltb-false i (length l) t in rw (drop_of_length-le l {i = i} h) (sym (none_from l (suc k) i h)))

pub two_at : (l : List ℕ) (i : ℕ) → u16_at l i ≡ get_or l i 0 + 256 * get_or l (i + 1) 0
two_at l i = value-from l 2 i ∙ rw add-one (omega arith)

pub four-at : (l : List ℕ) (i : ℕ) → u32_at l i ≡ u16_at l i + 65536 * u16_at l (i + 2)
four-at l i =
    let e : i + 2 ≡ suc (suc i) = omega arith in
    let a = value-from l 4 i in
    let b = value-from l 2 i in
    let c = value-from l 2 (suc (suc i)) in
    rw e (omega arith)

pub digit_at : (k n i : ℕ) → i < k → get_or (le_bytes k n) i 0 ≡ n / 256 ^ i % 256
digit_at zero n i h = absurd (not-suc-le-zero h)
digit_at (suc k) n zero h = omega arith
digit_at (suc k) n (suc i) h = rw (pow-succ', ← div-div-eq-div-mul) (digit_at k (n / 256) i (le_of_suc-le-suc h))

-- what a number of k bytes is read from, bytes as they are
low_byte : (k b v : ℕ) → b < 256 → le_bytes (suc k) (b + 256 * v) ≡ b ∷ le_bytes k v
low_byte k b v h =
    let p : (b + 256 * v) % 256 ≡ b = omega arith in
    let q : (b + 256 * v) / 256 ≡ v = omega arith in
    λ i. p i ∷ le_bytes k (q i)

pub number-part : (k i : ℕ) (l : List ℕ) → ((j : ℕ) → get_or l j 0 < 256) → i + k ≤ length l → drop i l ≡ le_bytes k (le_at k l i) ++ drop (i + k) l
number-part zero i l b h = let e : i + 0 ≡ i = omega arith in rw e
number-part (suc k) i l b h =
    let x = get_or l i 0 in
    let d = drop-cons l i 0 (omega arith) in
    let value : le_at (suc k) l i ≡ x + 256 * le_at k l (suc i) = ap (λ (t : List ℕ). le_value (take (suc k) t)) d in
    let bytes = ap (le_bytes (suc k)) value ∙ low_byte k x (le_at k l (suc i)) (b i) in
    let e : suc i + k ≡ i + suc k = omega arith in
    d ∙ ap (λ (t : List ℕ). x ∷ t) (number-part k (suc i) l b (omega arith)) ∙ λ j. sym bytes j ++ drop (e j) l

-- a number of k bytes is below 256 ^ k
from-small : (l : List ℕ) → ((j : ℕ) → get_or l j 0 < 256) → (k i : ℕ) → le_value (bytes_from l i k) < 256 ^ k
from-small l b zero i = omega arith
from-small l b (suc k) i =
    let e : 256 ^ suc k ≡ 256 * 256 ^ k = omega arith in
    omega (arith, b i, from-small l b k (suc i))

pub number_small : (k i : ℕ) (l : List ℕ) → ((j : ℕ) → get_or l j 0 < 256) → le_at k l i < 256 ^ k
number_small k i l b = rw (value-from l k i) (from-small l b k i)
