-- The digits of a key's name. Assumes nothing.
use mathlib.Core.Path.{◌≡◌, refl, sym, ap, ◌∙◌}
use mathlib.Core.List.{List, [], ◌∷◌, ◌++◌, append_assoc}
use mathlib.Core.Bool.{Bool, true, ◌&&◌}
use Prim.Native.Nat.{ℕ, zero, suc, ◌+◌, ◌/◌, ◌%◌, ◌≤◌, ◌<◌}
use native.Mathlib.Omega.{arith}
use borrow.Author.Tests.{le-leb, lt-leb, eqb-true}
use lib.Dec.{eqb}
use lib.ListN.{length, drop, set, length-set, get_or}
use lib.Seq.{drop-cons, get_or-set_same, drop-set-lt}
use Rattle.spec.specs.Name.{hex_digit, hex_digits, key_name}
use Rattle.buffers.proofs.Split.{both}
use Rattle.spec.proofs.Name.{digits-length}

-- "0123456789abcdef"
abbrev pub table : List ℕ
table = 0x30 ∷ 0x31 ∷ 0x32 ∷ 0x33 ∷ 0x34 ∷ 0x35 ∷ 0x36 ∷ 0x37 ∷ 0x38 ∷ 0x39 ∷ 0x61 ∷ 0x62 ∷ 0x63 ∷ 0x64 ∷ 0x65 ∷ 0x66 ∷ []

abbrev digits_from : ℕ → List ℕ → Bool
digits_from k [] = true
digits_from k (x ∷ l) = eqb (hex_digit k) x && digits_from (suc k) l

listed-from : (l : List ℕ) (k d : ℕ) → digits_from k l ≡ true → d < length l → hex_digit (k + d) ≡ get_or l d 0
listed-from [] k d e h = absurd (omega arith)
listed-from (x ∷ l) k zero e h =
    let z : k + 0 ≡ k = omega arith in
    rw z (eqb-true (hex_digit k) x (both (eqb (hex_digit k) x) (digits_from (suc k) l) e).0)
listed-from (x ∷ l) k (suc d) e h =
    let z : k + suc d ≡ suc k + d = omega arith in
    rw z (listed-from l (suc k) d (both (eqb (hex_digit k) x) (digits_from (suc k) l) e).1 (omega arith))

pub digit-listed : (d : ℕ) → d < 16 → hex_digit d ≡ get_or table d 0
digit-listed d h = let z : d ≡ 0 + d = omega arith in ap hex_digit z ∙ listed-from table 0 d refl h

-- one more digit is in place, from the last to the first
pub digit-step : (l : List ℕ) (k rest v : ℕ) → k < length l → v ≡ hex_digit (rest % 16)
    → hex_digits k (rest / 16) ++ drop k (set l k v) ≡ hex_digits (suc k) rest ++ drop (suc k) l
digit-step l k rest v h is =
    let n : k < length (set l k v) = rw (length-set l k v) h in
    let e : drop k (set l k v) ≡ v ∷ drop (suc k) l = drop-cons (set l k v) k 0 n ∙ rw (get_or-set_same l k v 0 h, drop-set-lt (suc k) l k v (omega arith)) in
    ap (λ (x : List ℕ). hex_digits k (rest / 16) ++ x) (e ∙ ap (λ (x : ℕ). x ∷ drop (suc k) l) is) ∙ sym (append_assoc (hex_digits k (rest / 16)) (hex_digit (rest % 16) ∷ []) (drop (suc k) l))

-- ---- the name of an identifier, and of what is none

pub no_name : (id : ℕ) → id < 1 → key_name id ≡ []
unfolding key_name
no_name id h = rw (lt-leb 1 id h)

pub high-name : (id : ℕ) → 0xfffeffff < id → key_name id ≡ []
unfolding key_name
high-name id h = rw (le-leb 1 id (omega arith), lt-leb id 0xfffeffff h)

pub name-digits : (id : ℕ) → 1 ≤ id → id ≤ 0xfffeffff → key_name id ≡ hex_digits 16 id
unfolding key_name
name-digits id h k = rw (le-leb 1 id h, le-leb id 0xfffeffff k)

pub key_length : (id : ℕ) → 1 ≤ id → id ≤ 0xfffeffff → length (key_name id) ≡ 16
key_length id h k = ap (λ (l : List ℕ). length l) (name-digits id h k) ∙ digits-length 16 id
