-- Laws of names. The definition of a valid byte is opened by its laws here, and elsewhere only where something is computed.
use mathlib.Core.Path.{◌≡◌, refl, ◌∙◌}
use mathlib.Core.Bool.{Bool, true, false, ◌&&◌, ◌||◌}
use mathlib.Core.Logic.{◌⊎◌, inl, inr, ⊎_elim}
use mathlib.Core.List.{List, [], ◌∷◌, ◌++◌}
use Prim.Native.Nat.{ℕ, zero, suc, ◌+◌, ◌/◌, ◌%◌, ◌≤◌, ◌<◌}
use native.Mathlib.Omega.{arith}
use borrow.Author.Tests.{leb-true, leb-false, le-leb, ltb-true, ltb-false}
use lib.Dec.{leb, ltb}
use lib.ListN.{length, length-append}
use Rattle.buffers.specs.Bytes.{every}
use Rattle.spec.specs.Name.{Name, valid_name_byte, valid_name, hex_digit, hex_digits, key_name}
use Rattle.spec.specs.Shapes.{NameByte, NameByteShape}
use Rattle.buffers.proofs.Split.{split, both, neither}

-- ---- a byte

fill-out : valid_name_byte 0x00 ≡ false
unfolding valid_name_byte
fill-out = refl

metadata-out : valid_name_byte 0x14 ≡ false
unfolding valid_name_byte
metadata-out = refl

within : (low high b : ℕ) → (leb low b && leb b high) ≡ true → (low ≤ b) × (b ≤ high)
within low high b h = let p = both (leb low b) (leb b high) h in (leb-true low b p.0, leb-true b high p.1)

outside : (low high b : ℕ) → (leb low b && leb b high) ≡ false → (b < low) ⊎ (high < b)
outside low high b h = split (leb low b) (λ e. inr (leb-false b high (rw e at h))) (λ e. inl (leb-false low b e))

either : (x y : Bool) → (x || y) ≡ true → (x ≡ true) ⊎ (y ≡ true)
either true y h = inl refl
either false y h = inr h

pub byte-good : (b : ℕ) → valid_name_byte b ≡ true → NameByte b
unfolding valid_name_byte
byte-good b h =
    ⊎_elim
    (λ e. let r = within 0x20 0x7e b e in let low = r.0 in let high = r.1 in (low, λ k. omega arith, omega arith))
    (λ e. let r = within 0x80 0xff b e in let low = r.0 in let high = r.1 in (omega arith, λ k. omega arith, high))
    (either (leb 0x20 b && leb b 0x7e) (leb 0x80 b && leb b 0xff) h)

pub good-byte : (b : ℕ) → NameByte b → valid_name_byte b ≡ true
unfolding valid_name_byte
good-byte b h = split (valid_name_byte b) (λ e. e)
    (λ e.
    let p = neither (leb 0x20 b && leb b 0x7e) (leb 0x80 b && leb b 0xff) e in
    let low = h.0 in
    let high = h.2 in
    ⊎_elim
    (λ u. absurd (omega arith))
    (λ u. ⊎_elim (λ v. absurd (h.1 (omega arith))) (λ v. absurd (omega arith)) (outside 0x80 0xff b p.1))
    (outside 0x20 0x7e b p.0))

pub byte-shape : NameByteShape
byte-shape = record { exact = λ b. (byte-good b, good-byte b); not_fill = fill-out; not_metadata = metadata-out }

-- ---- a name

pub record ValidName (n : Name) : Type 0 where
  pub not_empty : 1 ≤ length n
  pub short : length n ≤ 64
  pub bytes : every valid_name_byte n ≡ true

pub valid-name : (n : Name) → valid_name n ≡ true → ValidName n
unfolding valid_name
valid-name n h =
    let a = both (leb 1 (length n)) (leb (length n) 64 && every valid_name_byte n) h in
    let b = both (leb (length n) 64) (every valid_name_byte n) a.1 in
    record { not_empty = leb-true 1 (length n) a.0; short = leb-true (length n) 64 b.0; bytes = b.1 }

pub valid-length : (n : Name) → valid_name n ≡ true → length n ≤ 64
valid-length n h = (valid-name n h).short

-- ---- the name of a key identifier

every_append : (a b : List ℕ) → every valid_name_byte a ≡ true → every valid_name_byte b ≡ true → every valid_name_byte (a ++ b) ≡ true
every_append [] b h k = k
every_append (x ∷ a) b h k = let p = both (valid_name_byte x) (every valid_name_byte a) h in rw (p.0, every_append a b p.1 k)

digit-valid : (d : ℕ) → d < 16 → valid_name_byte (hex_digit d) ≡ true
digit-valid d h = split (ltb d 10)
    (λ e. let k = ltb-true d 10 e in rw e (good-byte (0x30 + d) (omega arith, λ q. omega arith, omega arith)))
    (λ e. let k = ltb-false d 10 e in rw e (good-byte (0x57 + d) (omega arith, λ q. omega arith, omega arith)))

digits-valid : (k n : ℕ) → every valid_name_byte (hex_digits k n) ≡ true
digits-valid zero n = refl
digits-valid (suc k) n = every_append (hex_digits k (n / 16)) (hex_digit (n % 16) ∷ []) (digits-valid k (n / 16)) (rw (digit-valid (n % 16) (omega arith)))

pub digits-length : (k n : ℕ) → length (hex_digits k n) ≡ k
digits-length zero n = refl
digits-length (suc k) n = length-append (hex_digits k (n / 16)) (hex_digit (n % 16) ∷ []) ∙ rw (digits-length k (n / 16)) (omega arith)

pub key-name-valid : (id : ℕ) → 1 ≤ id → id ≤ 0xfffeffff → valid_name (key_name id) ≡ true
unfolding key_name valid_name
key-name-valid id h k = rw (le-leb 1 id h, le-leb id 0xfffeffff k, digits-length 16 id) (digits-valid 16 id)
