-- Bounds of the substitution, and a mixed column as the sum of its bytes' parts. Assumes nothing.
use Rattle.std.proofs.Common.{◌≡◌, ℕ, ◌+◌, ◌-◌, ◌*◌, ◌^◌, ◌<◌, ◌≤◌, Bool, true, false, cond, ltb, get_or, refl, ap, ◌∙◌, ap₂, mod-lt, zero-lt-suc, zero-add, arith, lit<, ltb-false, ltb-true}
use lib.Bits.{bit_xor, xor_lt, xor_comm, xor_block}
use lib.ListN.{get_or-map}
use Rattle.cipher.specs.Field.{xtime}
use Rattle.cipher.specs.Sbox.{sub_byte, affine, affine_bit, sbox}
use Rattle.cipher.specs.Tables.{mix_word, mix_entry, mix_table}
use Rattle.cipher.specs.Aes.{number_word, word_number, xor_word, rot_word, mix_column, mix_byte}
use Rattle.cipher.proofs.Xor.{xor_assoc}
use Rattle.cipher.proofs.Words.{sbox-at, number_word_lem, number-xor, word-ext}

pub bit-lt : (b i : ℕ) → affine_bit b i < 2
unfolding affine_bit
bit-lt b i = mod-lt _ (zero-lt-suc 1)

affine-lt : (b : ℕ) → affine b < 256
unfolding affine
affine-lt b = omega (arith, bit-lt b 0, bit-lt b 1, bit-lt b 2, bit-lt b 3, bit-lt b 4, bit-lt b 5, bit-lt b 6, bit-lt b 7)

pub sub-lt : (b : ℕ) → sub_byte b < 256
unfolding sub_byte
sub-lt b = affine-lt _

-- x^8 of the shifted byte meets that of 0x11b
xtime_high : (b r : ℕ) → 2 * b ≡ 1 * 2 ^ 8 + r → r < 256 → bit_xor (2 * b) 0x11b < 256
xtime_high b r e h = rw (e, xor_block 8 1 1 r 0x1b h (lit< tt)) (simp zero-add (xor_lt 8 r 0x1b h (lit< tt)))

xtime-cases : (b : ℕ) (t : Bool) → ltb b 128 ≡ t → b < 256 → cond t (2 * b) (bit_xor (2 * b) 0x11b) < 256
xtime-cases b true e h = omega (arith, ltb-true b 128 e)
xtime-cases b false e h = let k : 128 ≤ b = ltb-false b 128 e in xtime_high b (2 * b - 256) (omega arith) (omega arith)

pub xtime-lt : (b : ℕ) → b < 256 → xtime b < 256
unfolding xtime
xtime-lt b h = xtime-cases b (ltb b 128) refl h

-- an entry of the table, from that of the S-box
pub mix-at : (b : ℕ) → b < 256 → get_or mix_table b 0 ≡ mix_entry (sub_byte b)
unfolding mix_table mix_entry mix_word word_number xtime
mix-at b h = get_or-map mix_entry sbox b 0 ∙ ap mix_entry (sbox-at b h)

pub number-entry : (s : ℕ) → s < 256 → number_word (mix_entry s) ≡ mix_word s
unfolding mix_entry mix_word
number-entry s h = let k = xtime-lt s h in number_word_lem _ k h h (xor_lt 8 (xtime s) s k h)

-- four terms, the first put last
cycle : (a b c d : ℕ) → bit_xor (bit_xor (bit_xor a b) c) d ≡ bit_xor (bit_xor (bit_xor b c) d) a
cycle a b c d = rw (xor_assoc a b c, xor_assoc a (bit_xor b c) d) (xor_comm a (bit_xor (bit_xor b c) d))

-- 5.1.3, by bytes: each byte's part of the mixed column, turned to the byte's row
pub mix-sum : (p q r s : ℕ)
    → xor_word (xor_word (xor_word (mix_word p) (rot_word (rot_word (rot_word (mix_word q))))) (rot_word (rot_word (mix_word r)))) (rot_word (mix_word s))
    ≡ mix_column (record { b0 = p; b1 = q; b2 = r; b3 = s })
unfolding xor_word mix_word rot_word mix_column mix_byte
mix-sum p q r s =
    let three : ℕ → ℕ = λ x. bit_xor (xtime x) x in
    word-ext refl (cycle p (xtime q) (three r) s) (cycle p q (xtime r) (three s) ∙ cycle q (xtime r) (three s) p)
    (cycle (three p) q r (xtime s) ∙ (cycle q r (xtime s) (three p) ∙ cycle r (xtime s) (three p) q))

pub mix-numbers : (x y z w p q r s : ℕ)
    → number_word x ≡ mix_word p → number_word y ≡ rot_word (rot_word (rot_word (mix_word q)))
    → number_word z ≡ rot_word (rot_word (mix_word r)) → number_word w ≡ rot_word (mix_word s)
    → number_word (bit_xor (bit_xor (bit_xor x y) z) w) ≡ mix_column (record { b0 = p; b1 = q; b2 = r; b3 = s })
mix-numbers x y z w p q r s hx hy hz hw =
    number-xor (bit_xor (bit_xor x y) z) w
    ∙ ap₂ xor_word (number-xor (bit_xor x y) z ∙ ap₂ xor_word (number-xor x y ∙ ap₂ xor_word hx hy) hz) hw
    ∙ mix-sum p q r s
