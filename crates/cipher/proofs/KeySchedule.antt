-- The key schedule: round constants, bytes, and an expanded key read back. Assumes nothing.
use Rattle.std.proofs.Common.{◌≡◌, ℕ, zero, suc, ◌+◌, ◌*◌, ◌<◌, ◌≤◌, List, [], ◌∷◌, ◌++◌, length, take, drop, set, refl, ap, ◌∙◌, ap₂, add-one, arith, lit<, length-append, length-take, take_at, lt-ltb}
use native.Mathlib.Numerals.{add-two, add-three}
use lib.Bits.{bit_xor}
use lib.Seq.{sets-eq}
use Rattle.cipher.specs.Field.{xtime}
use Rattle.cipher.specs.Aes.{State, number_word, word_number, xor_word, sub_word, rot_word}
use Rattle.cipher.specs.Aes.{rcon, rcon_byte, next_round_key, round_key, state_numbers, expand_to}
use Rattle.cipher.proofs.Words.{number_word_lem, number-xor, state-ext}
use Rattle.cipher.proofs.Mix.{xtime-lt}

pub rcon-lt : (i : ℕ) → rcon_byte i < 256
unfolding rcon_byte
rcon-lt zero = lit< tt
rcon-lt (suc i) = xtime-lt (rcon_byte i) (rcon-lt i)

pub number-constant : (i : ℕ) → number_word (word_number (rcon i)) ≡ rcon i
unfolding rcon
number-constant i = number_word_lem _ (rcon-lt i) (lit< tt) (lit< tt) (lit< tt)

-- a constant below 0x80 is doubled
pub constant-low : (i c : ℕ) → c ≡ word_number (rcon i) → c < 0x80000000 → c * 2 ≡ word_number (rcon (suc i))
unfolding rcon rcon_byte word_number xtime
constant-low i c e h = let low : rcon_byte i < 128 = omega arith in rw (lt-ltb (rcon_byte i) 128 low) (omega arith)

-- of the ten constants one is not
pub constant-high : (i c : ℕ) → i < 10 → c ≡ word_number (rcon i) → 0x80000000 ≤ c → 0x1b000000 ≡ word_number (rcon (suc i))
unfolding rcon rcon_byte word_number xtime
constant-high zero c h e k = absurd (omega arith)
constant-high (suc zero) c h e k = absurd (omega arith)
constant-high (suc (suc zero)) c h e k = absurd (omega arith)
constant-high (suc (suc (suc zero))) c h e k = absurd (omega arith)
constant-high (suc (suc (suc (suc zero)))) c h e k = absurd (omega arith)
constant-high (suc (suc (suc (suc (suc zero))))) c h e k = absurd (omega arith)
constant-high (suc (suc (suc (suc (suc (suc zero)))))) c h e k = absurd (omega arith)
constant-high (suc (suc (suc (suc (suc (suc (suc zero))))))) c h e k = refl
constant-high (suc (suc (suc (suc (suc (suc (suc (suc zero)))))))) c h e k = absurd (omega arith)
constant-high (suc (suc (suc (suc (suc (suc (suc (suc (suc zero))))))))) c h e k = absurd (omega arith)
constant-high (suc (suc (suc (suc (suc (suc (suc (suc (suc (suc i)))))))))) c h e k = absurd (omega arith)

-- one round key from another, in numbers: t is RotWord, s its SubWord, r the round constant
pub next-numbers : (i k0 k1 k2 k3 t s r : ℕ) → number_word t ≡ rot_word (number_word k3)
    → number_word s ≡ sub_word (number_word t) → number_word r ≡ rcon i
    → let n0 = bit_xor k0 (bit_xor s r) in
    let n1 = bit_xor k1 n0 in
    let n2 = bit_xor k2 n1 in
    let old : State = record { c0 = number_word k0; c1 = number_word k1; c2 = number_word k2; c3 = number_word k3 } in
    ◌≡◌ {A = State} (record { c0 = number_word n0; c1 = number_word n1; c2 = number_word n2; c3 = number_word (bit_xor k3 n2) }) (next_round_key i old)
unfolding next_round_key
next-numbers i k0 k1 k2 k3 t s r ht hs hr =
    let n0 = bit_xor k0 (bit_xor s r) in
    let n1 = bit_xor k1 n0 in
    let e0 = number-xor k0 (bit_xor s r) ∙ ap (xor_word (number_word k0)) (number-xor s r ∙ ap₂ xor_word (hs ∙ ap sub_word ht) hr) in
    let e1 = number-xor k1 n0 ∙ ap (xor_word (number_word k1)) e0 in
    let e2 = number-xor k2 n1 ∙ ap (xor_word (number_word k2)) e1 in
    state-ext e0 e1 e2 (number-xor k3 (bit_xor k2 n1) ∙ ap (xor_word (number_word k3)) e2)

-- four stores in a row
pub put_four : (l : List ℕ) (i a b c d : ℕ) → i + 4 ≤ length l
    → set (set (set (set l i a) (i + 1) b) (i + 2) c) (i + 3) d ≡ take i l ++ (a ∷ b ∷ c ∷ d ∷ []) ++ drop (i + 4) l
put_four l i a b c d h = rw (add-one i, add-two i, add-three i) (sets-eq (a ∷ b ∷ c ∷ d ∷ []) l i h)

-- what stands in front after a round key is put at its place
pub put_front : (l m : List ℕ) (r : ℕ) (s : State) → 4 * r + 4 ≤ length l
    → m ≡ take (4 * r) l ++ state_numbers s ++ drop (4 * r + 4) l → take (4 * r + 4) m ≡ take (4 * r) l ++ state_numbers s
unfolding state_numbers
put_front l m r s h e =
    let front = take (4 * r) l in
    let sized : length (front ++ state_numbers s) ≡ 4 * r + 4 = length-append front (state_numbers s) ∙ simp length-take (omega arith) in
    rw e (take_at (front ++ state_numbers s) (drop (4 * r + 4) l) (4 * r + 4) sized)

pub expand_step : (key l m : List ℕ) (r : ℕ) (s : State) → 4 * (r + 1) + 4 ≤ length l
    → m ≡ take (4 * (r + 1)) l ++ state_numbers s ++ drop (4 * (r + 1) + 4) l
    → take (4 * r + 4) l ≡ expand_to key r → s ≡ round_key key (r + 1) → take (4 * (r + 1) + 4) m ≡ expand_to key (r + 1)
unfolding expand_to
expand_step key l m r s h e f g =
    let four : 4 * (r + 1) ≡ 4 * r + 4 = omega arith in
    let front : take (4 * (r + 1)) l ≡ expand_to key r = rw four f in
    put_front l m (r + 1) s h e ∙ ap₂ (λ (p q : List ℕ). p ++ q) front (ap state_numbers g) ∙ rw add-one
