-- An expanded key, read back, is the key schedule: what is encrypted under it is encrypted under the key. Assumes nothing.
use Rattle.std.proofs.Common.{◌≡◌, ℕ, zero, suc, ◌+◌, ◌*◌, ◌<◌, ◌≤◌, leb, List, [], ◌++◌, length, get_or, sym, refl, ap, ◌∙◌, ap₂, add-zero, arith, lit<, lit≤, length-append, get_or-append-add, leb-false, leb-true}
use mathlib.Core.Path.{fun_ext}
use lib.Bits.{xor_lt}
use lib.ListN.{get_or-append}
use Rattle.cipher.specs.Aes.{Word, State, number_word, word_number, xor_word, sub_word, rot_word, word_at, state_of, block_of}
use Rattle.cipher.specs.Aes.{rcon, next_round_key, round_key, state_numbers, expand_to, expand_key, kept_key}
use Rattle.cipher.specs.Aes.{sub_bytes, shift_rows, mix_columns, add_round_key, after_rounds, cipher, aes128, encrypt_with}
use Rattle.cipher.proofs.Cases.{by-test}
use Rattle.cipher.proofs.Words.{number_word_lem, state-ext}
use Rattle.cipher.proofs.Mix.{sub-lt}
use Rattle.cipher.proofs.KeySchedule.{rcon-lt}

pub record WordFits (w : Word) : Type 0 where
  pub h0 : w.b0 < 256
  pub h1 : w.b1 < 256
  pub h2 : w.b2 < 256
  pub h3 : w.b3 < 256

pub record StateFits (s : State) : Type 0 where
  pub f0 : WordFits s.c0
  pub f1 : WordFits s.c1
  pub f2 : WordFits s.c2
  pub f3 : WordFits s.c3

xor-fits : {v w : Word} → WordFits v → WordFits w → WordFits (xor_word v w)
unfolding xor_word
xor-fits {v} {w} f g = record {
  h0 = xor_lt 8 v.b0 w.b0 f.h0 g.h0;
  h1 = xor_lt 8 v.b1 w.b1 f.h1 g.h1;
  h2 = xor_lt 8 v.b2 w.b2 f.h2 g.h2;
  h3 = xor_lt 8 v.b3 w.b3 f.h3 g.h3;
}

sub-fits : (w : Word) → WordFits (sub_word w)
unfolding sub_word
sub-fits w = record { h0 = sub-lt _; h1 = sub-lt _; h2 = sub-lt _; h3 = sub-lt _ }

rcon-fits : (i : ℕ) → WordFits (rcon i)
unfolding rcon
rcon-fits i = record { h0 = rcon-lt i; h1 = lit< tt; h2 = lit< tt; h3 = lit< tt }

next_fits : (i : ℕ) (k : State) → StateFits k → StateFits (next_round_key i k)
unfolding next_round_key
next_fits i k f =
    let g0 = xor-fits f.f0 (xor-fits (sub-fits (rot_word k.c3)) (rcon-fits i)) in
    let g1 = xor-fits f.f1 g0 in
    let g2 = xor-fits f.f2 g1 in
    record { f0 = g0; f1 = g1; f2 = g2; f3 = xor-fits f.f3 g2 }

key_fits : (key : List ℕ) → ((i : ℕ) → get_or key i 0 < 256) → (r : ℕ) → StateFits (round_key key r)
unfolding round_key state_of word_at
key_fits key h zero = record {
  f0 = record { h0 = h 0; h1 = h 1; h2 = h 2; h3 = h 3 };
  f1 = record { h0 = h 4; h1 = h 5; h2 = h 6; h3 = h 7 };
  f2 = record { h0 = h 8; h1 = h 9; h2 = h 10; h3 = h 11 };
  f3 = record { h0 = h 12; h1 = h 13; h2 = h 14; h3 = h 15 };
}
key_fits key h (suc r) = next_fits r (round_key key r) (key_fits key h r)

number_fits : (w : Word) → WordFits w → number_word (word_number w) ≡ w
number_fits w f = number_word_lem w f.h0 f.h1 f.h2 f.h3

-- the last four words of a list
kept-last : (l : List ℕ) (s : State) (r : ℕ) → length l ≡ 4 * r → StateFits s → kept_key (l ++ state_numbers s) r ≡ s
unfolding kept_key state_numbers
kept-last l s r e f =
    let at : (j : ℕ) → get_or (l ++ state_numbers s) (4 * r + j) 0 ≡ get_or (state_numbers s) j 0 = λ j. rw (← e) (get_or-append-add l (state_numbers s) j 0) in
    state-ext (ap number_word (ap (λ (i : ℕ). get_or (l ++ state_numbers s) i 0) (sym (add-zero (4 * r))) ∙ at 0) ∙ number_fits s.c0 f.f0)
    (ap number_word (at 1) ∙ number_fits s.c1 f.f1)
    (ap number_word (at 2) ∙ number_fits s.c2 f.f2)
    (ap number_word (at 3) ∙ number_fits s.c3 f.f3)

-- words that stand further in front
kept-front : (l m : List ℕ) (r : ℕ) → 4 * r + 4 ≤ length l → kept_key (l ++ m) r ≡ kept_key l r
unfolding kept_key
kept-front l m r h =
    let at : (i : ℕ) → i < length l → number_word (get_or (l ++ m) i 0) ≡ number_word (get_or l i 0) = λ i k. ap number_word (get_or-append l m 0 i k) in
    state-ext (at (4 * r) (omega arith)) (at (4 * r + 1) (omega arith)) (at (4 * r + 2) (omega arith)) (at (4 * r + 3) (omega arith))

expand_length : (key : List ℕ) (r : ℕ) → length (expand_to key r) ≡ 4 * r + 4
unfolding expand_to state_numbers
expand_length key zero = refl
expand_length key (suc r) = length-append (expand_to key r) (state_numbers (round_key key (suc r))) ∙ (rw (expand_length key r) (omega arith))

-- up to n + 1: up to n, or n + 1 itself
last_or : {A : Type 0} (r n : ℕ) → r ≤ suc n → (r ≤ n → A) → (r ≡ suc n → A) → A
last_or r n h f g = by-test (leb r n) (λ e. f (leb-true r n e)) (λ e. g (let k = leb-false r n e in omega arith))

module _ (key : List ℕ) (h : (i : ℕ) → get_or key i 0 < 256) where
  kept-expanded : (n r : ℕ) → r ≤ n → kept_key (expand_to key n) r ≡ round_key key r
  unfolding expand_to
  kept-expanded zero r k =
      let z : r ≡ 0 = omega arith in
      rw z (kept-last [] (round_key key zero) 0 refl (key_fits key h zero))
  kept-expanded (suc n) r k =
      let last = round_key key (suc n) in
      last_or r n k
      (λ f. kept-front (expand_to key n) (state_numbers last) r (omega (arith, expand_length key n)) ∙ kept-expanded n r f)
      (λ e. rw e (kept-last (expand_to key n) last (suc n) (expand_length key n ∙ omega arith) (key_fits key h (suc n))))

  -- AES asks for the round keys 0 to 10 alone
  rounds-same : (r : ℕ) (s : State) → r ≤ 10 → after_rounds (kept_key (expand_key key)) r s ≡ after_rounds (round_key key) r s
  unfolding after_rounds expand_key
  rounds-same zero s k = ap (λ (w : State). add_round_key w s) (kept-expanded 10 0 k)
  rounds-same (suc r) s k =
      ap₂ (λ (w t : State). add_round_key w (mix_columns (shift_rows (sub_bytes t)))) (kept-expanded 10 (suc r) k) (rounds-same r s (omega arith))

  pub encrypt_expanded : (block : List ℕ) → encrypt_with (expand_key key) block ≡ aes128 key block
  unfolding encrypt_with aes128 cipher expand_key
  encrypt_expanded block =
      ap block_of
      (ap₂ (λ (w t : State). add_round_key w (shift_rows (sub_bytes t))) (kept-expanded 10 10 (lit≤ tt)) (rounds-same 9 (state_of block) (lit≤ tt)))

-- the cipher under an expanded key is the cipher under its key
pub same-cipher : (key ks : List ℕ) → ((i : ℕ) → get_or key i 0 < 256) → ks ≡ expand_key key → encrypt_with ks ≡ aes128 key
same-cipher key ks h e = ap encrypt_with e ∙ fun_ext (encrypt_expanded key h)
