-- The first round without its last column's part does not depend on that column. Assumes nothing.
use Rattle.std.proofs.Common.{◌≡◌, ℕ, sym, ap, ◌∙◌}
use lib.Bits.{bit_xor, xor_comm}
use Rattle.cipher.specs.Sbox.{sub_byte}
use Rattle.cipher.specs.Tables.{mix_word}
use Rattle.cipher.specs.Aes.{Word, State, xor_word, rot_word, sub_word, sub_bytes, diagonal, shift_rows, mix_columns, add_round_key, after_rounds}
use Rattle.cipher.specs.FirstRound.{last_column_part, shared_round}
use Rattle.cipher.proofs.Xor.{xor_assoc, xor-twice}
use Rattle.cipher.proofs.Words.{word-ext, state-ext}
use Rattle.cipher.proofs.Mix.{mix-sum}

xor-swap : (a b c : ℕ) → bit_xor (bit_xor a b) c ≡ bit_xor (bit_xor a c) b
xor-swap a b c = xor_assoc a b c ∙ ap (bit_xor a) (xor_comm b c) ∙ sym (xor_assoc a c b)

word-comm : (v w : Word) → xor_word v w ≡ xor_word w v
unfolding xor_word
word-comm v w =
    word-ext (xor_comm v.b0 w.b0) (xor_comm v.b1 w.b1) (xor_comm v.b2 w.b2) (xor_comm v.b3 w.b3)

word-swap : (u v w : Word) → xor_word (xor_word u v) w ≡ xor_word (xor_word u w) v
unfolding xor_word
word-swap u v w =
    word-ext (xor-swap u.b0 v.b0 w.b0) (xor-swap u.b1 v.b1 w.b1) (xor-swap u.b2 v.b2 w.b2) (xor-swap u.b3 v.b3 w.b3)

word-twice : (v w : Word) → xor_word (xor_word v w) w ≡ v
unfolding xor_word
word-twice v w = word-ext (xor-twice _ _) (xor-twice _ _) (xor-twice _ _) (xor-twice _ _)

state-swap : (k l s : State) → add_round_key k (add_round_key l s) ≡ add_round_key l (add_round_key k s)
unfolding add_round_key
state-swap k l s = state-ext (word-swap _ _ _) (word-swap _ _ _) (word-swap _ _ _) (word-swap _ _ _)

state-twice : (k s : State) → add_round_key k (add_round_key k s) ≡ s
unfolding add_round_key
state-twice k s = state-ext (word-twice _ _) (word-twice _ _) (word-twice _ _) (word-twice _ _)

-- of a sum of four, the third, the second and the first taken out
out_3 : (x y z w : Word) → xor_word (xor_word (xor_word (xor_word x y) z) w) z ≡ xor_word (xor_word x y) w
out_3 x y z w = ap (λ (v : Word). xor_word v z) (word-swap (xor_word x y) z w) ∙ word-twice _ z

out-2 : (x y z w : Word) → xor_word (xor_word (xor_word (xor_word x y) z) w) y ≡ xor_word (xor_word x z) w
out-2 x y z w = ap (λ (v : Word). xor_word (xor_word v w) y) (word-swap x y z) ∙ out_3 x z y w

out-1 : (x y z w : Word) → xor_word (xor_word (xor_word (xor_word x y) z) w) x ≡ xor_word (xor_word y z) w
out-1 x y z w = ap (λ (v : Word). xor_word (xor_word (xor_word v z) w) x) (word-comm x y) ∙ out-2 y x z w

-- what the other columns add
rest : Word → Word → Word → State
rest a b c =
    let m : ℕ → Word = λ x. mix_word (sub_byte x) in
    record {
      c0 = xor_word (xor_word (m a.b0) (rot_word (rot_word (rot_word (m b.b1))))) (rot_word (rot_word (m c.b2)));
      c1 = xor_word (xor_word (m b.b0) (rot_word (rot_word (rot_word (m c.b1))))) (rot_word (m a.b3));
      c2 = xor_word (xor_word (m c.b0) (rot_word (rot_word (m a.b2)))) (rot_word (m b.b3));
      c3 = xor_word (xor_word (rot_word (rot_word (rot_word (m a.b1)))) (rot_word (rot_word (m b.b2)))) (rot_word (m c.b3));
    }

taken_out : (s : State) → add_round_key (last_column_part s.c3) (mix_columns (shift_rows (sub_bytes s))) ≡ rest s.c0 s.c1 s.c2
unfolding add_round_key last_column_part mix_columns shift_rows sub_bytes sub_word diagonal rest
taken_out s =
    let out : (v w : Word) → v ≡ w → (k : Word) → xor_word w k ≡ xor_word v k = λ v w e k. ap (λ (x : Word). xor_word x k) (sym e) in
    state-ext (out _ _ (mix-sum _ _ _ _) _ ∙ word-twice _ _) (out _ _ (mix-sum _ _ _ _) _ ∙ out_3 _ _ _ _)
    (out _ _ (mix-sum _ _ _ _) _ ∙ out-2 _ _ _ _) (out _ _ (mix-sum _ _ _ _) _ ∙ out-1 _ _ _ _)

module _ (w : ℕ → State) where
  abbrev others : State → State
  others s = add_round_key (w 1) (rest (add_round_key (w 0) s).c0 (add_round_key (w 0) s).c1 (add_round_key (w 0) s).c2)

  shared-others : (s : State) → shared_round w s ≡ others s
  unfolding shared_round after_rounds
  shared-others s = state-swap _ (w 1) _ ∙ ap (add_round_key (w 1)) (taken_out (add_round_key (w 0) s))

  pub shared_same : (a b c d e : Word)
      → shared_round w (record { c0 = a; c1 = b; c2 = c; c3 = d }) ≡ shared_round w (record { c0 = a; c1 = b; c2 = c; c3 = e })
  unfolding add_round_key
  shared_same a b c d e = shared-others _ ∙ sym (shared-others _)

  pub shared-whole : (s : State) → add_round_key (last_column_part (add_round_key (w 0) s).c3) (shared_round w s) ≡ after_rounds w 1 s
  unfolding shared_round
  shared-whole s = state-twice _ _
