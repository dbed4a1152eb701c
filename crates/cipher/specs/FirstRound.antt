-- What the counter blocks of one message share. From block to block the last column changes alone, until the low word of the count starts again, so counter
-- mode keeps the first round without that column's part.
use Rattle.cipher.specs.Sbox.{sub_byte}
use Rattle.cipher.specs.Tables.{mix_word}
use Rattle.cipher.specs.Aes.{Word, State, rot_word, add_round_key, after_rounds}
use Rattle.std.specs.Prelude.{ℕ}

-- what the last column adds to the four columns of a round: row r of it goes r columns to the left (5.1.2), and is mixed there
unfoldable pub last_column_part : Word → State
last_column_part w = record {
  c0 = rot_word (mix_word (sub_byte w.b3));
  c1 = rot_word (rot_word (mix_word (sub_byte w.b2)));
  c2 = rot_word (rot_word (rot_word (mix_word (sub_byte w.b1))));
  c3 = mix_word (sub_byte w.b0);
}

-- the state after the first round, with the last column's part taken out
unfoldable pub shared_round : (ℕ → State) → State → State
shared_round w s = add_round_key (last_column_part (add_round_key (w 0) s).c3) (after_rounds w 1 s)
