-- The state as the code of AES has it, in four 32-bit numbers.
use Rattle.std.specs.Prelude.{ℕ}
use Rattle.cipher.specs.declared.aes.Columns.{Columns}
use Rattle.cipher.specs.Aes.{State, number_word}

unfoldable pub columns_state : Columns → State
columns_state s = record { c0 = number_word s.c0; c1 = number_word s.c1; c2 = number_word s.c2; c3 = number_word s.c3 }

-- the same of four numbers that are passed one by one
unfoldable pub words_state : ℕ → ℕ → ℕ → ℕ → State
words_state a b c d = record { c0 = number_word a; c1 = number_word b; c2 = number_word c; c3 = number_word d }
