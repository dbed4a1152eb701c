-- 01, "Numbers the calls answer with", and how a call comes to one.
--   status_table, is_listed   the numbers of the table, and whether a number is one of them
--   Test, first_of            a number with the test that it is given for; the number of the first test that says so
--   Answer, answer_of         what a call answers; what it answers where its status is 0, and where it is not
--   buffer_answer             an answer of bytes at the front of a lent buffer
--   bytes_given               the bytes that an answer's count counts
use Rattle.std.specs.Prelude.{Bool, true, false, cond, List, [], ◌∷◌, ◌++◌, ℕ, eqb, length, get_or, take, drop}
use Rattle.buffers.specs.Bytes.{any, zeros}

abbrev pub ok : ℕ
ok = 0

-- 0 done; 1 length wrong; 2 card or chip damaged; 3 bad name, prefix or key identifier; 4 bad flags; 5 data over 480 bytes; 6 not found; 7 already
-- exists; 8 record not well formed; 9 flags differ from the stored ones; 10 no room; 11 CMAC wrong; 12 rollback; 13 not a key file; 14 offset beyond
-- the data; 02 adds, each with its request: 19 a chunk, a finalize or a handle of an incremental set that does not fit; 20 not a mix; 21 more than one
-- mix of the session
abbrev pub status_table : List ℕ
status_table = 0 ∷ 1 ∷ 2 ∷ 3 ∷ 4 ∷ 5 ∷ 6 ∷ 7 ∷ 8 ∷ 9 ∷ 10 ∷ 11 ∷ 12 ∷ 13 ∷ 14 ∷ 19 ∷ 20 ∷ 21 ∷ []

unfoldable pub is_listed : ℕ → Bool
is_listed s = any (eqb s) status_table

abbrev pub is_ok : ℕ → Bool
is_ok s = eqb s ok

-- a number, and the test that it is given for
infix 0 ◌when◌
pub data Test : Type 0 where
  ◌when◌ : ℕ → Bool → Test

-- the number where the test says so; else what follows decides
unfoldable pub refuse_if : Bool → ℕ → ℕ → ℕ
refuse_if true number rest = number
refuse_if false number rest = rest

-- "Each number is given when its test is the first to fail in the order below, and never otherwise."
abbrev pub first_of : List Test → ℕ
first_of [] = ok
first_of ((number when failed) ∷ rest) = refuse_if failed number (first_of rest)

-- the first where the status is 0, else the second
unfoldable pub on_ok : {A : Type 0} → ℕ → A → A → A
on_ok status done refused = cond (is_ok status) done refused

-- the number, every other returned number, and the final bytes of the buffer that is lent for output
pub record Answer : Type 0 where
  pub status : ℕ
  pub numbers : List ℕ
  pub output : List ℕ

-- "Every refusal returns 0 for the count and for every other returned number but its own, and changes nothing lent."
abbrev pub answer_of : ℕ → List ℕ → List ℕ → List ℕ → Answer
answer_of status numbers written lent = record { status = status; numbers = on_ok status numbers (zeros (length numbers)); output = on_ok status written lent }

-- bytes at the front of the buffer that is lent for output, their length as the count, the rest as before
unfoldable pub buffer_answer : ℕ → List ℕ → List ℕ → Answer
buffer_answer status bytes lent = answer_of status (length bytes ∷ []) (bytes ++ drop (length bytes) lent) lent

abbrev pub bytes_given : Answer → List ℕ
bytes_given a = take (get_or a.numbers 0 0) a.output
