-- Demand 1: every call answers with a number of the table, and a refusal changes nothing lent and gives 0 for every other number; 02, No. 2, adds: "refused,
-- [a begin] returns an all-zero state".
--   Well      what is asked of a call
--   Demand1   it holds of every call
use Rattle.std.specs.Prelude.{◌≡◌, ◌≢◌, true, List, [], ℕ, replicate}
use Rattle.spec.specs.Status.{is_listed, Answer}
use Rattle.spec.specs.Name.{Name}
use Rattle.spec.specs.Interleaving.{Outcome}
use Rattle.spec.specs.Calls.{areas, store_set, store_get, store_get_info, store_remove, store_reset, store_iterator_next}
use Rattle.spec.specs.Incremental.{zero_handle, set_start, staged, set_add_data, store_set_finalize}
use Rattle.spec.specs.declared.incremental.IncSetHandle.{IncSetHandle}

-- of a call that was lent an output, and s besides (card and chip, or what it is to hand on), and gives n numbers besides its status
pub record Well {State : Type 0} (n : ℕ) (lent : List ℕ) (s : State) (o : Outcome State Answer) : Type 0 where
  pub listed : is_listed o.answer.status ≡ true
  pub numbers : o.answer.status ≢ 0 → o.answer.numbers ≡ replicate n 0
  pub output : o.answer.status ≢ 0 → o.answer.output ≡ lent
  pub after : o.answer.status ≢ 0 → o.after ≡ s

pub record Demand1 : Type 0 where
  pub of_set : (kv rbp key name : List ℕ) (flags : ℕ) (iv value : List ℕ) → Well 0 [] (areas kv rbp) (store_set kv rbp key name flags iv value)
  pub of_get : (kv rbp key name : List ℕ) (offset : ℕ) (output : List ℕ) → Well 1 output (areas kv rbp) (store_get kv rbp key name offset output)
  pub of_get_info : (kv rbp key name : List ℕ) → Well 2 [] (areas kv rbp) (store_get_info kv rbp key name)
  pub of_remove : (kv rbp name : List ℕ) → Well 0 [] (areas kv rbp) (store_remove kv rbp name)
  pub of_reset : (kv rbp : List ℕ) → Well 0 [] (areas kv rbp) (store_reset kv rbp)
  pub of_iterator_next : (kv rbp prefix : List ℕ) (start : ℕ) (name_buf : List ℕ)
      → Well 2 name_buf (areas kv rbp) (store_iterator_next kv rbp prefix start name_buf)
  pub of_set_start : (name : Name) (flags : ℕ) (iv : List ℕ) (size : ℕ) → Well 0 [] zero_handle (set_start name flags iv size)
  pub of_set_add_data : (h : IncSetHandle) (staging chunk : List ℕ) → Well 0 [] (staged h staging) (set_add_data h staging chunk)
  pub of_set_finalize : (kv rbp key : List ℕ) (h : IncSetHandle) (staging : List ℕ) → Well 0 [] (areas kv rbp) (store_set_finalize kv rbp key h staging)
