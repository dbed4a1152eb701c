-- Demand 1.
use mathlib.Core.Path.{◌≡◌, refl}
use mathlib.Core.Bool.{true}
use mathlib.Core.List.{List, [], ◌∷◌, ◌++◌, map}
use Prim.Native.Nat.{ℕ}
use lib.ListN.{length, drop}
use Rattle.buffers.specs.Bytes.{every, zeros}
use Rattle.spec.specs.Status.{is_listed, first_of, answer_of, on_ok, buffer_answer}
use Rattle.spec.specs.Record.{require_replay_protection}
use Rattle.spec.specs.Request.{Request, found, status_of, run}
use Rattle.spec.specs.Decisions.{set_held, get_held, remove_held, set_request, get_request, get_info_request, remove_request}
use Rattle.spec.specs.Calls.{Areas, areas, area_lengths, store_world, store_set, store_get, store_get_info}
use Rattle.spec.specs.Calls.{store_remove, store_reset, iterator_tests, store_iterator_next}
use Rattle.spec.specs.Incremental.{zero_handle, new_handle, start_tests, set_start, staged, add_tests, set_add_data, finalize_request, store_set_finalize}
use Rattle.spec.specs.Demand1.{Well, Demand1}
use Rattle.spec.proofs.Status.{number, first-listed, on-refused}
use Rattle.spec.proofs.World.{order}

-- an answer and areas that hang on a status
pub well : {State : Type 0} (n status : ℕ) (numbers written lent : List ℕ) (s t : State) → is_listed status ≡ true → length numbers ≡ n
    → Well n lent s (record { answer = answer_of status numbers written lent; after = on_ok status t s })
well n status numbers written lent s t l e = record {
  listed = l;
  numbers = λ h. rw (on-refused status numbers (zeros (length numbers)) h, e);
  output = on-refused status written lent;
  after = on-refused status t s;
}

run-well : (n : ℕ) (s : Areas) (q : Request) → every is_listed (map number (order s q.early (q.tests (found store_world s q) (store_world.room s)))) ≡ true
    → length (q.numbers (found store_world s q)) ≡ n → Well n q.lent s (run store_world s q)
run-well n s q l e =
    let b = found store_world s q in
    let tests = order s q.early (q.tests b (store_world.room s)) in
    well n (status_of store_world s q) (q.numbers b) (q.output b) q.lent s (store_world.edit s q.name (q.effect b)) (first-listed tests l) e

-- of a call that leaves card and chip, and answers with a buffer
pub buffer_well : {State : Type 0} (n : ℕ) (bytes buf : List ℕ) (s : State) → is_listed n ≡ true
    → Well 1 buf s (record { answer = buffer_answer n bytes buf; after = s })
unfolding buffer_answer
buffer_well n bytes buf s l = record {
  listed = l;
  numbers = λ h. on-refused n (length bytes ∷ []) (0 ∷ []) h;
  output = λ h. on-refused n (bytes ++ drop (length bytes) buf) buf h;
  after = λ h. refl;
}

pub demand1-holds : Demand1
unfolding store_set store_get store_get_info store_remove store_reset store_iterator_next set_start set_add_data store_set_finalize
    is_listed set_held get_held remove_held
demand1-holds = record {
  of_set = λ kv rbp key name flags iv value. run-well 0 (areas kv rbp) (set_request require_replay_protection key name flags iv value) refl refl;
  of_get = λ kv rbp key name offset output. run-well 1 (areas kv rbp) (get_request require_replay_protection key name offset output) refl refl;
  of_get_info = λ kv rbp key name. run-well 2 (areas kv rbp) (get_info_request require_replay_protection key name) refl refl;
  of_remove = λ kv rbp name. run-well 0 (areas kv rbp) (remove_request require_replay_protection name) refl refl;
  of_reset = λ kv rbp. well 0 _ [] [] [] (areas kv rbp) _ (first-listed (area_lengths (areas kv rbp)) refl) refl;
  of_iterator_next = λ kv rbp prefix start name_buf.
      let w = well 2 (first_of (iterator_tests kv rbp prefix start name_buf)) (_ ∷ _ ∷ []) _ name_buf (areas kv rbp) (areas kv rbp)
      (first-listed (iterator_tests kv rbp prefix start name_buf) refl) refl in
      record { listed = w.listed; numbers = w.numbers; output = w.output; after = λ h. refl };
  of_set_start = λ name flags iv size. well 0 _ [] [] [] zero_handle (new_handle name flags iv size) (first-listed (start_tests name iv size) refl) refl;
  of_set_add_data = λ h staging chunk. well 0 _ [] [] [] (staged h staging) _ (first-listed (add_tests h staging chunk) refl) refl;
  of_set_finalize = λ kv rbp key h staging. run-well 0 (areas kv rbp) (finalize_request require_replay_protection key h staging) refl refl;
}
