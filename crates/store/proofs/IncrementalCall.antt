-- A set in chunks: from what each test says to what the calls answer and leave. Assumes nothing.
use mathlib.Core.Path.{◌≡◌, refl, sym, ap, ◌∙◌}
use mathlib.Core.Logic.{◌≢◌}
use mathlib.Core.List.{List, []}
use Prim.Native.Nat.{ℕ, ◌-◌}
use native.Mathlib.Omega.{arith}
use borrow.Author.Tests.{eq-eqb, ne_eqb}
use lib.ListN.{length, take, drop}
use Rattle.buffers.specs.Bytes.{put_at}
use Rattle.spec.specs.Status.{ok, refuse_if, first_of, on_ok, answer_of, Answer}
use Rattle.spec.specs.Name.{Name}
use Rattle.spec.specs.Interleaving.{Outcome}
use Rattle.spec.specs.Calls.{Areas, areas, store_set}
use Rattle.spec.specs.Incremental.{zero_handle, start_tests, new_handle, set_start}
use Rattle.spec.specs.Incremental.{staged, add_tests, advanced, set_add_data, store_set_finalize}
use Rattle.spec.specs.IncrementalExact.{Startable, Addable, Complete}
use Rattle.spec.specs.declared.incremental.IncSetHandle.{IncSetHandle}
use Rattle.spec.proofs.Status.{all-passed}
use Rattle.spec.proofs.IncrementalSet.{startable, addable, complete-of, as_set, finalize-refused}
use Rattle.store.specs.Parts.{finalize_early}

-- what a call that gives only its status is
abbrev pub Given : {State : Type 0} → ℕ → State → Outcome State Answer
Given k y = record { answer = record { status = k; numbers = []; output = [] }; after = y }

-- the same, where that is another number than 0, and where it is 0
module _ {State : Type 0} (n status : ℕ) (s t x : State) (e : n ≡ status) where
  abbrev Defined : Outcome State Answer
  Defined = record { answer = answer_of status [] [] []; after = on_ok status s t }

  refused-is : n ≢ ok → x ≡ t → Given n x ≡ Defined
  unfolding on_ok
  refused-is h w = rw (ne_eqb status ok (λ z. h (e ∙ z))) (λ i. Given (e i) (w i))

  done-is : n ≡ ok → x ≡ s → Given ok x ≡ Defined
  unfolding on_ok
  done-is h w = let z : status ≡ ok = sym e ∙ h in rw z (ap (Given ok) w)

-- ---- start

module _ (name : Name) (flags : ℕ) (iv : List ℕ) (size n : ℕ) (e : n ≡ first_of (start_tests name iv size)) where
  pub start-refused : n ≢ ok → (h : IncSetHandle) → h ≡ zero_handle
      → record { answer = record { status = n; numbers = []; output = [] }; after = h } ≡ set_start name flags iv size
  unfolding set_start
  start-refused z h w = refused-is n (first_of (start_tests name iv size)) (new_handle name flags iv size) zero_handle h e z w

  pub start-done : n ≡ ok → (h : IncSetHandle) → h ≡ new_handle name flags iv size
      → record { answer = record { status = ok; numbers = []; output = [] }; after = h } ≡ set_start name flags iv size
  unfolding set_start
  start-done z h w = done-is n (first_of (start_tests name iv size)) (new_handle name flags iv size) zero_handle h e z w

  pub start-ready : n ≡ ok → Startable name iv size
  start-ready z = startable name flags iv size (sym e ∙ z)

-- ---- add

module _ (h : IncSetHandle) (staging chunk : List ℕ) (n : ℕ) (e : n ≡ first_of (add_tests h staging chunk)) where
  pub add-ready : n ≡ ok → Addable h staging chunk
  add-ready z = addable h staging chunk (sym e ∙ z)

  pub add-refused : n ≢ ok → record { answer = record { status = n; numbers = []; output = [] }; after = staged h staging } ≡ set_add_data h staging chunk
  unfolding set_add_data
  add-refused z = refused-is n (first_of (add_tests h staging chunk)) (staged (advanced h (length chunk)) (put_at staging h.offset chunk))
      (staged h staging) (staged h staging) e z refl

  pub add_done : n ≡ ok → (g : IncSetHandle) (l : List ℕ) → g ≡ advanced h (length chunk) → l ≡ put_at staging h.offset chunk
      → record { answer = record { status = ok; numbers = []; output = [] }; after = staged g l } ≡ set_add_data h staging chunk
  unfolding set_add_data
  add_done z g l v w = done-is n (first_of (add_tests h staging chunk)) (staged (advanced h (length chunk)) (put_at staging h.offset chunk))
      (staged h staging) (staged g l) e z (λ i. staged (v i) (w i))

-- ---- finalize

module _ (kv rbp key : List ℕ) (h : IncSetHandle) (staging : List ℕ) (n : ℕ) (e : n ≡ first_of (finalize_early kv rbp key h staging)) where
  pub refused-early : length h.iv ≡ 8 → n ≢ ok
      → record { answer = record { status = n; numbers = []; output = [] }; after = areas kv rbp } ≡ store_set_finalize kv rbp key h staging
  unfolding refuse_if
  refused-early iv z = finalize-refused kv rbp key h staging n (rw (eq-eqb (length h.iv) 8 iv) e) z

  module _ (z : n ≡ ok) where
    pub complete : Complete h staging
    complete = complete-of h staging (all-passed (finalize_early kv rbp key h staging) refl (sym e ∙ z)).1.1.1

    -- a set of the name's bytes and of those held
    pub is_set : (o : Outcome Areas Answer)
        → o ≡ store_set kv rbp key (take (h.name_len - 0) (drop 0 h.name)) h.flags h.iv (take (h.offset - 0) (drop 0 staging))
        → o ≡ store_set_finalize kv rbp key h staging
    is_set o w =
        let a : h.name_len - 0 ≡ h.name_len = omega arith in
        let b : h.offset - 0 ≡ h.offset = omega arith in
        w ∙ rw (a, b) (sym (as_set kv rbp key h staging complete))
