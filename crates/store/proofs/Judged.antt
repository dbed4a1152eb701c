-- A judgement: from its parts, and what it says where the status is 0. Assumes nothing.
use mathlib.Core.Path.{◌≡◌, sym, ap, ◌∙◌}
use mathlib.Core.Logic.{◌≢◌}
use mathlib.Core.Bool.{true}
use mathlib.Core.List.{List, [], ◌++◌, map}
use Prim.Native.Nat.{ℕ}
use Rattle.buffers.specs.Bytes.{every, is_some}
use Rattle.spec.specs.Status.{ok, Test, first_of, Answer}
use Rattle.spec.specs.Name.{Name}
use Rattle.spec.specs.Area.{Format, kv_format, rbp_format, sized, intact, lookup}
use Rattle.spec.specs.Interleaving.{Outcome}
use Rattle.spec.specs.Calls.{Areas}
use Rattle.spec.specs.Decisions.{record_of}
use Rattle.spec.proofs.Status.{number, nonzero, stops, passes, first-passed, on-ok, on-refused}
use Rattle.slots.specs.declared.areas.Found.{Found}
use Rattle.slots.specs.Found.{found_in, CanRead, payload_at}
use Rattle.slots.proofs.Edits.{found-held, found-readable, found-payload}
use Rattle.store.specs.Parts.{Judgement, nowhere, judged}

-- a call that changes card and chip, as its contract has it
abbrev pub Left : ℕ → Areas → Outcome Areas Answer
Left status after = record { answer = record { status = status; numbers = []; output = [] }; after = after }

-- a search's finding
module _ (F : Format) (l name : List ℕ) (f : Found) (e : f ≡ found_in F l name) where
  pub held-is : f.held ≡ is_some (lookup F l name)
  held-is = ap (λ (x : Found). x.held) e ∙ found-held F l name

  pub readable : sized F l ≡ true → intact F l ≡ true → CanRead F l f
  readable s g = rw e (found-readable F l g name s)

  pub payload-is : intact F l ≡ true → (p : List ℕ) → p ≡ payload_at F l f → p ≡ record_of (lookup F l name)
  payload-is g p h = h ∙ ap (payload_at F l) e ∙ found-payload F l g name

module _ (kv rbp : List ℕ) (name : Name) (first tests : List Test) where
  pub judged-refused : (n : ℕ) → n ≡ first_of first → n ≢ ok → record { status = n; found = nowhere; entry = nowhere } ≡ judged kv rbp name first tests
  judged-refused n e h =
      let k : first_of first ≢ ok = λ z. h (e ∙ z) in
      λ i. record {
        status = (e ∙ sym (stops first tests k)) i;
        found = sym (on-refused (first_of first) (found_in kv_format kv name) nowhere k) i;
        entry = sym (on-refused (first_of first) (found_in rbp_format rbp name) nowhere k) i;
      }

  pub judged-here : every nonzero (map number first) ≡ true → first_of first ≡ ok → (n : ℕ) (f g : Found)
      → n ≡ first_of tests → f ≡ found_in kv_format kv name → g ≡ found_in rbp_format rbp name
      → record { status = n; found = f; entry = g } ≡ judged kv rbp name first tests
  judged-here z h n f g p q r = λ i. record {
    status = (p ∙ sym (passes first tests z h)) i;
    found = (q ∙ sym (on-ok (first_of first) (found_in kv_format kv name) nowhere h)) i;
    entry = (r ∙ sym (on-ok (first_of first) (found_in rbp_format rbp name) nowhere h)) i;
  }

  -- where the status is 0, every test has passed, and the name was looked up
  module _ (j : Judgement) (e : j ≡ judged kv rbp name first tests) (h : j.status ≡ ok) where
    pub all-passed : first_of (first ++ tests) ≡ ok
    all-passed = sym (ap (λ (x : Judgement). x.status) e) ∙ h

    early-passed : every nonzero (map number (first ++ tests)) ≡ true → first_of first ≡ ok
    early-passed z = first-passed first tests z all-passed

    pub kv_found : every nonzero (map number (first ++ tests)) ≡ true → j.found ≡ found_in kv_format kv name
    kv_found z = ap (λ (x : Judgement). x.found) e ∙ on-ok (first_of first) (found_in kv_format kv name) nowhere (early-passed z)

    pub rbp_found : every nonzero (map number (first ++ tests)) ≡ true → j.entry ≡ found_in rbp_format rbp name
    rbp_found z = ap (λ (x : Judgement). x.entry) e ∙ on-ok (first_of first) (found_in rbp_format rbp name) nowhere (early-passed z)
