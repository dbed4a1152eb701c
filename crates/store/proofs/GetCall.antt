-- A get and an info: from the judgement to what they answer. Assumes nothing.
use mathlib.Core.Path.{◌≡◌, refl, sym, ap, ◌∙◌}
use mathlib.Core.Logic.{◌≢◌}
use mathlib.Core.Bool.{not}
use mathlib.Core.List.{List, [], ◌∷◌, ◌++◌}
use mathlib.Core.Option.{Option, some}
use Prim.Native.Nat.{ℕ, ◌≤◌}
use lib.ListN.{length}
use borrow.Author.Tests.{eqb-true, leb-true}
use Rattle.buffers.proofs.Split.{not-false-is}
use Rattle.spec.specs.Status.{ok, Test, ◌when◌, first_of, Answer, answer_of}
use Rattle.spec.specs.Name.{valid_name}
use Rattle.spec.specs.Record.{require_replay_protection, data_size_of, flags_of}
use Rattle.spec.specs.Area.{kv_format, rbp_format, lookup}
use Rattle.spec.specs.Interleaving.{Outcome}
use Rattle.spec.specs.Request.{Binding}
use Rattle.spec.specs.Decisions.{key_sized, record_of, get_held, read_count, read_output, get_request, get_info_request}
use Rattle.spec.specs.Calls.{Areas, areas, binding_of, store_world, store_get, store_get_info}
use Rattle.spec.specs.Demand2.{Undamaged}
use Rattle.spec.proofs.World.{run-done, run-refused, Accepted, accepted}
use Rattle.spec.proofs.Status as status
use Rattle.store.specs.Parts.{get_early, keyless_tests, keyed_tests, Judgement, judged, got_of}

abbrev answer-of : Outcome Areas Answer → Answer
answer-of o = o.answer

-- a get of a record that is well formed; s is what was decided of it
module _ (key name : List ℕ) (offset : ℕ) (r : List ℕ) (tag : Option (List ℕ)) (output : List ℕ) (s : ℕ)
    (e : s ≡ first_of (keyed_tests key name offset r tag)) where
  abbrev verdict : ℕ
  verdict = first_of (keyed_tests key name offset r tag)

  pub read-refused : s ≢ ok → record { status = s; numbers = 0 ∷ []; output = output } ≡ got_of key name offset r tag output
  read-refused h =
      let k : verdict ≢ ok = λ z. h (e ∙ z) in
      λ i. record {
        status = e i;
        numbers = sym (status.on-refused verdict (read_count offset output r ∷ []) (0 ∷ []) k) i;
        output = sym (status.on-refused verdict (read_output key name offset output r) output k) i;
      }

  module _ (h : s ≡ ok) where
    pub read_in_range : offset ≤ data_size_of r
    read_in_range = leb-true offset (data_size_of r)
        (not-false-is _ (status.all-passed (keyed_tests key name offset r tag) refl (sym e ∙ h)).1.1.1.0)

    pub read_done : (n : ℕ) (out : List ℕ) → n ≡ read_count offset output r → out ≡ read_output key name offset output r
        → record { status = s; numbers = n ∷ []; output = out } ≡ got_of key name offset r tag output
    read_done n out c b =
        let k : verdict ≡ ok = sym e ∙ h in
        λ i. record {
          status = e i;
          numbers = (ap (λ (x : ℕ). x ∷ []) c ∙ sym (status.on-ok verdict (read_count offset output r ∷ []) (0 ∷ []) k)) i;
          output = (b ∙ sym (status.on-ok verdict (read_output key name offset output r) output k)) i;
        }

module _ (kv rbp key name : List ℕ) where
  abbrev first : List Test
  first = get_early kv rbp key name

  module _ (h : first_of first ≡ ok) where
    early : Accepted (areas kv rbp) ((1 when not (key_sized key)) ∷ []) ((3 when not (valid_name name)) ∷ [])
    early = accepted (areas kv rbp) ((1 when not (key_sized key)) ∷ []) ((3 when not (valid_name name)) ∷ []) refl h

    pub get-sane : Undamaged kv rbp
    get-sane = early.undamaged

    pub get_key : length key ≡ 16
    get_key = eqb-true (length key) 16 (not-false-is _ early.lengths.0)

  module _ (offset : ℕ) where
    abbrev pub get_rest : List Test
    get_rest = get_held require_replay_protection key name offset (binding_of kv rbp name)

    -- a get that is refused: n is what its tests decide
    pub not_got : (output : List ℕ) (n : ℕ) → n ≡ first_of (first ++ get_rest) → n ≢ ok
        → record { status = n; numbers = 0 ∷ []; output = output } ≡ (store_get kv rbp key name offset output).answer
    unfolding store_get
    not_got output n e h =
        ap (λ (s : ℕ). record { status = s; numbers = 0 ∷ []; output = output }) e
        ∙ sym (ap answer-of
        (run-refused store_world (areas kv rbp) (get_request require_replay_protection key name offset output) (λ k. h (e ∙ k))))

    -- refused before the name is looked up
    pub got_early : (output : List ℕ) (n : ℕ) → n ≡ first_of first → n ≢ ok
        → record { status = n; numbers = 0 ∷ []; output = output } ≡ (store_get kv rbp key name offset output).answer
    got_early output n e h = not_got output n (e ∙ sym (status.stops first get_rest (λ z. h (e ∙ z)))) h

    abbrev keyless : List Test
    keyless = keyless_tests (binding_of kv rbp name)

    abbrev keyed : List Test
    keyed = keyed_tests key name offset (record_of (lookup kv_format kv name)) (lookup rbp_format rbp name)

    -- once 1 to 3 have passed: b is what the name has
    module _ (h : first_of first ≡ ok) (b : Binding) (e : b ≡ binding_of kv rbp name) where
      decided : first_of (keyless_tests b) ≡ first_of keyless
      decided = ap (λ (x : Binding). first_of (keyless_tests x)) e

      -- refused without a key
      pub keyless_refused : (output : List ℕ) (n : ℕ) → n ≡ first_of (keyless_tests b) → n ≢ ok
          → record { status = n; numbers = 0 ∷ []; output = output } ≡ (store_get kv rbp key name offset output).answer
      unfolding get_held
      keyless_refused output n p k =
          let w = p ∙ decided in
          not_got output n (w ∙ sym (status.stops keyless keyed (λ z. k (w ∙ z))) ∙ sym (status.passes first get_rest refl h)) k

      -- a record is there, and well formed: r
      pub got_record : ok ≡ first_of (keyless_tests b) → (r : List ℕ) → b.stored ≡ some r → (k : List ℕ) → k ≡ key → (output : List ℕ)
          → got_of k name offset r b.tag output ≡ (store_get kv rbp key name offset output).answer
      unfolding store_get get_held
      got_record p r q k ek output =
          let card = lookup kv_format kv name in
          let stored_is : r ≡ record_of card = sym (ap record_of q) ∙ ap (λ (x : Binding). record_of x.stored) e in
          let left = status.passes keyless keyed refl (sym (p ∙ decided)) in
          let all : first_of keyed ≡ first_of (first ++ get_rest) = sym (status.passes first get_rest refl h ∙ left) in
          (λ i. got_of (ek i) name offset (stored_is i) (e i).tag output)
          ∙ λ i. answer_of (all i) (read_count offset output (record_of card) ∷ []) (read_output key name offset output (record_of card)) output

  module _ (j : Judgement) (e : j ≡ judged kv rbp name first (get_rest 0)) where
    pub info-refused : j.status ≢ ok → record { status = j.status; numbers = 0 ∷ 0 ∷ []; output = [] } ≡ (store_get_info kv rbp key name).answer
    unfolding store_get_info
    info-refused h =
        let z = ap (λ (x : Judgement). x.status) e in
        ap (λ (s : ℕ). record { status = s; numbers = 0 ∷ 0 ∷ []; output = [] }) z
        ∙ sym (ap answer-of (run-refused store_world (areas kv rbp) (get_info_request require_replay_protection key name) (λ k. h (z ∙ k))))

    -- r is the record that the card holds
    pub info-done : j.status ≡ ok → (r : List ℕ) → lookup kv_format kv name ≡ some r → (n f : ℕ) → n ≡ data_size_of r → f ≡ flags_of r
        → record { status = ok; numbers = n ∷ f ∷ []; output = [] } ≡ (store_get_info kv rbp key name).answer
    unfolding store_get_info
    info-done h r q n f c g =
        let w : r ≡ record_of (lookup kv_format kv name) = sym (ap record_of q) in
        let passed = sym (ap (λ (x : Judgement). x.status) e) ∙ h in
        (λ i. record { status = ok; numbers = (c ∙ ap data_size_of w) i ∷ (g ∙ ap flags_of w) i ∷ []; output = [] })
        ∙ sym (ap answer-of (run-done store_world (areas kv rbp) (get_info_request require_replay_protection key name) passed))
