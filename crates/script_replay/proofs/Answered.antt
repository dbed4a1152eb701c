-- The answer to a line, as the code puts it together. Assumes nothing.
use mathlib.Core.Path.{◌≡◌, refl, sym, ap, ◌∙◌}
use mathlib.Core.List.{List, [], ◌∷◌, ◌++◌, append_assoc}
use Prim.Native.Nat.{ℕ, ◌+◌, ◌-◌, ◌≤◌}
use native.Mathlib.Omega.{arith}
use lib.ListN.{length, get_or, take, drop, length-append}
use Rattle.buffers.specs.Bytes.{zeros, put_at}
use Rattle.buffers.proofs.Lists.{front, in_front, behind}
use Rattle.buffers.proofs.Split.{split}
use Rattle.text.specs.Parts.{tab, newline}
use Rattle.text.specs.Hex.{hex_text}
use Rattle.text.specs.Decimal.{decimal_text}
use Rattle.spec.specs.Status.{is_ok, on_ok, Answer, bytes_given}
use Rattle.spec.specs.Interleaving.{Outcome}
use Rattle.spec.specs.Calls.{Areas, areas, store_get}
use Rattle.spec.proofs.Whole.{count-within}
use Rattle.script_replay.specs.Script.{field, answer_line, at_front}
use Rattle.script_replay.specs.Replay.{Played, answered, answer_size, shown, left, get_line}
use Rattle.std.specs.Prelude.{Option, Some, None, Result, Ok, Err}
use Rattle.std.specs.Result.{result_unwrap_or}
use Rattle.store.specs.Answers.{count_of}
use Rattle.store.specs.declared.status.Refusal.{Refusal}
use Rattle.std.specs.Option.{option_map}

-- four pieces, one behind the other
module _ (status : ℕ) (d : List ℕ) where
  abbrev number : List ℕ
  number = decimal_text status

  abbrev pairs : List ℕ
  pairs = hex_text d

  four-pieces : ((number ++ tab ∷ []) ++ pairs) ++ newline ∷ [] ≡ answer_line status d
  unfolding answer_line
  four-pieces = append_assoc (number ++ tab ∷ []) pairs (newline ∷ []) ∙ append_assoc number (tab ∷ []) (pairs ++ newline ∷ [])

  pub answer-length : length (answer_line status d) ≡ length number + length pairs + 2
  answer-length = omega (
    arith,
    ap (λ (l : List ℕ). length l) four-pieces,
    length-append ((number ++ tab ∷ []) ++ pairs) (newline ∷ []),
    length-append (number ++ tab ∷ []) pairs,
    length-append number (tab ∷ []),
  )

  pub put-together : (out₀ out₁ out₂ out₃ out₄ a b : List ℕ) (k n : ℕ) → k ≡ length number → n ≡ length pairs → a ≡ number → b ≡ pairs
      → out₁ ≡ put_at out₀ 0 a → out₂ ≡ put_at out₁ k (tab ∷ []) → out₃ ≡ put_at out₂ (k + 1) b → out₄ ≡ put_at out₃ (k + 1 + n) (newline ∷ [])
      → (k + n + 2 ≡ length (answer_line status d)) × (out₄ ≡ at_front (answer_line status d) out₀)
  put-together out₀ out₁ out₂ out₃ out₄ a b k n ek en ea eb p₁ p₂ p₃ p₄ =
      let one = in_front a number out₀ out₁ p₁ ea ∙ ap (λ (j : ℕ). number ++ drop j out₀) (sym ek) in
      let two = behind out₀ number (tab ∷ []) out₁ out₂ k one p₂ (sym ek) in
      let l₂ : length (number ++ tab ∷ []) ≡ k + 1 = length-append number (tab ∷ []) ∙ omega (arith, ek) in
      let three = behind out₀ (number ++ tab ∷ []) pairs out₂ out₃ (k + 1) two (p₃ ∙ ap (put_at out₂ (k + 1)) eb) l₂
      ∙ ap (λ (j : ℕ). ((number ++ tab ∷ []) ++ pairs) ++ drop (k + 1 + j) out₀) (sym en) in
      let l₃ : length ((number ++ tab ∷ []) ++ pairs) ≡ k + 1 + n = length-append (number ++ tab ∷ []) pairs ∙ omega (arith, l₂, en) in
      let four = behind out₀ ((number ++ tab ∷ []) ++ pairs) (newline ∷ []) out₃ out₄ (k + 1 + n) three p₄ l₃ in
      let all : k + 1 + n + 1 ≡ length (answer_line status d) = omega (arith, answer-length, ek, en) in
      (omega (arith, all), four ∙ rw (four-pieces, all))

-- what was written, where it is what a definition gives
pub written : (t u out last : List ℕ) (r : ℕ) → u ≡ t → r ≡ length u → last ≡ at_front u out → (r ≡ length t) × (last ≡ at_front t out)
written t u out last r e p q = rw (sym e) (p, q)

-- a call that returns nothing but its number
module _ (o : Outcome Areas Answer) (status told : ℕ) (kv rbp : List ℕ) (t : told ≡ status)
    (e : record { answer = record { status = status; numbers = []; output = [] }; after = areas kv rbp } ≡ o) where
  pub call-written : (out last : List ℕ) (r : ℕ) → r ≡ length (answer_line told []) → last ≡ at_front (answer_line told []) out
      → (r ≡ length (answered o).answer) × ((last ≡ at_front (answered o).answer out) × (areas kv rbp ≡ (answered o).after))
  call-written out last r p q =
      rw (sym e) (p ∙ ap (λ (n : ℕ). length (answer_line n [])) t, (q ∙ ap (λ (n : ℕ). at_front (answer_line n []) out) t, refl))

-- what a get counted
pub count-told : (r : Result ℕ Refusal) → result_unwrap_or r 0 ≡ count_of r
count-told (Ok n) = refl
count-told (Err e) = refl

-- a line that may be no call: carried out, or not
module _ (o : Option Played) (kv rbp out : List ℕ) where
  pub line-done : (p : Played) (s : Areas) (last : List ℕ) (r : ℕ) → o ≡ Some p
      → (r ≡ length p.answer) × ((last ≡ at_front p.answer out) × (s ≡ p.after))
      → (Some r ≡ option_map answer_size o) × ((last ≡ shown o out) × (s ≡ left kv rbp o))
  line-done p s last r e (x, (y, z)) = rw e (ap Some x, (y, z))

  pub line-not-done : o ≡ None → (None ≡ option_map answer_size o) × ((out ≡ shown o out) × (areas kv rbp ≡ left kv rbp o))
  line-not-done e = rw e (refl, (refl, refl))

-- ---- a get

module _ (kv rbp key name : List ℕ) where
  pub get_after : (offset : ℕ) (output : List ℕ) → (store_get kv rbp key name offset output).after ≡ areas kv rbp
  unfolding store_get on_ok
  get_after offset output = split (is_ok (store_get kv rbp key name offset output).answer.status) (λ e. rw e refl) (λ e. rw e refl)

  module _ (g : Answer) (e : g ≡ (store_get kv rbp key name 0 (zeros 480)).answer) where
    pub count_fits : get_or g.numbers 0 0 ≤ 480
    count_fits = omega (arith, ap (λ (a : Answer). get_or a.numbers 0 0) e, count-within kv rbp key name 0 (zeros 480))

    -- the bytes that the count tells, as the code has them
    pub get-answer : (line : List ℕ) (told count : ℕ) → told ≡ g.status → count ≡ get_or g.numbers 0 0 → name ≡ field line 1
        → answer_line told (take (count - 0) g.output) ≡ (get_line kv rbp key line).answer
    unfolding get_line
    get-answer line told count t k n =
        ap (λ (s : ℕ). answer_line s (take (count - 0) g.output)) t
        ∙ ap (λ (m : ℕ). answer_line g.status (take (m - 0) g.output)) k
        ∙ ap (answer_line g.status) (front (get_or g.numbers 0 0) g.output)
        ∙ ap (λ (a : Answer). answer_line a.status (bytes_given a)) (e ∙ ap (λ (m : List ℕ). (store_get kv rbp key m 0 (zeros 480)).answer) n)

pub get-line-after : (kv rbp key line : List ℕ) → areas kv rbp ≡ (get_line kv rbp key line).after
unfolding get_line
get-line-after kv rbp key line = sym (get_after kv rbp key (field line 1) 0 (zeros 480))
