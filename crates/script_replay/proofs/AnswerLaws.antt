-- Answers: each is one line, and demand 1 holds of it. Assumes nothing.
use mathlib.Core.Path.{◌≡◌, refl, ap, ◌∙◌}
use mathlib.Core.Logic.{inl, inr}
use mathlib.Core.Bool.{false, ◌||◌}
use mathlib.Core.List.{List, [], ◌∷◌, ◌++◌, append_assoc}
use Prim.Native.Nat.{ℕ, zero, suc, ◌+◌, ◌/◌, ◌%◌, ◌≤◌}
use native.Mathlib.Omega.{arith}
use borrow.Author.Tests.{ne_eqb}
use lib.Dec.{eqb, ltb}
use lib.ListN.{length, get_or, length-take}
use lib.Seq.{drop_at}
use Rattle.buffers.specs.Bytes.{zeros}
use Rattle.text.specs.Parts.{tab, newline, lines}
use Rattle.text.specs.Hex.{hex_digit, hex_text}
use Rattle.text.specs.Decimal.{digits, decimal_text, places}
use Rattle.spec.specs.Status.{Answer, bytes_given}
use Rattle.spec.specs.Interleaving.{Outcome}
use Rattle.spec.specs.Calls.{Areas, areas}
use Rattle.spec.specs.Demand1.{Well}
use Rattle.buffers.proofs.Split.{split, neither}
use Rattle.spec.proofs.Whole.{count-within}
use Rattle.spec.proofs.Demand1.{demand1-holds}
use Rattle.script_replay.specs.Script.{answer_line}
use Rattle.script_replay.specs.Replay.{answered}
use Rattle.script_replay.specs.Stream.{ends_line}
use Rattle.script_replay.specs.Laws.{AnswerLaws, Answers, EveryLine}
use Rattle.script_replay.proofs.LineLaws.{set-count, remove-count, by-line}

-- ---- texts without a newline

pub ends-append : (s t : List ℕ) → ends_line (s ++ t) ≡ (ends_line s || ends_line t)
ends-append [] t = refl
ends-append (x ∷ s) t = split (eqb x newline) (λ e. rw e) (λ e. rw e (ends-append s t))

-- up to the first newline is the first line
pub first-line : (s more : List ℕ) → ends_line s ≡ false → lines (s ++ newline ∷ more) ≡ s ∷ lines more
first-line [] more e = refl
first-line (x ∷ s) more e = let n = neither (eqb x newline) (ends_line s) e in rw (n.0, first-line s more n.1)

digits_inline : (k n : ℕ) → ends_line (digits k n) ≡ false
digits_inline zero n = refl
digits_inline (suc k) n =
    ends-append (digits k (n / 10)) ((0x30 + n % 10) ∷ []) ∙ rw (digits_inline k (n / 10), ne_eqb (0x30 + n % 10) newline (λ e. omega arith))

digit_inline : (d : ℕ) → eqb (hex_digit d) newline ≡ false
digit_inline d = split (ltb d 10)
    (λ e. rw (e, ne_eqb (0x30 + d) newline (λ h. omega arith)))
    (λ e. rw (e, ne_eqb (0x57 + d) newline (λ h. omega arith)))

hex_inline : (s : List ℕ) → ends_line (hex_text s) ≡ false
hex_inline [] = refl
hex_inline (b ∷ s) = rw (digit_inline (b / 16), digit_inline (b % 16)) (hex_inline s)

one_line : (status : ℕ) (returned more : List ℕ)
    → lines (answer_line status returned ++ more) ≡ (decimal_text status ++ (tab ∷ hex_text returned)) ∷ lines more
unfolding answer_line decimal_text
one_line status returned more =
    let number = decimal_text status in
    let text = number ++ (tab ∷ hex_text returned) in
    let whole : (number ++ (tab ∷ (hex_text returned ++ newline ∷ []))) ++ more ≡ text ++ newline ∷ more = simp append_assoc in
    let inline : ends_line text ≡ false =
    ends-append number (tab ∷ hex_text returned) ∙ rw (digits_inline (places status) status, hex_inline returned) in
    ap lines whole ∙ first-line text more inline

pub answer-laws : AnswerLaws
unfolding answer_line
answer-laws = record {
  bytes = λ status returned. refl;
  front = λ bytes out behind h. ap (λ (l : List ℕ). bytes ++ l) (drop_at out behind (length bytes) h);
  one_line = one_line;
}

-- ---- demand 1

first-zero : (n : ℕ) → get_or (zeros n) 0 0 ≡ 0
first-zero zero = refl
first-zero (suc n) = refl

well-answers : {kv rbp : List ℕ} {n : ℕ} {lent : List ℕ} {o : Outcome Areas Answer} → Well n lent (areas kv rbp) o
    → get_or o.answer.numbers 0 0 ≤ 480 → Answers kv rbp (answered o)
well-answers {n = n} {o = o} w h = record {
  status = o.answer.status;
  returned = bytes_given o.answer;
  answer = refl;
  listed = inr w.listed;
  at_most = rw length-take (omega arith);
  refused = λ r. (rw (w.numbers r, first-zero n), w.after r);
}

pub every-line : EveryLine
every-line kv rbp key line = by-line kv rbp key line (Answers kv rbp)
    (λ name flags iv value l s. well-answers (demand1-holds.of_set kv rbp key name flags iv value)
    (omega (arith, set-count kv rbp key name flags iv value)))
    (λ name l e. well-answers (demand1-holds.of_get kv rbp key name 0 (zeros 480)) (count-within kv rbp key name 0 (zeros 480)))
    (λ name l e. well-answers (demand1-holds.of_remove kv rbp name) (omega (arith, remove-count kv rbp name)))
    (record { status = 15; returned = []; answer = refl; listed = inl refl; at_most = omega arith; refused = λ r. (refl, refl) })
