-- A whole script, line by line, and a get behind a set. Assumes nothing.
use mathlib.Core.Path.{◌≡◌, refl, sym, ap, ◌∙◌}
use mathlib.Core.Logic.{⊎_elim}
use mathlib.Core.Bool.{true}
use mathlib.Core.List.{List, [], ◌∷◌, ◌++◌, append_assoc, append_cancel_right}
use Prim.Native.Nat.{ℕ, suc, ◌^◌, ◌≤◌, ◌<◌}
use native.Mathlib.Omega.{arith}
use lib.ListN.{length, drop, length-append}
use lib.Seq.{take-append_seam}
use Rattle.buffers.specs.Bytes.{zeros}
use Rattle.text.specs.Parts.{parts, tab, newline, lines}
use Rattle.text.specs.Decimal.{decimal_text, decimal_value}
use Rattle.text.proofs.Theorems.{parts as part-laws, lines as line-laws, decimal as decimal-laws}
use Rattle.spec.specs.Status.{is_listed, Answer}
use Rattle.spec.specs.Interleaving.{Outcome}
use Rattle.spec.specs.Calls.{Areas, store_set}
use Rattle.spec.proofs.Theorems.{demand1, demand2, vocabulary}
use Rattle.script_replay.specs.Script.{set_word, get_word, answer_line}
use Rattle.script_replay.specs.Replay.{step, play, replay_lines, replay}
use Rattle.script_replay.specs.Laws.{after_lines, ReplayExact, SetThenGet}
use Rattle.script_replay.proofs.Fields.{one-part}
use Rattle.script_replay.proofs.HeaderLaws.{header-exact}
use Rattle.script_replay.proofs.LineLaws.{line-exact}
use Rattle.script_replay.proofs.AnswerLaws.{answer-laws, every-line}

-- ---- line by line

next : (key : List ℕ) (s : Areas) (before : List (List ℕ)) (line : List ℕ) (rest : List (List ℕ))
    → let now = after_lines key s before in
    let o = step now.kv now.rbp key line in
    play key s (before ++ line ∷ rest) ≡ play key s before ++ (o.answer ++ play key o.after rest)
next key s [] line rest = refl
next key s (first ∷ before) line rest =
    let o = step s.kv s.rbp key first in
    rw (next key o.after before line rest) (sym (append_assoc o.answer (play key o.after before) _))

number : (key : List ℕ) (s : Areas) (ls : List (List ℕ)) → length (lines (play key s ls)) ≡ length ls
number key s [] = refl
number key s (line ∷ ls) =
    let o = step s.kv s.rbp key line in
    let a = every-line s.kv s.rbp key line in
    rw (a.answer, answer-laws.one_line a.status a.returned (play key o.after ls)) (ap suc (number key o.after ls))

pub replay-exact : ReplayExact
unfolding replay
replay-exact = record {
  empty = refl;
  bad = λ input first rest e h. rw (e, h);
  good = λ input first key slots rest e h. rw (e, header-exact.good first key slots h);
  none = λ key s. refl;
  next = next;
  number = number;
  lacking = λ input x h. ap replay_lines (line-laws.lacking input x h);
}

-- ---- a get behind a set

-- the number of a printed answer
status-told : (status : ℕ) → is_listed status ≡ true → answer_line status [] ≡ answer_line 0 [] → status ≡ 0
unfolding answer_line
status-told status l e =
    let small : status < 2 ^ 64 = ⊎_elim (λ h. omega arith) (λ h. omega arith) ((vocabulary.statuses.listed status).0 l) in
    let same = append_cancel_right (decimal_text status) (decimal_text 0) (tab ∷ newline ∷ []) e in
    sym (decimal-laws.back status small).1 ∙ ap decimal_value same ∙ (decimal-laws.back 0 (omega arith)).1

-- the get's line: its fields, and its length
module _ (line : List ℕ) {name : List ℕ} {rest : List (List ℕ)} (e : parts tab line ≡ set_word ∷ name ∷ rest) where
  get-fields : parts tab (get_word ++ tab ∷ name) ≡ get_word ∷ name ∷ []
  get-fields = rw (one-part tab name (rw e at ((part-laws tab).free line 1)))

  get-fits : length line ≤ 1100 → length (get_word ++ tab ∷ name) ≤ 1100
  get-fits l = omega (arith, simp length-append at (ap length (rw e at ((part-laws tab).joined line))))

pub set-then-get : SetThenGet
set-then-get kv rbp key line name flags iv value l h e =
    let o = store_set kv rbp key name flags iv value in
    let p = (line-exact kv rbp key line).of_set name flags iv value l h in
    let done : o.answer.status ≡ 0 = status-told o.answer.status (demand1.of_set kv rbp key name flags iv value).listed (rw p at e) in
    let size = ((demand2.set_exact kv rbp key name flags iv value).condition.0 done).value_sized in
    let got = ap (λ (g : Outcome Areas Answer). g.answer) (demand2.round_trip kv rbp key name flags iv value (zeros 480) done size) in
    rw p ((line-exact o.after.kv o.after.rbp key (get_word ++ tab ∷ name)).of_get name (get-fits line h.fields l) (get-fields line h.fields)
    ∙ rw (got, take-append_seam value (drop (length value) (zeros 480))))
