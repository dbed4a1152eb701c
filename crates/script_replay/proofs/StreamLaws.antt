-- Reads, of whatever size, and lines of which only the front is held. Assumes nothing.
use mathlib.Core.Path.{◌≡◌, refl, sym, ap, ◌∙◌}
use mathlib.Core.Bool.{false, cond}
use mathlib.Core.List.{List, [], ◌∷◌, ◌++◌, map, append-nil, append_assoc}
use Prim.Native.Nat.{ℕ, zero, suc, ◌≤◌}
use native.Mathlib.Omega.{arith}
use borrow.Author.Tests.{leb-true, leb-false, lt-leb, eqb-true, ne_eqb}
use lib.Dec.{eqb}
use lib.ListN.{length, take, drop, length-take}
use lib.Seq.{take_all, take-nil}
use Rattle.text.specs.Parts.{newline, lines}
use Rattle.spec.specs.Calls.{Areas}
use Rattle.buffers.proofs.Split.{split, neither}
use Rattle.script_replay.specs.Script.{fits, header, err_syntax, answer_line}
use Rattle.script_replay.specs.declared.header.ScriptHeader.{ScriptHeader}
use Rattle.std.specs.Prelude.{Option, Some, None}
use Rattle.std.specs.Option.{option_map_or}
use Rattle.script_replay.specs.Replay.{unreadable, step, empty_areas, play, replay_lines, replay}
use Rattle.script_replay.specs.Stream.{until_newline, ends_line, taken, held, held_lines}
use Rattle.script_replay.specs.Laws.{StreamLaws}
use Rattle.script_replay.proofs.Gathering.{taken-within}
use Rattle.script_replay.proofs.HeaderLaws.{too_long as header-long}
use Rattle.script_replay.proofs.LineLaws.{too_long as step-long}
use Rattle.script_replay.proofs.AnswerLaws.{ends-append, first-line}

-- what is cut off does not come back
cut_again : (room : ℕ) (s t : List ℕ) → take room (take room s ++ t) ≡ take room (s ++ t)
cut_again zero s t = refl
cut_again (suc room) [] t = refl
cut_again (suc room) (x ∷ s) t = ap (λ (l : List ℕ). x ∷ l) (cut_again room s t)

taken-suc : (b : ℕ) (s : List ℕ) → eqb b newline ≡ false → taken (b ∷ s) ≡ suc (taken s)
taken-suc b s e = split (ends_line s) (λ n. rw (e, n)) (λ n. rw (e, n))

-- the end of a text that no newline ends
last_line : (x : ℕ) (s : List ℕ) → ends_line (x ∷ s) ≡ false → lines (x ∷ s) ≡ (x ∷ s) ∷ []
last_line x [] e = rw (neither (eqb x newline) false e).0
last_line x (y ∷ s) e = let n = neither (eqb x newline) (ends_line (y ∷ s)) e in rw (n.0, last_line y s n.1)

module _ (room : ℕ) where
  -- ---- one read more

  held_whole : (line : List ℕ) → length line ≤ room → take room (line ++ []) ≡ line
  held_whole line h = rw (append-nil line) (take_all room line h)

  held_next : (line : List ℕ) (b : ℕ) (s : List ℕ) → take room (take room (line ++ b ∷ []) ++ s) ≡ take room (line ++ b ∷ s)
  held_next line b s = cut_again room (line ++ b ∷ []) s ∙ rw append_assoc

  next : (line part more : List ℕ) → length line ≤ room
      → held_lines room line (part ++ more)
      ≡ cond (ends_line part) (held room line part ∷ held_lines room [] (drop (taken part) part ++ more)) (held_lines room (held room line part) (drop (taken part) part ++ more))
  next line [] more h = rw (held_whole line h)
  next line (b ∷ s) more h = split (eqb b newline)
      (λ e. rw (e, held_whole line h))
      (λ e. rw (taken-suc b s e, e, next (take room (line ++ b ∷ [])) s more (rw length-take (omega arith)), held_next line b (until_newline s)))

  -- ---- all reads

  behind-end : (line : List ℕ) → 1 ≤ room → ends_line line ≡ false → held_lines room (take room line) [] ≡ map (take room) (lines line)
  behind-end [] h e = rw (take-nil room)
  behind-end (x ∷ s) h e =
      let some : length (take room (x ∷ s)) ≡ 0 → ⊥ = λ z. omega (arith, length-take room (x ∷ s)) in
      rw (ne_eqb (length (take room (x ∷ s))) 0 some, last_line x s e)

  -- behind a line's first bytes, of which some are held
  behind : (line input : List ℕ) → 1 ≤ room → ends_line line ≡ false → held_lines room (take room line) input ≡ map (take room) (lines (line ++ input))
  behind line [] h e = rw (append-nil line) (behind-end line h e)
  behind line (b ∷ s) h e = split (eqb b newline)
      (λ n.
      let p = eqb-true b newline n in
      rw (p, first-line line s e) (ap (λ (ls : List (List ℕ)). take room line ∷ ls) (rw (take-nil room) at (behind [] s h refl))))
      (λ n.
      let inline : ends_line (line ++ b ∷ []) ≡ false = ends-append line (b ∷ []) ∙ rw (e, n) in
      rw (n, cut_again room line (b ∷ [])) (behind (line ++ b ∷ []) s h inline ∙ rw append_assoc))

-- ---- what is cut off of a line changes nothing

-- of a function that is the same at all lines that are too long
same-cut : {A : Type 0} (f : List ℕ → A) (bad : A) → ((line : List ℕ) → fits line ≡ false → f line ≡ bad) → (line : List ℕ) → f (take 1101 line) ≡ f line
same-cut f bad long line = split (fits line)
    (λ e. ap f (take_all 1101 line (omega (arith, leb-true (length line) 1100 e))))
    (λ e.
    let over = lt-leb (length (take 1101 line)) 1100 (omega (arith, length-take 1101 line, leb-false (length line) 1100 e)) in
    long (take 1101 line) over ∙ sym (long line e))

play-cut : (key : List ℕ) (s : Areas) (ls : List (List ℕ)) → play key s (map (take 1101) ls) ≡ play key s ls
play-cut key s [] = refl
play-cut key s (line ∷ ls) =
    rw (
      same-cut (step s.kv s.rbp key) (unreadable s.kv s.rbp) (step-long s.kv s.rbp key) line,
      play-cut key (step s.kv s.rbp key line).after ls,
    )

played-cut : (h : Option ScriptHeader) (rest : List (List ℕ))
    → option_map_or (λ k. play k.key (empty_areas k.slots) (map (take 1101) rest)) h (answer_line err_syntax [])
    ≡ option_map_or (λ k. play k.key (empty_areas k.slots) rest) h (answer_line err_syntax [])
played-cut None rest = refl
played-cut (Some h) rest = play-cut h.key (empty_areas h.slots) rest

enough : (ls : List (List ℕ)) → replay_lines (map (take 1101) ls) ≡ replay_lines ls
enough [] = refl
enough (first ∷ rest) =
    rw (same-cut header None header-long first) (played-cut (header first) rest)

pub stream-laws : StreamLaws
unfolding replay
stream-laws = record {
  next = next;
  within = taken-within;
  progress = λ b s. split (eqb b newline) (λ e. rw e (omega arith)) (λ e. rw (taken-suc b s e) (omega arith));
  all = λ room input h. rw (take-nil room) at (behind room [] input h refl);
  enough = λ input. enough (lines input);
}
