-- Every statement of `specs/Laws`, with its proof.
use mathlib.Core.Path.{refl}
use mathlib.Core.List.{List}
use Prim.Native.Nat.{ℕ}
use Rattle.script_replay.specs.Laws.{HeaderExact, Words, LineExact, AnswerLaws, EveryLine, ReplayExact, SetThenGet, Example, StreamLaws}
use Rattle.script_replay.proofs.HeaderLaws.{header-exact}
use Rattle.script_replay.proofs.LineLaws.{line-exact}
use Rattle.script_replay.proofs.AnswerLaws.{answer-laws, every-line}
use Rattle.script_replay.proofs.ReplayLaws.{replay-exact, set-then-get}
use Rattle.script_replay.proofs.Example.{example}
use Rattle.script_replay.proofs.StreamLaws.{stream-laws}

pub first-lines : HeaderExact
first-lines = header-exact

pub words : Words
words = record { of_set = refl; of_get = refl; of_remove = refl }

pub later-lines : (kv rbp key line : List ℕ) → LineExact kv rbp key line
later-lines = line-exact

pub answers : AnswerLaws
answers = answer-laws

pub demand1 : EveryLine
demand1 = every-line

pub scripts : ReplayExact
scripts = replay-exact

pub set-is-got : SetThenGet
set-is-got = set-then-get

pub example-printed : Example
example-printed = example

pub reads : StreamLaws
reads = stream-laws
