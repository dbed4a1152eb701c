-- Two clients' calls in one order, and what a run of them gives.
--   Side, Tagged, lefts, rights   a call with its client; each client's part of a list
--   Interleaving                  a merge of two lists
--   Outcome, answers, final       one step's answer and state; those of a list of calls
--   shared_step                   the step of a merge
use Rattle.std.specs.Prelude.{◌≡◌, Bool, true, false, cond, List, [], ◌∷◌}

pub data Side : Type 0 where
  left right : Side

abbrev pub is_side : Side → Side → Bool
is_side left left = true
is_side left right = false
is_side right left = false
is_side right right = true

-- a call, or an answer, with the client that it belongs to
pub data Tagged (A : Type 0) : Type 0 where
  by : Side → A → Tagged A

module _ {A : Type 0} where
  -- the part of a list that belongs to the clients of a test
  abbrev pub part : (Side → Bool) → List (Tagged A) → List A
  part mine [] = []
  part mine (by d a ∷ l) = cond (mine d) (a ∷ part mine l) (part mine l)

  abbrev pub lefts : List (Tagged A) → List A
  lefts l = part (is_side left) l

  abbrev pub rights : List (Tagged A) → List A
  rights l = part (is_side right) l

-- l is the two lists merged, each in its own order; every such merge is a tagged list
pub record Interleaving {A : Type 0} (ls rs : List A) (l : List (Tagged A)) : Type 0 where
  pub left : lefts l ≡ ls
  pub right : rights l ≡ rs

-- what one step gives: an answer, and the state after it
pub record Outcome (State Answer : Type 0) : Type 0 where
  pub answer : Answer
  pub after : State

module _ {State Call Answer : Type 0} (step : State → Call → Outcome State Answer) where
  abbrev pub answers : State → List Call → List Answer
  answers s [] = []
  answers s (c ∷ cs) = (step s c).answer ∷ answers (step s c).after cs

  abbrev pub final : State → List Call → State
  final s [] = s
  final s (c ∷ cs) = final (step s c).after cs

  -- the step of an interleaving: the answer goes to the client that called
  abbrev pub shared_step : State → Tagged Call → Outcome State (Tagged Answer)
  shared_step s (by d c) = record { answer = by d (step s c).answer; after = (step s c).after }
