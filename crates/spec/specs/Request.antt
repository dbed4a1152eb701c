-- A call on one name, apart from what keeps the names.
--   Binding, Room, Effect   what the name has; whether there is room for more; what a call does to what the name has
--   Request                 a call: its own tests, and what it does and gives where none of them says so
--   World                   what keeps the names: the tests that it makes itself, what a name has, room, and edits
--   status_of, run          a request in a world
use Rattle.std.specs.Prelude.{Bool, List, ◌++◌, ℕ}
use Rattle.std.proofs.Math.Option.{Option}
use Rattle.spec.specs.Status.{Test, first_of, on_ok, Answer, answer_of}
use Rattle.spec.specs.Name.{Name}
use Rattle.spec.specs.Area.{Edit}
use Rattle.spec.specs.Interleaving.{Outcome}

-- 01: a name's "contents": the record on the card or none, the CMAC in the chip or none
pub record Binding : Type 0 where
  pub stored : Option (List ℕ)
  pub tag : Option (List ℕ)

-- a free place, a free entry
pub record Room : Type 0 where
  pub kv : Bool
  pub rbp : Bool

pub record Effect : Type 0 where
  pub kv : Edit
  pub rbp : Edit

pub record Request : Type 0 where
  pub name : Name
  -- the tests of its own lengths, and those from 3 on
  pub early : List Test
  pub tests : Binding → Room → List Test
  pub effect : Binding → Effect
  -- every number that it gives besides its status, and the bytes that it leaves in its output, which is lent as `lent`
  pub numbers : Binding → List ℕ
  pub output : Binding → List ℕ
  pub lent : List ℕ
  -- whether it may put in a record, and a CMAC
  pub puts : Room

pub record World (State : Type 0) : Type 0 where
  -- 1 for its own lengths, then, after those of the call, 2 for damage
  pub lengths : State → List Test
  pub damage : State → List Test
  pub binding : State → Name → Binding
  pub room : State → Room
  pub edit : State → Name → Effect → State

module _ {State : Type 0} (W : World State) (s : State) (q : Request) where
  abbrev pub found : Binding
  found = W.binding s q.name

  -- "Where no order is given, 1 comes first, for each lent buffer whose length is fixed"; then 2; then the call's own order
  abbrev pub status_of : ℕ
  status_of = first_of (W.lengths s ++ (q.early ++ (W.damage s ++ q.tests found (W.room s))))

  -- "A refusal leaves the book as it was", as it does card and chip.
  abbrev pub run : Outcome State Answer
  run = record { answer = answer_of status_of (q.numbers found) (q.output found) q.lent; after = on_ok status_of (W.edit s q.name (q.effect found)) s }
