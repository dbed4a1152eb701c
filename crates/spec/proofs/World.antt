-- A request in a world: what it is where it is done and where it is refused. In the store's world: an accepted request has passed all tests, and
-- one that passes them all is accepted.
use mathlib.Core.Path.{◌≡◌, ◌∙◌}
use mathlib.Core.Logic.{◌≢◌}
use mathlib.Core.Bool.{true}
use mathlib.Core.List.{List, ◌++◌, map}
use Prim.Native.Nat.{ℕ}
use lib.ListN.{length}
use Rattle.buffers.specs.Bytes.{every, zeros}
use Rattle.spec.specs.Status.{ok, Test, first_of}
use Rattle.spec.specs.Area.{kv_format, rbp_format}
use Rattle.spec.specs.Request.{Request, World, found, status_of, run}
use Rattle.spec.specs.Calls.{Areas, area_lengths, area_damage}
use Rattle.spec.specs.Demand2.{Undamaged}
use Rattle.buffers.proofs.Split.{not-false-is}
use Rattle.spec.proofs.Area.{Sound}
use Rattle.spec.proofs.Status.{number, Passed, nonzero, all-passed, passed-all, past, under, passed-split, on-ok, on-refused}

module _ {State : Type 0} (W : World State) (s : State) (q : Request) where
  pub run-done : status_of W s q ≡ ok → run W s q ≡ record {
    answer = record { status = ok; numbers = q.numbers (found W s q); output = q.output (found W s q) };
    after = W.edit s q.name (q.effect (found W s q));
  }
  run-done h = λ i. record {
    answer = record {
      status = h i;
      numbers = on-ok (status_of W s q) (q.numbers (found W s q)) (zeros (length (q.numbers (found W s q)))) h i;
      output = on-ok (status_of W s q) (q.output (found W s q)) q.lent h i;
    };
    after = on-ok (status_of W s q) (W.edit s q.name (q.effect (found W s q))) s h i;
  }

  pub run-refused : status_of W s q ≢ ok → run W s q ≡ record {
    answer = record { status = status_of W s q; numbers = zeros (length (q.numbers (found W s q))); output = q.lent };
    after = s;
  }
  run-refused h = λ i. record {
    answer = record {
      status = status_of W s q;
      numbers = on-refused (status_of W s q) (q.numbers (found W s q)) (zeros (length (q.numbers (found W s q)))) h i;
      output = on-refused (status_of W s q) (q.output (found W s q)) q.lent h i;
    };
    after = on-refused (status_of W s q) (W.edit s q.name (q.effect (found W s q))) s h i;
  }

  pub after-done : status_of W s q ≡ ok → (run W s q).after ≡ W.edit s q.name (q.effect (found W s q))
  after-done h = on-ok (status_of W s q) _ s h

  pub after-refused : status_of W s q ≢ ok → (run W s q).after ≡ s
  after-refused h = on-refused (status_of W s q) _ s h

-- both areas are undamaged, or each is
module _ {kv rbp : List ℕ} where
  pub kv-sound-of : Undamaged kv rbp → Sound kv_format kv
  kv-sound-of u = record { size = u.kv_sized; good = u.kv_intact }

  pub rbp-sound-of : Undamaged kv rbp → Sound rbp_format rbp
  rbp-sound-of u = record { size = u.rbp_sized; good = u.rbp_intact }

  pub both-sound : Sound kv_format kv → Sound rbp_format rbp → Undamaged kv rbp
  both-sound a b = record { kv_sized = a.size; rbp_sized = b.size; kv_intact = a.good; rbp_intact = b.good }

module _ (s : Areas) where
  abbrev pub Sane : Type 0
  Sane = Undamaged s.kv s.rbp

  pub lengths-passed : Sane → Passed (area_lengths s)
  lengths-passed u = (rw u.kv_sized, (rw u.rbp_sized, tt))

  pub damage-passed : Sane → Passed (area_damage s)
  damage-passed u = (rw u.kv_intact, (rw u.rbp_intact, tt))

  pub sane-of : Passed (area_lengths s) → Passed (area_damage s) → Sane
  sane-of l d = record {
    kv_sized = not-false-is _ l.0;
    rbp_sized = not-false-is _ l.1.0;
    kv_intact = not-false-is _ d.0;
    rbp_intact = not-false-is _ d.1.0;
  }

  -- the call's own tests: of its lengths, and those from 3 on
  module _ (early tests : List Test) where
    abbrev pub order : List Test
    order = area_lengths s ++ (early ++ (area_damage s ++ tests))

    pub record Accepted : Type 0 where
      pub undamaged : Sane
      pub lengths : Passed early
      pub rest : Passed tests

    pub accepted : every nonzero (map number order) ≡ true → first_of order ≡ ok → Accepted
    accepted z h =
        let p = all-passed order z h in
        let a = passed-split (area_lengths s) (early ++ (area_damage s ++ tests)) p in
        let b = passed-split early (area_damage s ++ tests) a.1 in
        let c = passed-split (area_damage s) tests b.1 in
        record { undamaged = sane-of a.0 c.0; lengths = b.0; rest = c.1 }

    -- in areas without damage only the call's own tests are left
    pub own-tests : Sane → first_of order ≡ first_of (early ++ tests)
    own-tests u =
        past (area_lengths s) (early ++ (area_damage s ++ tests)) (lengths-passed u)
        ∙ under early (area_damage s ++ tests) tests (past (area_damage s) tests (damage-passed u))

    pub acceptable : Accepted → first_of order ≡ ok
    acceptable a = own-tests a.undamaged ∙ past early tests a.lengths ∙ passed-all tests a.rest
