-- Clients do not meet: proved once, for any shared state, any state of one's own, and any invariant.
use mathlib.Core.Path.{◌≡◌, refl, sym}
use mathlib.Core.Bool.{Bool, true, false}
use mathlib.Core.List.{List, [], ◌∷◌, Memᴰ}
use Rattle.spec.specs.Interleaving.{Side, left, right, is_side, Tagged, by, part, Outcome, answers, final, shared_step}
use Rattle.buffers.proofs.Split.{split}

-- What is asked of one call, for the clients of the test `mine` to see only their own. `step` is a call on the shared state, `own` a call of theirs on
-- a state that is theirs alone. Agree s m: of what is theirs, s has what m has. Ok is kept by every call that is Allowed.
pub record Separate {State Own Call Answer : Type 0} (step : State → Call → Outcome State Answer) (own : Own → Call → Outcome Own Answer)
    (mine : Side → Bool) (Ok : State → Type 0) (Allowed : Side → Call → Type 0) (Agree : State → Own → Type 0) : Type 0 where
  pub keeps : (d : Side) (s : State) (c : Call) → Allowed d c → Ok s → Ok (step s c).after
  pub answered : (d : Side) (s : State) (m : Own) (c : Call) → Allowed d c → mine d ≡ true → Ok s → Agree s m → (step s c).answer ≡ (own m c).answer
  pub follows : (d : Side) (s : State) (m : Own) (c : Call) → Allowed d c → mine d ≡ true → Ok s → Agree s m → Agree (step s c).after (own m c).after
  pub ignores : (d : Side) (s : State) (m : Own) (c : Call) → Allowed d c → mine d ≡ false → Ok s → Agree s m → Agree (step s c).after m

module _ {Call : Type 0} where
  -- P holds of each call of an interleaving and its client
  abbrev pub Each : (Side → Call → Type 0) → List (Tagged Call) → Type 0
  Each P [] = Unit {0}
  Each P (by d c ∷ l) = P d c × Each P l

  pub each_in : (P : Side → Call → Type 0) (l : List (Tagged Call)) → ((d : Side) (c : Call) → Memᴰ (by d c) l → P d c) → Each P l
  each_in P [] h = tt
  each_in P (by d c ∷ l) h = (h d c (Memᴰ.head refl), each_in P l (λ e b m. h e b (Memᴰ.tail m)))

  -- a call of a client is in that client's part
  pub part_in : (mine : Side → Bool) (d : Side) (c : Call) (l : List (Tagged Call)) → Memᴰ (by d c) l → mine d ≡ true → Memᴰ c (part mine l)
  part_in mine d c [] m h = elim m [ ]
  part_in mine d c (by e b ∷ l) (Memᴰ.head p) h =
      let q : mine e ≡ true = cc in
      let r : c ≡ b = cc in
      rw q (Memᴰ.head r)
  part_in mine d c (by e b ∷ l) (Memᴰ.tail m) h = split (mine e) (λ p. rw p (Memᴰ.tail (part_in mine d c l m h))) (λ p. rw p (part_in mine d c l m h))

  pub part_none : (l : List (Tagged Call)) → part (λ d. false) l ≡ []
  part_none [] = refl
  part_none (by d c ∷ l) = part_none l

pub side-other : (d : Side) → is_side left d ≡ false → is_side right d ≡ true
side-other left h = sym h
side-other right h = refl

module _ {State Own Call Answer : Type 0} (step : State → Call → Outcome State Answer) (own : Own → Call → Outcome Own Answer)
    (mine : Side → Bool) (Ok : State → Type 0) (Allowed : Side → Call → Type 0) (Agree : State → Own → Type 0)
    (laws : Separate step own mine Ok Allowed Agree) where
  -- What is answered to them in an interleaving, and what is theirs at its end, are those of their calls alone on their own state.
  pub alone : (s : State) (m : Own) (l : List (Tagged Call)) → Each Allowed l → Ok s → Agree s m
      → (part mine (answers (shared_step step) s l) ≡ answers own m (part mine l))
      × Agree (final (shared_step step) s l) (final own m (part mine l))
      × Ok (final (shared_step step) s l)
  alone s m [] a o g = (refl, g, o)
  alone s m (by d c ∷ l) a o g =
      let o' = laws.keeps d s c a.0 o in
      split (mine d)
      (λ e. let ih = alone (step s c).after (own m c).after l a.1 o' (laws.follows d s m c a.0 e o g) in
      (rw (laws.answered d s m c a.0 e o g, e, ih.0), rw e ih.1, ih.2))
      (λ e. let ih = alone (step s c).after m l a.1 o' (laws.ignores d s m c a.0 e o g) in (simp e ih.0, simp e ih.1, ih.2))
