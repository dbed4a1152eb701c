-- Clients do not meet in a world that agrees with another on their names: proved once, for any two worlds and any calls that are requests.
use mathlib.Core.Path.{◌≡◌, sym, ◌∙◌}
use mathlib.Core.Logic.{◌≢◌}
use mathlib.Core.Bool.{Bool, true, false}
use Rattle.buffers.specs.Bytes.{bytes_eq}
use Rattle.spec.specs.Status.{ok}
use Rattle.spec.specs.Name.{Name}
use Rattle.spec.specs.Interleaving.{Side}
use Rattle.spec.specs.Request.{Binding, Effect, Request, World, status_of, run}
use Rattle.buffers.proofs.Split.{split}
use Rattle.buffers.proofs.Bytes.{bytes_eq-eq}
use Rattle.spec.proofs.NameLists.{other_name}
use Rattle.spec.proofs.Area.{edit_option}
use Rattle.spec.proofs.Status.{by-status}
use Rattle.spec.proofs.World.{after-done, after-refused}
use Rattle.spec.proofs.Interleaving.{Separate}

-- what an effect does to what a name has
abbrev pub edited : Effect → Binding → Binding
edited e b = record { stored = edit_option e.kv b.stored; tag = edit_option e.rbp b.tag }

module _ {State Own Call : Type 0} (W : World State) (M : World Own) (request_of : Call → Request)
    (mine : Side → Bool) (Mine : Name → Type 0) (Ok : State → Type 0) (Allowed : Side → Call → Type 0) where
  -- of the names that are theirs, s has what m has
  abbrev pub Agree : State → Own → Type 0
  Agree s m = (n : Name) → Mine n → W.binding s n ≡ M.binding m n

  -- the state after a request that is done
  abbrev pub after : State → Call → State
  after s c = W.edit s (request_of c).name ((request_of c).effect (W.binding s (request_of c).name))

  pub record Agreeing : Type 0 where
    pub ours : (d : Side) (c : Call) → Allowed d c → mine d ≡ true → Mine (request_of c).name
    pub others : (d : Side) (c : Call) → Allowed d c → mine d ≡ false → ¬ Mine (request_of c).name
    -- what the first world tests by itself, and its room, make no difference
    pub same_status : (d : Side) (s : State) (m : Own) (c : Call) → Allowed d c → mine d ≡ true → Ok s → Agree s m
        → status_of W s (request_of c) ≡ status_of M m (request_of c)
    -- an accepted request's effect is what it says, and only on its name
    pub keeps : (d : Side) (s : State) (c : Call) → Allowed d c → Ok s → status_of W s (request_of c) ≡ ok → Ok (after s c)
    pub own : (d : Side) (s : State) (c : Call) → Allowed d c → Ok s → status_of W s (request_of c) ≡ ok
        → let n = (request_of c).name in W.binding (after s c) n ≡ edited ((request_of c).effect (W.binding s n)) (W.binding s n)
    pub other : (d : Side) (s : State) (c : Call) → Allowed d c → Ok s → status_of W s (request_of c) ≡ ok
        → (n : Name) → n ≢ (request_of c).name → W.binding (after s c) n ≡ W.binding s n
    pub model_own : (m : Own) (n : Name) (e : Effect) → M.binding (M.edit m n e) n ≡ edited e (M.binding m n)
    pub model_other : (m : Own) (n k : Name) (e : Effect) → k ≢ n → M.binding (M.edit m n e) k ≡ M.binding m k

  module _ (A : Agreeing) (d : Side) (s : State) (c : Call) (a : Allowed d c) (o : Ok s) where
    abbrev q : Request
    q = request_of c

    stays : Ok (run W s q).after
    stays = by-status (status_of W s q) (λ e. rw (after-done W s q e) (A.keeps d s c a o e)) (λ e. rw (after-refused W s q e) o)

    -- no call changes what another name has
    elsewhere : (n : Name) → n ≢ q.name → W.binding (run W s q).after n ≡ W.binding s n
    elsewhere n h = by-status (status_of W s q) (λ e. rw (after-done W s q e) (A.other d s c a o e n h)) (λ e. rw (after-refused W s q e))

    ignored : (m : Own) → mine d ≡ false → Agree s m → Agree (run W s q).after m
    ignored m i g n j = elsewhere n (λ z. A.others d c a i (rw z at j)) ∙ g n j

    module _ (m : Own) (i : mine d ≡ true) (g : Agree s m) where
      same : status_of W s q ≡ status_of M m q
      same = A.same_status d s m c a i o g

      has : W.binding s q.name ≡ M.binding m q.name
      has = g q.name (A.ours d c a i)

      answers : (run W s q).answer ≡ (run M m q).answer
      answers = rw (same, has)

      accepted : status_of W s q ≡ ok → Agree (run W s q).after (run M m q).after
      accepted e n j = rw (after-done W s q e, after-done M m q (sym same ∙ e)) (split (bytes_eq n q.name)
          (λ z. rw (bytes_eq-eq n q.name z) (A.own d s c a o e ∙ rw has (sym (A.model_own m q.name (q.effect (M.binding m q.name))))))
          (λ z.
          let h = other_name n q.name z in
          A.other d s c a o e n h ∙ g n j ∙ sym (A.model_other m q.name n (q.effect (M.binding m q.name)) h)))

      followed : Agree (run W s q).after (run M m q).after
      followed = by-status (status_of W s q) accepted (λ e. rw (after-refused W s q e, after-refused M m q (λ z. e (same ∙ z))) g)

  pub separate : Agreeing → Separate (λ s c. run W s (request_of c)) (λ m c. run M m (request_of c)) mine Ok Allowed Agree
  separate A = record {
    keeps = λ d s c a o. stays A d s c a o;
    answered = λ d s m c a i o g. answers A d s c a o m i g;
    follows = λ d s m c a i o g. followed A d s c a o m i g;
    ignores = λ d s m c a i o g. ignored A d s c a o m i g;
  }
