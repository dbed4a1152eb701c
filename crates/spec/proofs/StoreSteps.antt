-- A request on card and chip, where both are sound and have room for a list of names: what an accepted one does, what it keeps, and that its status depends
-- on what the name has alone.
use mathlib.Core.Path.{◌≡◌, ◌∙◌}
use mathlib.Core.Logic.{◌≢◌}
use mathlib.Core.Bool.{Bool, true, false}
use mathlib.Core.List.{List, ◌++◌, Memᴰ}
use mathlib.Core.Option.{Option}
use Prim.Native.Nat.{ℕ}
use lib.ListN.{length}
use Rattle.spec.specs.Status.{ok, first_of}
use Rattle.spec.specs.Name.{Name}
use Rattle.spec.specs.Area.{kv_format, rbp_format}
use Rattle.spec.specs.Request.{Binding, Effect, Request, found, status_of}
use Rattle.spec.specs.Calls.{Areas, binding_of, room_of, store_world}
use Rattle.spec.specs.Interleaving.{Side}
use Rattle.spec.specs.Model.{Call, request_of, call_name, store_step}
use Rattle.spec.specs.Demand3.{is_set, is_protected_set}
use Rattle.spec.proofs.Slot.{kv-laws, rbp-laws}
use Rattle.spec.proofs.Area.{Sound, GoodEdit, WhenWritten, when-map, HasRoom, Roomy, roomy_space}
use Rattle.spec.proofs.Area.{edit-sound, edit-length, edit-roomy, lookup-edit, lookup-edit-other}
use Rattle.spec.proofs.Status.{by-status}
use Rattle.spec.proofs.World.{after-done, after-refused, kv-sound-of, rbp-sound-of, both-sound, Sane, accepted, own-tests}
use Rattle.spec.proofs.Worlds.{edited}
use Rattle.spec.proofs.Lawful.{Lawful, lawful, enough}

pub binding-eq : {o t : Option (List ℕ)} {b : Binding} → o ≡ b.stored → t ≡ b.tag → record { stored = o; tag = t } ≡ b
binding-eq p q = λ i. record { stored = p i; tag = q i }

-- ---- an accepted request, in the store

-- what it has found, and what its effect may do
module _ (s : Areas) (q : Request) (L : Lawful q) where
  abbrev b : Binding
  b = found store_world s q

  abbrev e : Effect
  e = q.effect b

  pub record Applied : Type 0 where
    pub undamaged : Sane s
    pub kv_sound : Sound kv_format s.kv
    pub rbp_sound : Sound rbp_format s.rbp
    pub kv_good : GoodEdit kv_format q.name e.kv
    pub rbp_good : GoodEdit rbp_format q.name e.rbp
    pub kv_needs : WhenWritten e.kv ((q.puts.kv ≡ true) × HasRoom kv_format s.kv q.name)
    pub rbp_needs : WhenWritten e.rbp ((q.puts.rbp ≡ true) × HasRoom rbp_format s.rbp q.name)

  pub applied : status_of store_world s q ≡ ok → Applied
  applied h =
      let a = accepted s q.early (q.tests b (room_of s.kv s.rbp)) (L.numbered s b (room_of s.kv s.rbp)) h in
      let u = a.undamaged in
      let g = L.good b (room_of s.kv s.rbp) a.lengths a.rest in
      let n = L.needs b (room_of s.kv s.rbp) a.lengths a.rest in
      record {
        undamaged = u;
        kv_sound = kv-sound-of u;
        rbp_sound = rbp-sound-of u;
        kv_good = g.0;
        rbp_good = g.1;
        kv_needs = n.0;
        rbp_needs = n.1;
      }

  module _ (a : Applied) where
    -- there is a slot for what is written
    pub kv_space : WhenWritten e.kv (HasRoom kv_format s.kv q.name)
    kv_space = when-map e.kv (λ n. n.1) a.kv_needs

    pub rbp_space : WhenWritten e.rbp (HasRoom rbp_format s.rbp q.name)
    rbp_space = when-map e.rbp (λ n. n.1) a.rbp_needs

    pub own-binding : binding_of (store_world.edit s q.name e).kv (store_world.edit s q.name e).rbp q.name ≡ edited e b
    own-binding = binding-eq
        (lookup-edit kv_format kv-laws s.kv q.name e.kv a.kv_sound a.kv_good kv_space)
        (lookup-edit rbp_format rbp-laws s.rbp q.name e.rbp a.rbp_sound a.rbp_good rbp_space)

    pub other-binding : (n : Name) → n ≢ q.name
        → binding_of (store_world.edit s q.name e).kv (store_world.edit s q.name e).rbp n ≡ binding_of s.kv s.rbp n
    other-binding n h = binding-eq
        (lookup-edit-other kv_format kv-laws s.kv n q.name e.kv a.kv_sound a.kv_good kv_space h)
        (lookup-edit-other rbp_format rbp-laws s.rbp n q.name e.rbp a.rbp_sound a.rbp_good rbp_space h)

-- ---- calls of clients, with the names that are theirs and those that there is room for

pub record Ok (u v : List Name) (kv_size rbp_size : ℕ) (s : Areas) : Type 0 where
  pub kv_sound : Sound kv_format s.kv
  pub rbp_sound : Sound rbp_format s.rbp
  pub kv_roomy : Roomy kv_format u s.kv
  pub rbp_roomy : Roomy rbp_format v s.rbp
  pub kv_length : length s.kv ≡ kv_size
  pub rbp_length : length s.rbp ≡ rbp_size

module _ (u v : List Name) (kv_size rbp_size : ℕ) (mine : Side → Bool) (Mine : Name → Type 0) where
  pub record Allowed (d : Side) (c : Call) : Type 0 where
    pub ours : mine d ≡ true → Mine (call_name c)
    pub others : mine d ≡ false → ¬ Mine (call_name c)
    pub kv_listed : is_set c ≡ true → Memᴰ (call_name c) u
    pub rbp_listed : is_protected_set c ≡ true → Memᴰ (call_name c) v

  module _ (s : Areas) (c : Call) (d : Side) (a : Allowed d c) (o : Ok u v kv_size rbp_size s) where
    abbrev q : Request
    q = request_of c

    pub keeps : status_of store_world s q ≡ ok → Ok u v kv_size rbp_size (store_world.edit s q.name (q.effect (found store_world s q)))
    keeps h =
        let p = applied s q (lawful c) h in
        let x = q.effect (found store_world s q) in
        record {
          kv_sound = edit-sound kv_format kv-laws s.kv q.name x.kv o.kv_sound p.kv_good;
          rbp_sound = edit-sound rbp_format rbp-laws s.rbp q.name x.rbp o.rbp_sound p.rbp_good;
          kv_roomy = edit-roomy kv_format kv-laws u s.kv q.name x.kv o.kv_sound p.kv_good o.kv_roomy
              (when-map x.kv (λ n. (a.kv_listed n.0, n.1)) p.kv_needs);
          rbp_roomy = edit-roomy rbp_format rbp-laws v s.rbp q.name x.rbp o.rbp_sound p.rbp_good o.rbp_roomy
              (when-map x.rbp (λ n. (a.rbp_listed n.0, n.1)) p.rbp_needs);
          kv_length = edit-length kv_format kv-laws s.kv q.name x.kv o.kv_sound p.kv_good ∙ o.kv_length;
          rbp_length = edit-length rbp_format rbp-laws s.rbp q.name x.rbp o.rbp_sound p.rbp_good ∙ o.rbp_length;
        }

    pub stays : Ok u v kv_size rbp_size (store_step s c).after
    stays = by-status (status_of store_world s q) (λ h. rw (after-done store_world s q h) (keeps h)) (λ h. rw (after-refused store_world s q h) o)

    -- the areas are sound and there is room, so the status is decided by what the name has alone
    pub status_is : status_of store_world s q ≡ first_of (q.early ++ q.tests (found store_world s q) enough)
    status_is =
        let sane : Sane s = both-sound o.kv_sound o.rbp_sound in
        let b = found store_world s q in
        let tests = q.tests b (room_of s.kv s.rbp) in
        own-tests s q.early tests sane
        ∙ (lawful c).roomless b (room_of s.kv s.rbp)
        (λ i. roomy_space kv_format u s.kv (call_name c) o.kv_sound o.kv_roomy (a.kv_listed i))
        (λ i. roomy_space rbp_format v s.rbp (call_name c) o.rbp_sound o.rbp_roomy (a.rbp_listed i))
