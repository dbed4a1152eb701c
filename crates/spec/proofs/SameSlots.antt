-- Calls beside the same calls alone: of the names that are theirs, clients that share a card and a chip with others leave the slots that they leave alone.
use mathlib.Core.Path.{◌≡◌, sym, subst, ◌∙◌}
use mathlib.Core.Bool.{Bool, true, false}
use mathlib.Core.List.{List}
use Prim.Native.Nat.{ℕ}
use Rattle.buffers.specs.Bytes.{bytes_eq}
use Rattle.spec.specs.Status.{ok}
use Rattle.spec.specs.Name.{Name}
use Rattle.spec.specs.Area.{Format, kv_format, rbp_format, slot_of, Edit, keep, write, clear, edit_area}
use Rattle.spec.specs.Request.{Binding, Request, found, status_of, run}
use Rattle.spec.specs.Calls.{Areas, store_world}
use Rattle.spec.specs.Interleaving.{Side}
use Rattle.spec.specs.Model.{Call, request_of, store_step}
use Rattle.buffers.proofs.Split.{split}
use Rattle.buffers.proofs.Bytes.{bytes_eq-eq}
use Rattle.spec.proofs.NameLists.{other_name}
use Rattle.spec.proofs.Slot.{FormatLaws, kv-laws, rbp-laws}
use Rattle.spec.proofs.Area.{Sound, GoodEdit, WhenWritten, HasRoom, lookup-slot}
use Rattle.spec.proofs.Area.{slot-insert, slot-insert-other, slot-erase, slot-erase-other, slot-edit-other}
use Rattle.spec.proofs.Status.{by-status}
use Rattle.spec.proofs.World.{after-done, after-refused}
use Rattle.spec.proofs.Interleaving.{Separate}
use Rattle.spec.proofs.Lawful.{lawful}
use Rattle.spec.proofs.StoreSteps.{binding-eq, applied, kv_space, rbp_space, Ok, Allowed, keeps, stays, status_is}

-- one edit of two areas that have the same slot for a name
edit-alike : (F : Format) → FormatLaws F → (a b n m : List ℕ) (x : Edit) → Sound F a → Sound F b → GoodEdit F n x
    → WhenWritten x (HasRoom F a n) → WhenWritten x (HasRoom F b n) → slot_of F a m ≡ slot_of F b m
    → slot_of F (edit_area F a n x) m ≡ slot_of F (edit_area F b n x) m
edit-alike F L a b n m keep s t g r q h = h
edit-alike F L a b n m (write p) s t g r q h = split (bytes_eq m n)
    (λ e. rw (bytes_eq-eq m n e) (slot-insert F L a n p s g r ∙ sym (slot-insert F L b n p t g q)))
    (λ e. let z = other_name m n e in slot-insert-other F L a n p s g r m z ∙ h ∙ sym (slot-insert-other F L b n p t g q m z))
edit-alike F L a b n m clear s t g r q h = split (bytes_eq m n)
    (λ e. rw (bytes_eq-eq m n e) (slot-erase F L a n s ∙ sym (slot-erase F L b n t)))
    (λ e. let z = other_name m n e in slot-erase-other F L a n s m z ∙ h ∙ sym (slot-erase-other F L b n t m z))

module _ (u v : List Name) (kv_size rbp_size : ℕ) (mine : Side → Bool) (Mine : Name → Type 0) where
  abbrev Fine : Areas → Type 0
  Fine = Ok u v kv_size rbp_size

  -- of the names that are theirs, s has the slots that m has
  pub record Alike (s m : Areas) : Type 0 where
    pub fine : Fine m
    pub kv : (n : Name) → Mine n → slot_of kv_format s.kv n ≡ slot_of kv_format m.kv n
    pub rbp : (n : Name) → Mine n → slot_of rbp_format s.rbp n ≡ slot_of rbp_format m.rbp n

  module _ (d : Side) (s m : Areas) (c : Call) (a : Allowed u v kv_size rbp_size mine Mine d c) (o : Fine s) (g : Alike s m) where
    abbrev q : Request
    q = request_of c

    module _ (i : mine d ≡ true) where
      has : found store_world s q ≡ found store_world m q
      has = binding-eq
          (lookup-slot kv_format s.kv q.name ∙ rw (g.kv q.name (a.ours i)) (sym (lookup-slot kv_format m.kv q.name)))
          (lookup-slot rbp_format s.rbp q.name ∙ rw (g.rbp q.name (a.ours i)) (sym (lookup-slot rbp_format m.rbp q.name)))

      same : status_of store_world s q ≡ status_of store_world m q
      same = status_is u v kv_size rbp_size mine Mine s c d a o ∙ rw has (sym (status_is u v kv_size rbp_size mine Mine m c d a g.fine))

      answers : (run store_world s q).answer ≡ (run store_world m q).answer
      answers = rw (same, has)

      both_done : status_of store_world s q ≡ ok → Alike (run store_world s q).after (run store_world m q).after
      both_done e =
          let f = sym same ∙ e in
          let p = applied s q (lawful c) e in
          let r = applied m q (lawful c) f in
          let x = q.effect (found store_world m q) in
          let kv_room = subst (λ (b : Binding). WhenWritten (q.effect b).kv (HasRoom kv_format s.kv q.name)) has (kv_space s q (lawful c) p) in
          let rbp_room = subst (λ (b : Binding). WhenWritten (q.effect b).rbp (HasRoom rbp_format s.rbp q.name)) has (rbp_space s q (lawful c) p) in
          rw (after-done store_world s q e, after-done store_world m q f, has) (record {
            fine = keeps u v kv_size rbp_size mine Mine m c d a g.fine f;
            kv = λ n j. edit-alike kv_format kv-laws s.kv m.kv q.name n x.kv p.kv_sound r.kv_sound r.kv_good
                kv_room (kv_space m q (lawful c) r) (g.kv n j);
            rbp = λ n j. edit-alike rbp_format rbp-laws s.rbp m.rbp q.name n x.rbp p.rbp_sound r.rbp_sound r.rbp_good
                rbp_room (rbp_space m q (lawful c) r) (g.rbp n j);
          })

      followed : Alike (run store_world s q).after (run store_world m q).after
      followed = by-status (status_of store_world s q) both_done
          (λ e. rw (after-refused store_world s q e, after-refused store_world m q (λ z. e (same ∙ z))) g)

    -- another's call touches none of their slots
    ignored : mine d ≡ false → Alike (run store_world s q).after m
    ignored i = by-status (status_of store_world s q)
        (λ e.
        let p = applied s q (lawful c) e in
        let x = q.effect (found store_world s q) in
        rw (after-done store_world s q e) (record {
          fine = g.fine;
          kv = λ n j. slot-edit-other kv_format kv-laws s.kv n q.name x.kv p.kv_sound p.kv_good (kv_space s q (lawful c) p)
              (λ z. a.others i (rw z at j)) ∙ g.kv n j;
          rbp = λ n j. slot-edit-other rbp_format rbp-laws s.rbp n q.name x.rbp p.rbp_sound p.rbp_good (rbp_space s q (lawful c) p)
              (λ z. a.others i (rw z at j)) ∙ g.rbp n j;
        }))
        (λ e. rw (after-refused store_world s q e) g)

  pub beside-itself : Separate store_step store_step mine Fine (Allowed u v kv_size rbp_size mine Mine) Alike
  beside-itself = record {
    keeps = λ d s c a o. stays u v kv_size rbp_size mine Mine s c d a o;
    answered = λ d s m c a i o g. answers d s m c a o g i;
    follows = λ d s m c a i o g. followed d s m c a o g i;
    ignores = λ d s m c a i o g. ignored d s m c a o g i;
  }
