-- An area without damage is determined by the slots that its names use, and so, where it is of bytes, by what it holds for them.
use mathlib.Core.Path.{◌≡◌, refl, sym, ap, ◌∙◌}
use mathlib.Core.Logic.{◌⊎◌, inl, inr}
use mathlib.Core.Bool.{true}
use mathlib.Core.List.{List, [], ◌∷◌}
use mathlib.Core.Option.{none, some, some-injective}
use Prim.Native.Nat.{ℕ, zero, suc, ◌-◌, ◌*◌}
use borrow.Author.Tests.{eqb-true}
use lib.Dec.{eqb}
use lib.ListN.{length, take, drop}
use Rattle.buffers.specs.Bytes.{every, all_zero, zeros}
use Rattle.spec.specs.Name.{Name}
use Rattle.spec.specs.Slots.{chunks, join_slots, in_order, sorted_by}
use Rattle.spec.specs.Area.{Format, kv_format, rbp_format, slot_free, slot_used, slot_valid, slot_name, slot_payload, slot_holder, make_slot}
use Rattle.spec.specs.Area.{slot_count, slots, sized, intact, slot_of, lookup}
use Rattle.spec.specs.Request.{Binding, found, status_of}
use Rattle.spec.specs.Calls.{areas, store_world, store_reset}
use Rattle.spec.specs.Model.{Call, request_of, store_step}
use Rattle.spec.specs.Demand2.{Undamaged}
use Rattle.spec.specs.Shapes.{AreBytes}
use Rattle.spec.specs.Images.{Determined, Images}
use Rattle.buffers.proofs.Split.{split, split_o, clash_o, both}
use Rattle.buffers.proofs.Bytes.{all_zero-zeros, length-zeros, drop-zeros}
use Rattle.spec.proofs.Chunks.{wide, slots_length, slots-wide, slots-joined, slot-at}
use Rattle.spec.proofs.First.{every-index}
use Rattle.spec.proofs.Sorted.{determined}
use Rattle.spec.proofs.Slot.{kv-laws, rbp-laws}
use Rattle.spec.proofs.Area.{Sound, sized_same, sized-length, intact-sorted, blank-is, free-holder, lookup-slot, find-of-none, find-of-some, edit-sound}
use Rattle.spec.proofs.Intact.{intact-shape, lookup-shape}
use Rattle.spec.proofs.Shapes.{bytes-part, kv-made, rbp-made}
use Rattle.spec.proofs.Status.{by-status}
use Rattle.spec.proofs.World.{after-done, after-refused, both-sound}
use Rattle.spec.proofs.Reset.{reset_exact}
use Rattle.spec.proofs.Lawful.{lawful}
use Rattle.spec.proofs.StoreSteps.{applied}

module _ (F : Format) where
  -- free slots of one width are alike
  free-alike : (s t : List ℕ) → wide F.slot_size s ≡ true → wide F.slot_size t ≡ true → slot_holder F s ≡ none → slot_holder F t ≡ none → s ≡ t
  free-alike s t ws wt hs ht = blank-is F s ws hs ∙ sym (blank-is F t wt ht)

  -- equal slots for every name
  pub by_slots : (a b : List ℕ) → Sound F a → Sound F b → length a ≡ length b → ((n : Name) → slot_of F a n ≡ slot_of F b n) → a ≡ b
  by_slots a b s t e same =
      let sa = sized-length F a s.size in
      let sb = sized-length F b t.size in
      sym (slots-joined F a sa)
      ∙ ap join_slots (determined (slot_holder F) (wide F.slot_size) free-alike (slots F a) (slots F b)
      (slots_length F a ∙ rw e (sym (slots_length F b)))
      (slots-wide F a sa) (slots-wide F b sb) (intact-sorted F a s.good) (intact-sorted F b t.good) same)
      ∙ slots-joined F b sb

  -- a used slot of bytes is made of its name and what it holds
  module _ (Bytes : List ℕ → Type 0) (part : (l : List ℕ) → Bytes l → (i k : ℕ) → Bytes (take k (drop i l)))
      (made : (s : List ℕ) → length s ≡ F.slot_size → Bytes s → slot_used F s ≡ true → s ≡ make_slot F (slot_name F s) (slot_payload F s)) where
    -- what a name uses is made of the name and what is looked up
    slot-made : (a : List ℕ) (n : Name) (s : List ℕ) → Sound F a → Bytes a → slot_of F a n ≡ some s → s ≡ make_slot F n (slot_payload F s)
    unfolding slot_holder
    slot-made a n s d b h =
        let held = ((lookup-shape F a n).slot s).0 h in
        let holder : slot_holder F s ≡ some n = rw (← held.slot_is) held.held in
        let i = held.i in
        let k = held.in_range in
        let size : length s ≡ F.slot_size = rw (← held.slot_is, ← (slot-at F a i k)) (eqb-true _ _ (every-index (wide F.slot_size) (slots F a) []
        (slots-wide F a (sized-length F a d.size)) i (rw (slots_length F a) k))) in
        let bytes : Bytes s = rw (← held.slot_is) (part a b (i * F.slot_size) F.slot_size) in
        let shaped : (slot_free s ≡ true) ⊎ (slot_used F s ≡ true) = rw (← held.slot_is) (((intact-shape F a).0 d.good).shaped i k) in
        elim shaped [
          | inl e ↦ clash_o (slot_holder F s) (free-holder F s e) holder
          | inr e ↦ split (slot_free s)
              (λ z. clash_o (slot_holder F s) (free-holder F s z) holder)
              (λ z. made s size bytes e ∙ ap (λ (m : Name). make_slot F m (slot_payload F s)) (some-injective _ _ (rw z at holder)))
        ]

    same-slots : (a b : List ℕ) → Sound F a → Sound F b → Bytes a → Bytes b → (n : Name) → lookup F a n ≡ lookup F b n → slot_of F a n ≡ slot_of F b n
    same-slots a b s t x y n h = split_o (slot_of F a n)
        (λ e. e ∙ sym (find-of-none F b n (sym h ∙ lookup-slot F a n ∙ rw e)))
        (λ u e.
        let there : lookup F b n ≡ some (slot_payload F u) = sym h ∙ lookup-slot F a n ∙ rw e in
        let f = find-of-some F b n (slot_payload F u) there in
        let v = f.0 in
        let p : slot_payload F v ≡ slot_payload F u = some-injective _ _ (sym (lookup-slot F b n ∙ rw f.1) ∙ there) in
        let z : u ≡ v = slot-made a n u s x e ∙ ap (make_slot F n) (sym p) ∙ sym (slot-made b n v t y f.1) in
        e ∙ ap some z ∙ sym f.1)

    determined-by : (a b : List ℕ) → Bytes a → Bytes b → Determined F a b
    determined-by a b x y e s g k same =
        let sa : Sound F a = record { size = s; good = g } in
        let sb : Sound F b = record { size = sized_same F a b (sym e) s; good = k } in
        by_slots a b sa sb e (λ n. same-slots a b sa sb x y n (same n))

-- ---- calls

after_call : (kv rbp : List ℕ) (c : Call) → Undamaged kv rbp → let o = store_step (areas kv rbp) c in Undamaged o.after.kv o.after.rbp
after_call kv rbp c u =
    let s = areas kv rbp in
    let q = request_of c in
    by-status (status_of store_world s q)
    (λ e.
    let p = applied s q (lawful c) e in
    let x = q.effect (found store_world s q) in
    rw (after-done store_world s q e) (both-sound
    (edit-sound kv_format kv-laws kv q.name x.kv p.kv_sound p.kv_good)
    (edit-sound rbp_format rbp-laws rbp q.name x.rbp p.rbp_sound p.rbp_good)))
    (λ e. rw (after-refused store_world s q e) u)

-- slots of zeros are free, and free ones are in order
module _ (F : Format) where
  all-free : (k n : ℕ) → every slot_free (chunks F.slot_size k (zeros n)) ≡ true
  unfolding slot_free
  all-free zero n = refl
  all-free (suc k) n =
      let first = every_take F.slot_size (zeros n) (all_zero-zeros n) in
      rw (first, drop-zeros n F.slot_size) (all-free k (n - F.slot_size))
    where
      every_take : (j : ℕ) (l : List ℕ) → all_zero l ≡ true → all_zero (take j l) ≡ true
      every_take zero l h = refl
      every_take (suc j) [] h = refl
      every_take (suc j) (x ∷ l) h = let p = both (eqb x 0) (all_zero l) h in rw (p.0, every_take j l p.1)

  free-intact : (ss : List (List ℕ)) → every slot_free ss ≡ true → (every (slot_valid F) ss ≡ true) × (sorted_by (slot_holder F) ss ≡ true)
  unfolding slot_valid
  free-intact [] h = (refl, refl)
  free-intact (s ∷ ss) h =
      let p = both (slot_free s) (every slot_free ss) h in
      let r = free-intact ss p.1 in
      (rw (p.0, r.0), rw (behind ss p.1, r.1))
    where
      behind : (ts : List (List ℕ)) → every slot_free ts ≡ true → every (λ t. in_order (slot_holder F s) (slot_holder F t)) ts ≡ true
      behind [] k = refl
      behind (t ∷ ts) k = let p = both (slot_free t) (every slot_free ts) k in rw (free-holder F t p.0, behind ts p.1)

  zeros-sound : (area : List ℕ) → sized F area ≡ true → Sound F (zeros (length area))
  unfolding intact
  zeros-sound area s =
      let p = free-intact (slots F (zeros (length area))) (all-free (slot_count F (zeros (length area))) (length area)) in
      record { size = sized_same F area (zeros (length area)) (length-zeros (length area)) s; good = rw (p.0, p.1) }

after-reset : (kv rbp : List ℕ) → let o = store_reset kv rbp in o.answer.status ≡ 0 → Undamaged o.after.kv o.after.rbp
after-reset kv rbp h =
    let r = reset_exact kv rbp in
    let s = r.condition.0 h in
    rw (r.gives s) (both-sound (zeros-sound kv_format kv s.0) (zeros-sound rbp_format rbp s.1))

pub images : Images
images =
    let kv = determined-by kv_format AreBytes bytes-part kv-made in
    let rbp : (a b : List ℕ) → Determined rbp_format a b = λ a b.
    determined-by rbp_format (λ l. Unit {0}) (λ l u i k. tt) (λ s z u h. rbp-made s z h) a b tt tt in
    record {
      kv = kv;
      rbp = rbp;
      both = λ k r k' r' bk bk' ek er u u' same i. record {
        kv = kv k k' bk bk' ek u.kv_sized u.kv_intact u'.kv_intact (λ n. ap (λ (b : Binding). b.stored) (same n)) i;
        rbp = rbp r r' er u.rbp_sized u.rbp_intact u'.rbp_intact (λ n. ap (λ (b : Binding). b.tag) (same n)) i;
      };
      stays = after_call;
      reset = after-reset;
    }
