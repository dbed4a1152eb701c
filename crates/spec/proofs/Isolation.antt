-- Demand 3: the store's world agrees with the reference model's, and whole lists follow.
use mathlib.Core.Path.{◌≡◌, refl, sym, ap, ◌∙◌}
use mathlib.Core.Bool.{Bool, true, false}
use mathlib.Core.List.Memᴰ
use mathlib.Core.List.{List, [], ◌∷◌, ◌++◌, map, flatten, Memᴰ}
use Prim.Native.Nat.{ℕ, ◌≤◌}
use lib.ListN.{length}
use Rattle.spec.specs.Name.{Name}
use Rattle.spec.specs.Slots.{dedup, member}
use Rattle.spec.specs.Area.{Format, kv_format, rbp_format, slot_holder, slot_count, slots, slot_of, names}
use Rattle.spec.specs.Calls.{Areas, areas, binding_of, store_world}
use Rattle.spec.specs.Interleaving.{Side, left, right, is_side, Tagged, by, part, Interleaving, answers, final, shared_step}
use Rattle.spec.specs.Model.{Call, request_of, call_name, model_of, model_binding, model_world, model_step, store_step}
use Rattle.spec.specs.Demand3.{Names, names_where, is_set, is_protected_set, IsolationPremise, Isolated, ClientIsolation, at_end}
use Rattle.buffers.proofs.Split.{split, clash}
use Rattle.spec.proofs.NameLists.{member_in, in_member, dedup_in}
use Rattle.spec.proofs.Slots.{find_in}
use Rattle.spec.proofs.Area.{Roomy}
use Rattle.spec.proofs.Images.{by_slots}
use Rattle.spec.proofs.World.{kv-sound-of, rbp-sound-of, both-sound}
use Rattle.spec.proofs.Interleaving.{Each, each_in, part_in, part_none, side-other, alone}
use Rattle.spec.proofs.Model.{table_same, table-other, model-start}
use Rattle.spec.proofs.Worlds.{Agreeing, separate}
use Rattle.spec.proofs.Lawful.{lawful}
use Rattle.spec.proofs.StoreSteps.{binding-eq, applied, own-binding, other-binding, Ok, Allowed, keeps, status_is}
use Rattle.spec.proofs.SameSlots.{beside-itself}

start-roomy : (F : Format) (u : List Name) (area : List ℕ) → ((n : Name) → Memᴰ n (names F area) → Memᴰ n u) → length u ≤ slot_count F area
    → Roomy F u area
start-roomy F u area w e = record { within = λ m r k. w m (find_in (slot_holder F) m (slots F area) r k); enough = e }

-- a name has the same slots in both
abbrev SlotsAs : Areas → Areas → Name → Type 0
SlotsAs s m n = (slot_of kv_format s.kv n ≡ slot_of kv_format m.kv n) × (slot_of rbp_format s.rbp n ≡ slot_of rbp_format m.rbp n)

through : (s t m : Areas) (n : Name) → SlotsAs s m n → SlotsAs t m n → SlotsAs s t n
through s t m n a b = (a.0 ∙ sym b.0, a.1 ∙ sym b.1)

-- ---- the store beside the model, for the clients of a test and the names that are theirs

module _ (u v : List Name) (kv_size rbp_size : ℕ) (mine : Side → Bool) (Mine : Name → Type 0) where
  agreeing : Agreeing store_world model_world request_of mine Mine (Ok u v kv_size rbp_size) (Allowed u v kv_size rbp_size mine Mine)
  agreeing = record {
    ours = λ d c a. a.ours;
    others = λ d c a. a.others;
    same_status = λ d s m c a i o g. status_is u v kv_size rbp_size mine Mine s c d a o ∙ rw (g (call_name c) (a.ours i));
    keeps = λ d s c a o h. keeps u v kv_size rbp_size mine Mine s c d a o h;
    own = λ d s c a o h. own-binding s (request_of c) (lawful c) (applied s (request_of c) (lawful c) h);
    other = λ d s c a o h. other-binding s (request_of c) (lawful c) (applied s (request_of c) (lawful c) h);
    model_own = λ m n e. binding-eq (table_same m.records n e.kv) (table_same m.tags n e.rbp);
    model_other = λ m n k e h. binding-eq (table-other m.records k n e.kv h) (table-other m.tags k n e.rbp h);
  }

-- ---- whole lists

where_in : (t : Call → Bool) (c : Call) (cs : List Call) → Memᴰ c cs → t c ≡ true → Memᴰ (call_name c) (names_where t cs)
unfolding flatten
where_in t c [] m h = elim m [ ]
where_in t c (b ∷ cs) (Memᴰ.head e) h =
    let p : t b ≡ true = rw e at h in
    rw p (Memᴰ.head (ap call_name e))
where_in t c (b ∷ cs) (Memᴰ.tail m) h = split (t b) (λ e. rw e (Memᴰ.tail (where_in t c cs m h))) (λ e. rw e (where_in t c cs m h))

name_in : (c : Call) (cs : List Call) → Memᴰ c cs → Names cs (call_name c)
name_in c [] m = elim m [ ]
name_in c (b ∷ cs) (Memᴰ.head e) = Memᴰ.head (ap call_name e)
name_in c (b ∷ cs) (Memᴰ.tail m) = Memᴰ.tail (name_in c cs m)

module _ (kv rbp : List ℕ) (ls rs : List Call) (l : List (Tagged Call)) (w : Interleaving ls rs l) (p : IsolationPremise kv rbp ls rs) where
  of_left : (d : Side) (c : Call) → Memᴰ (by d c) l → is_side left d ≡ true → Memᴰ c ls
  of_left d c m h = rw w.left at (part_in (is_side left) d c l m h)

  of_right : (d : Side) (c : Call) → Memᴰ (by d c) l → is_side right d ≡ true → Memᴰ c rs
  of_right d c m h = rw w.right at (part_in (is_side right) d c l m h)

  -- the names that there is to be room for
  abbrev asked : Format → List ℕ → (Call → Bool) → List Name
  asked F area t = dedup (names F area ++ (names_where t ls ++ names_where t rs))

  asked-call : (F : Format) (area : List ℕ) (t : Call → Bool) (d : Side) (c : Call) → Memᴰ (by d c) l → t c ≡ true
      → Memᴰ (call_name c) (asked F area t)
  asked-call F area t d c m h = dedup_in (call_name c) _ (Memᴰ.append_right (names F area) (split (is_side left d)
      (λ e. Memᴰ.append_left (names_where t rs) (where_in t c ls (of_left d c m e) h))
      (λ e. Memᴰ.append_right (names_where t ls) (where_in t c rs (of_right d c m (side-other d e)) h))))

  asked-start : (F : Format) (area : List ℕ) (t : Call → Bool) (n : Name) → Memᴰ n (names F area) → Memᴰ n (asked F area t)
  asked-start F area t n m = dedup_in n _ (Memᴰ.append_left (names_where t ls ++ names_where t rs) m)

  abbrev kv_asked : List Name
  kv_asked = asked kv_format kv is_set

  abbrev rbp_asked : List Name
  rbp_asked = asked rbp_format rbp is_protected_set

  abbrev end : Areas
  end = at_end kv rbp ls rs l

  module _ (mine : Side → Bool) (Mine : Name → Type 0)
      (ours : (d : Side) (c : Call) → Memᴰ (by d c) l → mine d ≡ true → Mine (call_name c))
      (others : (d : Side) (c : Call) → Memᴰ (by d c) l → mine d ≡ false → ¬ Mine (call_name c)) where
    abbrev OkHere : Areas → Type 0
    OkHere = Ok kv_asked rbp_asked (length kv) (length rbp)

    abbrev own : List Call
    own = part mine l

    ok-start : OkHere (areas kv rbp)
    ok-start = record {
      kv_sound = kv-sound-of p.undamaged;
      rbp_sound = rbp-sound-of p.undamaged;
      kv_roomy = start-roomy kv_format _ kv (asked-start kv_format kv is_set) p.kv_room;
      rbp_roomy = start-roomy rbp_format _ rbp (asked-start rbp_format rbp is_protected_set) p.rbp_room;
      kv_length = refl;
      rbp_length = refl;
    }

    allowed : Each (Allowed kv_asked rbp_asked (length kv) (length rbp) mine Mine) l
    allowed = each_in _ l (λ d c m. record {
      ours = ours d c m;
      others = others d c m;
      kv_listed = asked-call kv_format kv is_set d c m;
      rbp_listed = asked-call rbp_format rbp is_protected_set d c m;
    })

    seen : (part mine (answers (shared_step store_step) (areas kv rbp) l) ≡ answers model_step (model_of kv rbp) own)
        × ((n : Name) → Mine n → binding_of end.kv end.rbp n ≡ model_binding (final model_step (model_of kv rbp) own) n)
        × OkHere end
    seen = alone store_step model_step mine _ _ _
        (separate store_world model_world request_of mine Mine _ _ (agreeing kv_asked rbp_asked (length kv) (length rbp) mine Mine))
        (areas kv rbp) (model_of kv rbp) l allowed ok-start (λ n j. model-start kv rbp n)

    -- their slots at the end are those that their own calls leave
    kept : (n : Name) → Mine n → SlotsAs end (final store_step (areas kv rbp) own) n
    kept n j =
        let a = alone store_step store_step mine _ _ _ (beside-itself kv_asked rbp_asked (length kv) (length rbp) mine Mine)
        (areas kv rbp) (areas kv rbp) l allowed ok-start (record { fine = ok-start; kv = λ m k. refl; rbp = λ m k. refl }) in
        (a.1.kv n j, a.1.rbp n j)

  side_left : (d : Side) → is_side right d ≡ false → is_side left d ≡ true
  side_left left h = refl
  side_left right h = sym h

  -- the names of either client, and those of neither
  left-ours : (d : Side) (c : Call) → Memᴰ (by d c) l → is_side left d ≡ true → Names ls (call_name c)
  left-ours d c m e = name_in c ls (of_left d c m e)

  left-others : (d : Side) (c : Call) → Memᴰ (by d c) l → is_side left d ≡ false → ¬ Names ls (call_name c)
  left-others d c m e z = p.no_shared_name (call_name c) z (name_in c rs (of_right d c m (side-other d e)))

  right-ours : (d : Side) (c : Call) → Memᴰ (by d c) l → is_side right d ≡ true → Names rs (call_name c)
  right-ours d c m e = name_in c rs (of_right d c m e)

  right-others : (d : Side) (c : Call) → Memᴰ (by d c) l → is_side right d ≡ false → ¬ Names rs (call_name c)
  right-others d c m e z = p.no_shared_name (call_name c) (name_in c ls (of_left d c m (side_left d e))) z

  abbrev Neither : Name → Type 0
  Neither n = (¬ Names ls n) × (¬ Names rs n)

  none-ours : (d : Side) (c : Call) → Memᴰ (by d c) l → false ≡ true → Neither (call_name c)
  none-ours d c m e = clash false e refl

  none-others : (d : Side) (c : Call) → Memᴰ (by d c) l → false ≡ false → ¬ Neither (call_name c)
  none-others d c m e z = split (is_side left d)
      (λ h. z.0 (name_in c ls (of_left d c m h)))
      (λ h. z.1 (name_in c rs (of_right d c m (side-other d h))))

  end-ok : Ok kv_asked rbp_asked (length kv) (length rbp) end
  end-ok = (seen (is_side left) (Names ls) left-ours left-others).2

  -- the slots at the end, however the lists are merged
  left-slots : (n : Name) → Names ls n → SlotsAs end (final store_step (areas kv rbp) ls) n
  left-slots n j = rw w.left at (kept (is_side left) (Names ls) left-ours left-others n j)

  right-slots : (n : Name) → Names rs n → SlotsAs end (final store_step (areas kv rbp) rs) n
  right-slots n j = rw w.right at (kept (is_side right) (Names rs) right-ours right-others n j)

  other-slots : (n : Name) → Neither n → SlotsAs end (areas kv rbp) n
  other-slots n j = rw (part_none l) at (kept (λ d. false) Neither none-ours none-others n j)

-- ---- two merges

module _ (kv rbp : List ℕ) (ls rs : List Call) (p : IsolationPremise kv rbp ls rs) (l l' : List (Tagged Call))
    (w : Interleaving ls rs l) (w' : Interleaving ls rs l') where
  abbrev this : Areas
  this = end kv rbp ls rs l w p

  abbrev that : Areas
  that = end kv rbp ls rs l' w' p

  one-slot : (n : Name) → SlotsAs that this n
  one-slot n = split (member n (map call_name ls))
      (λ e.
      let j = member_in n (map call_name ls) e in
      through that this (final store_step (areas kv rbp) ls) n (left-slots kv rbp ls rs l' w' p n j) (left-slots kv rbp ls rs l w p n j))
      (λ e. split (member n (map call_name rs))
      (λ f.
      let j = member_in n (map call_name rs) f in
      through that this (final store_step (areas kv rbp) rs) n (right-slots kv rbp ls rs l' w' p n j) (right-slots kv rbp ls rs l w p n j))
      (λ f.
      let j : Neither kv rbp ls rs l w p n =
      ((λ z. clash (member n (map call_name ls)) (in_member n _ z) e), (λ z. clash (member n (map call_name rs)) (in_member n _ z) f)) in
      through that this (areas kv rbp) n (other-slots kv rbp ls rs l' w' p n j) (other-slots kv rbp ls rs l w p n j)))

  same_bytes : that ≡ this
  same_bytes =
      let o = end-ok kv rbp ls rs l w p in
      let o' = end-ok kv rbp ls rs l' w' p in
      let k = by_slots kv_format that.kv this.kv o'.kv_sound o.kv_sound (o'.kv_length ∙ sym o.kv_length) (λ n. (one-slot n).0) in
      let r = by_slots rbp_format that.rbp this.rbp o'.rbp_sound o.rbp_sound (o'.rbp_length ∙ sym o.rbp_length) (λ n. (one-slot n).1) in
      λ i. areas (k i) (r i)

module _ (kv rbp : List ℕ) (ls rs : List Call) (l : List (Tagged Call)) (w : Interleaving ls rs l) (p : IsolationPremise kv rbp ls rs) where
  isolated : Isolated kv rbp ls rs l
  isolated =
      let a = seen kv rbp ls rs l w p (is_side left) (Names ls) (left-ours kv rbp ls rs l w p) (left-others kv rbp ls rs l w p) in
      let b = seen kv rbp ls rs l w p (is_side right) (Names rs) (right-ours kv rbp ls rs l w p) (right-others kv rbp ls rs l w p) in
      let o = seen kv rbp ls rs l w p (λ d. false) (Neither kv rbp ls rs l w p) (none-ours kv rbp ls rs l w p) (none-others kv rbp ls rs l w p) in
      record {
        left_answers = rw w.left at a.0;
        right_answers = rw w.right at b.0;
        left_contents = λ n j. rw w.left at (a.1 n j);
        right_contents = λ n j. rw w.right at (b.1 n j);
        other_contents = λ n i j. (rw (part_none l) at (o.1 n (i, j))) ∙ sym (model-start kv rbp n);
        undamaged = both-sound a.2.kv_sound a.2.rbp_sound;
        kv_length = a.2.kv_length;
        rbp_length = a.2.rbp_length;
        same_bytes = λ l' w'. same_bytes kv rbp ls rs p l l' w w';
      }

pub client_isolation : ClientIsolation
client_isolation kv rbp ls rs l w p = isolated kv rbp ls rs l w p
