-- Slots in order of their names: what placing one and closing up do, and that such a list is determined by what is found in it. Nothing here depends on how
-- a slot is written.
use mathlib.Core.Path.{◌≡◌, refl, sym, ap, ◌∙◌}
use mathlib.Core.Logic.{◌≢◌, inl, inr}
use mathlib.Core.Bool.{Bool, true, false}
use mathlib.Core.List.{List, [], ◌∷◌, ◌++◌}
use mathlib.Core.Option.{Option, none, some, some-injective}
use Prim.Native.Nat.{suc}
use native.Mathlib.Omega.{arith}
use lib.ListN.{length, length-append}
use Rattle.buffers.specs.Bytes.{every, any, bytes_eq}
use Rattle.buffers.specs.Compare.{precedes}
use Rattle.spec.specs.Name.{Name}
use Rattle.spec.specs.Slots.{find_first, is_name, in_order, sorted_by, drop_last, place_by, close_up}
use Rattle.buffers.proofs.Split.{split, split_o, clash, clash_o, both}
use Rattle.buffers.proofs.Bytes.{eq-bytes_eq}
use Rattle.buffers.proofs.Order.{irreflexive, transitive, total}
use Rattle.spec.proofs.Slots.{held, held_at, at_held, not-held, Absent, find-none-cons, Distinct}

-- ---- the order of what slots hold

pub order_trans : (a b c : Option Name) → in_order a b ≡ true → in_order b c ≡ true → in_order a c ≡ true
order_trans a b none h k = refl
order_trans a none (some m) h k = clash false k refl
order_trans none (some n) (some m) h k = clash false h refl
order_trans (some l) (some n) (some m) h k = transitive l n m h k

-- not both ways
pub order-strict : (n : Name) (a : Option Name) → in_order (some n) a ≡ true → in_order a (some n) ≡ false
order-strict n none h = refl
order-strict n (some m) h = split (precedes m n) (λ k. clash (precedes n n) (transitive n m n h k) (irreflexive n)) (λ k. k)

-- one way or the other, but for the name itself
pub order-total : (n : Name) (a : Option Name) → is_name n a ≡ false → in_order (some n) a ≡ false → in_order a (some n) ≡ true
order-total n none i h = clash true refl h
order-total n (some m) i h = elim (total n m)
    [ inl p ↦ clash (precedes n m) p h | inr k ↦ elim k [ inl e ↦ clash (bytes_eq n m) (eq-bytes_eq n m e) i | inr p ↦ p ] ]

-- ---- lists

module _ {S : Type 0} where
  pub every-drop_last : (g : S → Bool) (ss : List S) → every g ss ≡ true → every g (drop_last ss) ≡ true
  every-drop_last g [] h = refl
  every-drop_last g (x ∷ []) h = refl
  every-drop_last g (x ∷ y ∷ ss) h = let k = both (g x) (every g (y ∷ ss)) h in rw (k.0, every-drop_last g (y ∷ ss) k.1)

  pub length-drop_last : (x : S) (ss : List S) → length (drop_last (x ∷ ss)) ≡ length ss
  length-drop_last x [] = refl
  length-drop_last x (y ∷ ss) = ap suc (length-drop_last y ss)

  every-snoc : (g : S → Bool) (ss : List S) (b : S) → every g ss ≡ true → g b ≡ true → every g (ss ++ b ∷ []) ≡ true
  every-snoc g [] b h k = rw k
  every-snoc g (x ∷ ss) b h k = let p = both (g x) (every g ss) h in rw (p.0, every-snoc g ss b p.1 k)

  find-snoc : (t : S → Bool) (ss : List S) (b : S) → t b ≡ false → find_first t (ss ++ b ∷ []) ≡ find_first t ss
  find-snoc t [] b k = rw k
  find-snoc t (x ∷ ss) b k = split (t x) (λ e. rw e) (λ e. rw e (find-snoc t ss b k))

module _ {S : Type 0} (at : S → Option Name) where
  -- what holds a may stand in front of all of these
  abbrev pub front : Option Name → List S → Bool
  front a ss = every (λ y. in_order a (at y)) ss

  pub front-trans : (a b : Option Name) (ss : List S) → in_order a b ≡ true → front b ss ≡ true → front a ss ≡ true
  front-trans a b [] h k = refl
  front-trans a b (y ∷ ss) h k =
      let p = both (in_order b (at y)) (front b ss) k in
      rw (order_trans a b (at y) h p.0, front-trans a b ss h p.1)

  pub sorted-cons : (x : S) (ss : List S) → sorted_by at (x ∷ ss) ≡ true → (front (at x) ss ≡ true) × (sorted_by at ss ≡ true)
  sorted-cons x ss h = both (front (at x) ss) (sorted_by at ss) h

  pub sorted-drop_last : (ss : List S) → sorted_by at ss ≡ true → sorted_by at (drop_last ss) ≡ true
  sorted-drop_last [] h = refl
  sorted-drop_last (x ∷ []) h = refl
  sorted-drop_last (x ∷ y ∷ ss) h =
      let k = sorted-cons x (y ∷ ss) h in
      rw (every-drop_last (λ s. in_order (at x) (at s)) (y ∷ ss) k.0, sorted-drop_last (y ∷ ss) k.1)

  sorted-snoc : (ss : List S) (b : S) → at b ≡ none → sorted_by at ss ≡ true → sorted_by at (ss ++ b ∷ []) ≡ true
  sorted-snoc [] b e h = refl
  sorted-snoc (x ∷ ss) b e h =
      let k = sorted-cons x ss h in
      rw (every-snoc (λ s. in_order (at x) (at s)) ss b k.0 (rw e), sorted-snoc ss b e k.1)

  -- a name that may not stand behind what all of these stand behind is not among them
  pub absent-behind : (a : Option Name) (n : Name) (ss : List S) → front a ss ≡ true → in_order a (some n) ≡ false → Absent at n ss
  absent-behind a n [] h k = refl
  absent-behind a n (y ∷ ss) h k =
      let p = both (in_order a (at y)) (front a ss) h in
      split (held at n y)
      (λ e. clash (in_order a (some n)) (rw (held_at at n y e) at p.0) k)
      (λ e. rw e (absent-behind a n ss p.1 k))

  -- so no two have one name
  pub sorted-distinct : (ss : List S) → sorted_by at ss ≡ true → Distinct at ss
  sorted-distinct [] h = tt
  sorted-distinct (x ∷ ss) h =
      let k = sorted-cons x ss h in
      ((λ n e. absent-behind (at x) n ss k.0 (rw (held_at at n x e) (irreflexive n))), sorted-distinct ss k.1)

  free-not-held : (n : Name) (x : S) → at x ≡ none → held at n x ≡ false
  free-not-held n x e = rw e

  -- what is found first
  found_first : (n : Name) (x : S) (ss : List S) → at x ≡ some n → find_first (held at n) (x ∷ ss) ≡ some x
  found_first n x ss e = rw (at_held at n x e)

  -- behind a free slot, one without a name, stand free ones
  pub free-behind : (free : S → Bool) → ((s : S) → free s ≡ true → at s ≡ none) → ((s : S) → free s ≡ false → at s ≡ none → ⊥)
      → (x y : S) → in_order (at x) (at y) ≡ true → free x ≡ true → free y ≡ true
  free-behind free unnamed used x y h e = split (free y) (λ f. f) (λ f. absurd (used y f (next (at y) (rw (unnamed x e) at h))))
    where
      next : (b : Option Name) → in_order none b ≡ true → b ≡ none
      next none z = refl
      next (some m) z = clash false z refl

  -- ---- a slot put in its place

  module _ (n : Name) (q : S) where
    pub length-place : (ss : List S) → length (place_by at n q ss) ≡ length ss
    length-place [] = refl
    length-place (x ∷ ss) = split (held at n x) (λ e. rw e) (λ e. split (in_order (some n) (at x))
        (λ f. rw (e, f) (ap suc (length-drop_last x ss)))
        (λ f. rw (e, f) (ap suc (length-place ss))))

    pub every-place : (g : S → Bool) (ss : List S) → g q ≡ true → every g ss ≡ true → every g (place_by at n q ss) ≡ true
    every-place g [] hq h = refl
    every-place g (x ∷ ss) hq h =
        let k = both (g x) (every g ss) h in
        split (held at n x) (λ e. rw (e, hq, k.1)) (λ e. split (in_order (some n) (at x))
        (λ f. rw (e, f, hq) (every-drop_last g (x ∷ ss) h))
        (λ f. rw (e, f, k.0) (every-place g ss hq k.1)))

    module _ (own : at q ≡ some n) where
      pub sorted-place : (ss : List S) → sorted_by at ss ≡ true → sorted_by at (place_by at n q ss) ≡ true
      sorted-place [] h = refl
      sorted-place (x ∷ ss) h =
          let k = sorted-cons x ss h in
          split (held at n x) (λ e. rw (e, own, ← (held_at at n x e), k.0, k.1)) (λ e. split (in_order (some n) (at x))
          (λ f.
          let all : front (some n) (x ∷ ss) ≡ true = rw (f, front-trans (some n) (at x) ss f k.0) in
          rw (e, f, own, every-drop_last (λ s. in_order (some n) (at s)) (x ∷ ss) all, sorted-drop_last (x ∷ ss) h))
          (λ f.
          let behind : in_order (at x) (at q) ≡ true = rw own (order-total n (at x) e f) in
          rw (e, f, every-place (λ s. in_order (at x) (at s)) ss behind k.0, sorted-place ss k.1)))

      -- a slot is free just where it has no name
      module _ (free : S → Bool) (unnamed : (s : S) → free s ≡ true → at s ≡ none) (used : (s : S) → free s ≡ false → at s ≡ none → ⊥) where
        -- there is a slot for it: its own, or a free one
        abbrev pub Room : List S → Type 0
        Room ss = Absent at n ss → any free ss ≡ true

        -- further on, where it is not here
        room-on : (x : S) (ss : List S) → held at n x ≡ false → in_order (some n) (at x) ≡ false → Room (x ∷ ss) → Room ss
        room-on x ss e f r a = split (free x)
            (λ k. clash (in_order (some n) (at x)) (rw (unnamed x k)) f)
            (λ k. rw k at (r (rw e a)))

        pub find-placed : (ss : List S) → Room ss → find_first (held at n) (place_by at n q ss) ≡ some q
        find-placed [] r = clash false (r refl) refl
        find-placed (x ∷ ss) r =
            let hq = at_held at n q own in
            split (held at n x) (λ e. rw (e, hq)) (λ e. split (in_order (some n) (at x))
            (λ f. rw (e, f, hq))
            (λ f. rw (e, f, e) (find-placed ss (room-on x ss e f r))))

        -- the last of a list that has a free slot is free
        find-drop_last : (m : Name) (ss : List S) → sorted_by at ss ≡ true → any free ss ≡ true → find_first (held at m) (drop_last ss) ≡ find_first (held at m) ss
        find-drop_last m [] h a = refl
        find-drop_last m (x ∷ []) h a = split (free x) (λ e. rw (free-not-held m x (unnamed x e))) (λ e. clash false (rw e at a) refl)
        find-drop_last m (x ∷ y ∷ ss) h a =
            let k = sorted-cons x (y ∷ ss) h in
            let first = (both (in_order (at x) (at y)) (front (at x) ss) k.0).0 in
            let later : any free (y ∷ ss) ≡ true = split (free x) (λ e. rw (free-behind free unnamed used x y first e)) (λ e. rw e at a) in
            split (held at m x) (λ e. rw e) (λ e. rw e (find-drop_last m (y ∷ ss) k.1 later))

        pub find-place-other : (m : Name) (ss : List S) → m ≢ n → sorted_by at ss ≡ true → Room ss
            → find_first (held at m) (place_by at n q ss) ≡ find_first (held at m) ss
        find-place-other m [] z h r = refl
        find-place-other m (x ∷ ss) z h r =
            let k = sorted-cons x ss h in
            let hq = not-held at m q n (at_held at n q own) z in
            split (held at n x) (λ e. rw (e, hq, not-held at m x n e z)) (λ e. split (in_order (some n) (at x))
            (λ f.
            let gone = absent-behind (some n) n ss (front-trans (some n) (at x) ss f k.0) (irreflexive n) in
            rw (e, f, hq) (find-drop_last m (x ∷ ss) h (r (rw e gone))))
            (λ f. split (held at m x) (λ y. rw (e, f, y)) (λ y. rw (e, f, y) (find-place-other m ss z k.1 (room-on x ss e f r)))))

  -- ---- a slot taken out

  module _ (n : Name) (b : S) where
    pub length-close : (ss : List S) → length (close_up at n b ss) ≡ length ss
    length-close [] = refl
    length-close (x ∷ ss) = split (held at n x)
        (λ e. rw e (length-append ss (b ∷ []) ∙ omega arith))
        (λ e. rw e (ap suc (length-close ss)))

    pub every-close : (g : S → Bool) (ss : List S) → g b ≡ true → every g ss ≡ true → every g (close_up at n b ss) ≡ true
    every-close g [] hb h = refl
    every-close g (x ∷ ss) hb h =
        let k = both (g x) (every g ss) h in
        split (held at n x) (λ e. rw e (every-snoc g ss b k.1 hb)) (λ e. rw (e, k.0) (every-close g ss hb k.1))

    pub close-absent : (ss : List S) → Absent at n ss → close_up at n b ss ≡ ss
    close-absent [] h = refl
    close-absent (x ∷ ss) h = let k = find-none-cons (held at n) x ss h in rw (k.0, close-absent ss k.1)

    module _ (blank : at b ≡ none) where
      pub sorted-close : (ss : List S) → sorted_by at ss ≡ true → sorted_by at (close_up at n b ss) ≡ true
      sorted-close [] h = refl
      sorted-close (x ∷ ss) h =
          let k = sorted-cons x ss h in
          split (held at n x)
          (λ e. rw e (sorted-snoc ss b blank k.1))
          (λ e. rw (e, every-close (λ s. in_order (at x) (at s)) ss (rw blank) k.0, sorted-close ss k.1))

      pub find-closed : (ss : List S) → sorted_by at ss ≡ true → Absent at n (close_up at n b ss)
      find-closed [] h = refl
      find-closed (x ∷ ss) h =
          let k = sorted-cons x ss h in
          split (held at n x)
          (λ e. rw e (find-snoc (held at n) ss b (free-not-held n b blank) ∙ (sorted-distinct (x ∷ ss) h).0 n e))
          (λ e. rw (e, e) (find-closed ss k.1))

      pub find-close-other : (m : Name) (ss : List S) → m ≢ n → find_first (held at m) (close_up at n b ss) ≡ find_first (held at m) ss
      find-close-other m [] z = refl
      find-close-other m (x ∷ ss) z = split (held at n x)
          (λ e. rw (e, not-held at m x n e z) (find-snoc (held at m) ss b (free-not-held m b blank)))
          (λ e. split (held at m x) (λ y. rw (e, y)) (λ y. rw (e, y) (find-close-other m ss z)))

  -- ---- what is found determines the list, where slots without a name are all alike

  module _ (P : S → Bool) (alike : (s t : S) → P s ≡ true → P t ≡ true → at s ≡ none → at t ≡ none → s ≡ t) where
    abbrev Same : List S → List S → Type 0
    Same ss ts = (n : Name) → find_first (held at n) ss ≡ find_first (held at n) ts

    -- the first of one list is found in it, so it may not be behind the first of the other
    not_behind : (s t : S) (ss ts : List S) (n : Name) → at s ≡ some n → held at n t ≡ false → in_order (at t) (some n) ≡ false
        → sorted_by at (t ∷ ts) ≡ true → Same (s ∷ ss) (t ∷ ts) → ⊥
    not_behind s t ss ts n e f g h same =
        let gone : find_first (held at n) (t ∷ ts) ≡ none = rw f (absent-behind (at t) n ts (sorted-cons t ts h).0 g) in
        clash_o (find_first (held at n) (s ∷ ss)) (same n ∙ gone) (found_first n s ss e)

    one-first : (s t : S) (ss ts : List S) → P s ≡ true → P t ≡ true → sorted_by at (s ∷ ss) ≡ true → sorted_by at (t ∷ ts) ≡ true
        → Same (s ∷ ss) (t ∷ ts) → s ≡ t
    one-first s t ss ts ps pt hs ht same = split_o (at s)
        (λ e. split_o (at t)
        (λ f. alike s t ps pt e f)
        (λ m f. absurd (not_behind t s ts ss m f (rw e) (rw e) hs (λ n. sym (same n)))))
        (λ n e. split (held at n t)
        (λ f. some-injective s t (sym (found_first n s ss e) ∙ same n ∙ found_first n t ts (held_at at n t f)))
        (λ f. split (in_order (some n) (at t))
        (λ g. absurd (not_behind s t ss ts n e f (order-strict n (at t) g) ht same))
        (λ g. split_o (at t)
        (λ k. clash (in_order (some n) (at t)) (rw k) g)
        (λ m k. absurd (not_behind t s ts ss m k (other s n m e (rw k at f)) (rw e (rw k at g)) hs (λ n. sym (same n)))))))
      where
        other : (x : S) (n m : Name) → at x ≡ some n → bytes_eq n m ≡ false → held at m x ≡ false
        other x n m e f = split (held at m x)
            (λ h. clash (bytes_eq n m) (eq-bytes_eq n m (some-injective n m (sym e ∙ held_at at m x h))) f)
            (λ h. h)

    -- and behind one first the same is found
    same_rest : (s : S) (ss ts : List S) → sorted_by at (s ∷ ss) ≡ true → sorted_by at (s ∷ ts) ≡ true → Same (s ∷ ss) (s ∷ ts) → Same ss ts
    same_rest s ss ts hs ht same n = split (held at n s)
        (λ e. (sorted-distinct (s ∷ ss) hs).0 n e ∙ sym ((sorted-distinct (s ∷ ts) ht).0 n e))
        (λ e. rw e at (same n))

    pub determined : (ss ts : List S) → length ss ≡ length ts → every P ss ≡ true → every P ts ≡ true
        → sorted_by at ss ≡ true → sorted_by at ts ≡ true → Same ss ts → ss ≡ ts
    determined [] [] z ps pt hs ht same = refl
    determined [] (t ∷ ts) z ps pt hs ht same = absurd (omega arith)
    determined (s ∷ ss) [] z ps pt hs ht same = absurd (omega arith)
    determined (s ∷ ss) (t ∷ ts) z ps pt hs ht same =
        let p = both (P s) (every P ss) ps in
        let r = both (P t) (every P ts) pt in
        let e = one-first s t ss ts p.0 r.0 hs ht same in
        let ht' : sorted_by at (s ∷ ts) ≡ true = rw e ht in
        let same' : Same (s ∷ ss) (s ∷ ts) = λ n. same n ∙ rw e in
        let rest = determined ss ts (omega arith) p.1 r.1 (sorted-cons s ss hs).1 (sorted-cons s ts ht').1 (same_rest s ss ts hs ht' same') in
        λ i. e i ∷ rest i
