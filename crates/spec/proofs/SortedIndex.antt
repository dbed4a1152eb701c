-- Slots in order of their names, by index: where a name stands or would stand, what placing one and closing up leave, and the same in bytes.
use mathlib.Core.Path.{◌≡◌, refl, sym, ap, ◌∙◌}
use mathlib.Core.Bool.{Bool, true, false, not}
use mathlib.Core.List.{List, [], ◌∷◌, ◌++◌, append_assoc}
use mathlib.Core.Option.{Option, none, some}
use Prim.Native.Nat.{ℕ, zero, suc, ◌+◌, ◌*◌, ◌-◌, ◌≤◌, ◌<◌}
use native.Mathlib.Nat.{suc-mul, zero-mul, not-suc-le-zero, le_of_suc-le-suc}
use native.Mathlib.Omega.{arith}
use lib.ListN.{length, take, drop, get_or, set, replicate, length-drop, take-append-drop}
use lib.Seq.{drop-drop, take-add}
use Rattle.buffers.specs.Bytes.{every, is_some}
use Rattle.buffers.specs.Compare.{precedes}
use Rattle.spec.specs.Name.{Name}
use Rattle.spec.specs.Slots.{chunks, join_slots, first_index, find_first, in_order, sorted_by, drop_last, place_by, close_up}
use Rattle.buffers.proofs.Split.{split, split_o, clash, clash_o, both, not-false-is, not_true_is}
use Rattle.buffers.proofs.Order.{irreflexive}
use Rattle.spec.proofs.Slots.{held, held_at, Absent, find-none-cons}
use Rattle.spec.proofs.Chunks.{join-chunks}
use Rattle.spec.proofs.First.{first-lowest}
use Rattle.spec.proofs.Sorted.{order_trans, order-strict, order-total, front, sorted-cons, absent-behind, free-behind}

module _ {S : Type 0} where
  pub find-passes : (t : S → Bool) (ss : List S) (r : S) → find_first t ss ≡ some r → t r ≡ true
  find-passes t [] r h = clash_o none refl h
  find-passes t (s ∷ ss) r h = split (t s) (λ e. let f : some s ≡ some r = rw e at h in let z : s ≡ r = cc in rw z at e) (λ e. find-passes t ss r (rw e at h))

  pub drop_last-replicate : (xs : List S) (k : ℕ) (b : S) → drop_last (xs ++ replicate (suc k) b) ≡ xs ++ replicate k b
  drop_last-replicate [] zero b = refl
  drop_last-replicate [] (suc k) b = ap (λ (l : List S). b ∷ l) (drop_last-replicate [] k b)
  drop_last-replicate (x ∷ []) k b = ap (λ (l : List S). x ∷ l) (drop_last-replicate [] k b)
  drop_last-replicate (x ∷ y ∷ xs) k b = ap (λ (l : List S). x ∷ l) (drop_last-replicate (y ∷ xs) k b)

  replicate-snoc : (k : ℕ) (b : S) → replicate k b ++ b ∷ [] ≡ b ∷ replicate k b
  replicate-snoc zero b = refl
  replicate-snoc (suc k) b = ap (λ (l : List S). b ∷ l) (replicate-snoc k b)

module _ {S : Type 0} (at : S → Option Name) where
  -- a slot that does not stand before the name: its own, that of a greater one, or a free one
  abbrev pub not_before : Name → S → Bool
  not_before n s = not (in_order (at s) (some n))

  -- where the name stands, or would stand
  abbrev pub place_of : Name → List S → ℕ
  place_of n ss = first_index (not_before n) ss

  module _ (n : Name) where
    own-not-before : (x : S) → held at n x ≡ true → in_order (at x) (some n) ≡ false
    own-not-before x e = rw (held_at at n x e) (irreflexive n)

    not_in-front : (a : Option Name) → in_order a (some n) ≡ true → in_order (some n) a ≡ false
    not_in-front a h = split (in_order (some n) a) (λ e. clash (in_order a (some n)) h (order-strict n a e)) (λ e. e)

    -- what stands in front of a name that is there
    before-known : (x r : S) (ss : List S) → sorted_by at (x ∷ ss) ≡ true → find_first (held at n) ss ≡ some r → in_order (at x) (some n) ≡ true
    before-known x r ss h f = split (in_order (at x) (some n)) (λ e. e)
        (λ e. clash_o (find_first (held at n) ss) (absent-behind at (at x) n ss (sorted-cons at x ss h).0 e) f)

    -- ---- the edits, by index

    pub place-new : (q : S) (ss : List S) → Absent at n ss → place_of n ss < length ss
        → place_by at n q ss ≡ take (place_of n ss) ss ++ q ∷ drop_last (drop (place_of n ss) ss)
    place-new q [] a h = absurd (not-suc-le-zero h)
    place-new q (x ∷ ss) a h =
        let k = find-none-cons (held at n) x ss a in
        split (in_order (some n) (at x))
        (λ f. rw (k.0, f, order-strict n (at x) f))
        (λ f.
        let b = order-total n (at x) k.0 f in
        rw (k.0, f, b) (ap (λ (l : List S). x ∷ l) (place-new q ss k.1 (le_of_suc-le-suc (rw b at h)))))

    pub place-known : (q r : S) (ss : List S) → sorted_by at ss ≡ true → find_first (held at n) ss ≡ some r → place_by at n q ss ≡ set ss (place_of n ss) q
    place-known q r [] h f = clash_o none refl f
    place-known q r (x ∷ ss) h f = split (held at n x)
        (λ e. rw (e, own-not-before x e))
        (λ e.
        let g : find_first (held at n) ss ≡ some r = rw e at f in
        let b = before-known x r ss h g in
        rw (e, not_in-front (at x) b, b) (ap (λ (l : List S). x ∷ l) (place-known q r ss (sorted-cons at x ss h).1 g)))

    pub close-known : (b r : S) (ss : List S) → sorted_by at ss ≡ true → find_first (held at n) ss ≡ some r
        → close_up at n b ss ≡ take (place_of n ss) ss ++ (drop (suc (place_of n ss)) ss ++ b ∷ [])
    close-known b r [] h f = clash_o none refl f
    close-known b r (x ∷ ss) h f = split (held at n x)
        (λ e. rw (e, own-not-before x e))
        (λ e.
        let g : find_first (held at n) ss ≡ some r = rw e at f in
        let k = before-known x r ss h g in
        rw (e, k) (ap (λ (l : List S). x ∷ l) (close-known b r ss (sorted-cons at x ss h).1 g)))

    -- ---- what stands there

    pub known_at : (d r : S) (ss : List S) → sorted_by at ss ≡ true → find_first (held at n) ss ≡ some r
        → (place_of n ss < length ss) × (get_or ss (place_of n ss) d ≡ r)
    known_at d r [] h f = clash_o none refl f
    known_at d r (x ∷ ss) h f = split (held at n x)
        (λ e. let g : some x ≡ some r = rw e at f in rw (own-not-before x e) (omega arith, cc))
        (λ e.
        let g : find_first (held at n) ss ≡ some r = rw e at f in
        let k = known_at d r ss (sorted-cons at x ss h).1 g in
        let below = k.0 in
        rw (before-known x r ss h g) (omega arith, k.1))

    -- a smaller name stands before it
    pub smaller-at : (d : S) (ss : List S) (j : ℕ) → j < place_of n ss → (m : Name) × (at (get_or ss j d) ≡ some m) × (precedes m n ≡ true)
    smaller-at d ss j h = named (at (get_or ss j d)) (not-false-is (in_order (at (get_or ss j d)) (some n)) (first-lowest (not_before n) ss d j h))
      where
        named : (a : Option Name) → in_order a (some n) ≡ true → (m : Name) × (a ≡ some m) × (precedes m n ≡ true)
        named none k = clash false k refl
        named (some m) k = (m, refl, k)

    -- a new name may stand in front of what stands there
    pub greater-at : (d : S) (ss : List S) → Absent at n ss → place_of n ss < length ss → in_order (some n) (at (get_or ss (place_of n ss) d)) ≡ true
    greater-at d [] a h = absurd (not-suc-le-zero h)
    greater-at d (x ∷ ss) a h =
        let k = find-none-cons (held at n) x ss a in
        split (in_order (some n) (at x))
        (λ f. rw (order-strict n (at x) f) f)
        (λ f. let b = order-total n (at x) k.0 f in rw b (greater-at d ss k.1 (le_of_suc-le-suc (rw b at h))))

    -- it is the name's slot just where the name is there
    pub held_place : (d : S) (ss : List S) → sorted_by at ss ≡ true → place_of n ss < length ss
        → held at n (get_or ss (place_of n ss) d) ≡ is_some (find_first (held at n) ss)
    held_place d ss h k = split_o (find_first (held at n) ss)
        (λ e. rw e (not_own (get_or ss (place_of n ss) d) (greater-at d ss e k)))
        (λ r e. rw (e, (known_at d r ss h e).1) (find-passes (held at n) ss r e))
      where
        not_own : (x : S) → in_order (some n) (at x) ≡ true → held at n x ≡ false
        not_own x g = split (held at n x) (λ e. clash (in_order (some n) (at x)) g (rw (held_at at n x e) (irreflexive n))) (λ e. e)

    pub absent-place : (ss : List S) → sorted_by at ss ≡ true → length ss ≤ place_of n ss → is_some (find_first (held at n) ss) ≡ false
    absent-place ss h k = split_o (find_first (held at n) ss) (λ e. rw e) (λ r e. let b = (known_at r r ss h e).0 in absurd (omega arith))

  -- ---- a test that what stands behind a slot passes if the slot does

  module _ (t : S → Bool) (behind : (x y : S) → in_order (at x) (at y) ≡ true → t x ≡ true → t y ≡ true) where
    all-behind : (x : S) (ss : List S) (d : S) (j : ℕ) → sorted_by at (x ∷ ss) ≡ true → t x ≡ true → j < length ss → t (get_or ss j d) ≡ true
    all-behind x [] d j h e k = absurd (not-suc-le-zero k)
    all-behind x (y ∷ ss) d zero h e k =
        behind x y (both (in_order (at x) (at y)) (front at (at x) ss) (sorted-cons at x (y ∷ ss) h).0).0 e
    all-behind x (y ∷ ss) d (suc j) h e k =
        let p = sorted-cons at x (y ∷ ss) h in
        let r = both (in_order (at x) (at y)) (front at (at x) ss) p.0 in
        all-behind y ss d j p.1 (behind x y r.0 e) (le_of_suc-le-suc k)

    -- so a slot that fails stands before the first that passes
    pub fails-before : (ss : List S) (d : S) (j : ℕ) → sorted_by at ss ≡ true → j < length ss → t (get_or ss j d) ≡ false → j < first_index t ss
    fails-before [] d j h k e = absurd (not-suc-le-zero k)
    fails-before (x ∷ ss) d zero h k e = rw e (omega arith)
    fails-before (x ∷ ss) d (suc j) h k e = split (t x)
        (λ f. clash (t (get_or ss j d)) (all-behind x ss d j h f (le_of_suc-le-suc k)) e)
        (λ f. let r = fails-before ss d j (sorted-cons at x ss h).1 (le_of_suc-le-suc k) e in rw f (omega arith))

  pub place-behind : (n : Name) (x y : S) → in_order (at x) (at y) ≡ true → not_before n x ≡ true → not_before n y ≡ true
  place-behind n x y h e = split (in_order (at y) (some n))
      (λ f. clash (in_order (at x) (some n)) (order_trans (at x) (at y) (some n) h f) (not_true_is (in_order (at x) (some n)) e))
      (λ f. rw f)

  -- ---- free slots: those without a name, and all alike

  module _ (free : S → Bool) (unnamed : (s : S) → free s ≡ true → at s ≡ none) (used : (s : S) → free s ≡ false → at s ≡ none → ⊥) where
    -- a name has a place where a slot is free, and not behind it
    pub room-place : (n : Name) (ss : List S) → place_of n ss ≤ first_index free ss
    room-place n [] = omega arith
    room-place n (x ∷ ss) = split (free x)
        (λ e. let z : in_order (at x) (some n) ≡ false = rw (unnamed x e) in rw (z, e) (omega arith))
        (λ e. split (in_order (at x) (some n)) (λ f. let r = room-place n ss in rw (e, f) (omega arith)) (λ f. rw (e, f) (omega arith)))

    module _ (P : S → Bool) (b : S) (alike : (s : S) → P s ≡ true → at s ≡ none → s ≡ b) where
      all-blank : (ss : List S) → every P ss ≡ true → every free ss ≡ true → ss ≡ replicate (length ss) b
      all-blank [] p f = refl
      all-blank (x ∷ ss) p f =
          let pk = both (P x) (every P ss) p in
          let fk = both (free x) (every free ss) f in
          let e = alike x pk.0 (unnamed x fk.0) in
          let rest = all-blank ss pk.1 fk.1 in
          λ i. e i ∷ rest i

      every-free : (x : S) (ss : List S) → sorted_by at (x ∷ ss) ≡ true → free x ≡ true → every free ss ≡ true
      every-free x [] h e = refl
      every-free x (y ∷ ss) h e =
          let p = sorted-cons at x (y ∷ ss) h in
          let r = both (in_order (at x) (at y)) (front at (at x) ss) p.0 in
          let f = free-behind at free unnamed used x y r.0 e in
          rw (f, every-free y ss p.1 f)

      -- what stands from the first free slot on
      pub blanks : (ss : List S) → every P ss ≡ true → sorted_by at ss ≡ true
          → drop (first_index free ss) ss ≡ replicate (length ss - first_index free ss) b
      blanks [] p h = refl
      blanks (x ∷ ss) p h = split (free x)
          (λ e.
          let z : suc (length ss) - 0 ≡ suc (length ss) = omega arith in
          let f : every free (x ∷ ss) ≡ true = rw (e, every-free x ss h e) in
          rw (e, z) (all-blank (x ∷ ss) p f))
          (λ e.
          let z : suc (length ss) - suc (first_index free ss) ≡ length ss - first_index free ss = omega arith in
          rw (e, z) (blanks ss (both (P x) (every P ss) p).1 (sorted-cons at x ss h).1))

      -- from a slot on that is not behind the first free one
      module _ (ss : List S) (p : every P ss ≡ true) (h : sorted_by at ss ≡ true) (i : ℕ) (low : i ≤ first_index free ss) where
        cut : drop i ss ≡ take (first_index free ss - i) (drop i ss) ++ drop (first_index free ss) ss
        cut =
            let u = first_index free ss in
            let e : i + (u - i) ≡ u = omega arith in
            sym (take-append-drop (u - i) (drop i ss))
            ∙ ap (λ (l : List S). take (u - i) (drop i ss) ++ l) (drop-drop (u - i) i ss ∙ ap (λ (k : ℕ). drop k ss) e)

        module _ (there : first_index free ss < length ss) where
          abbrev left : ℕ
          left = length ss - suc (first_index free ss)

          all : drop (first_index free ss) ss ≡ replicate (suc left) b
          all = let e : length ss - first_index free ss ≡ suc left = omega arith in blanks ss p h ∙ ap (λ (m : ℕ). replicate m b) e

          shorter : drop_last (drop i ss) ≡ take (first_index free ss - i) (drop i ss) ++ replicate left b
          shorter =
              let used = take (first_index free ss - i) (drop i ss) in
              ap drop_last (cut ∙ ap (λ (l : List S). used ++ l) all) ∙ drop_last-replicate used left b

          -- the last one goes, or the first free one
          pub last_goes : drop_last (drop i ss) ≡ take (first_index free ss - i) (drop i ss) ++ drop (suc (first_index free ss)) ss
          last_goes =
              let u = first_index free ss in
              let z : suc u ≡ u + 1 = omega arith in
              let behind : drop (suc u) ss ≡ replicate left b = ap (λ (m : ℕ). drop m ss) z ∙ sym (drop-drop 1 u ss) ∙ ap (λ (l : List S). drop 1 l) all in
              shorter ∙ ap (λ (l : List S). take (u - i) (drop i ss) ++ l) (sym behind)

          -- which is a free one
          pub last-free : drop_last (drop i ss) ++ b ∷ [] ≡ drop i ss
          last-free =
              let used = take (first_index free ss - i) (drop i ss) in
              ap (λ (l : List S). l ++ b ∷ []) shorter
              ∙ append_assoc used (replicate left b) (b ∷ [])
              ∙ ap (λ (l : List S). used ++ l) (replicate-snoc left b ∙ sym all)
              ∙ sym cut

        -- a free one is put behind the last one, or behind the last that is used
        pub free-last : drop i ss ++ b ∷ [] ≡ take (first_index free ss - i) (drop i ss) ++ b ∷ drop (first_index free ss) ss
        free-last =
            let u = first_index free ss in
            let all = blanks ss p h in
            ap (λ (l : List S). l ++ b ∷ []) cut
            ∙ append_assoc (take (u - i) (drop i ss)) (drop u ss) (b ∷ [])
            ∙ ap (λ (l : List S). take (u - i) (drop i ss) ++ l)
            (ap (λ (l : List S). l ++ b ∷ []) all ∙ replicate-snoc (length ss - u) b ∙ ap (λ (l : List S). b ∷ l) (sym all))

-- ---- in bytes

pub join-append : (a b : List (List ℕ)) → join_slots (a ++ b) ≡ join_slots a ++ join_slots b
join-append [] b = refl
join-append (x ∷ a) b = rw (join-append a b) (sym (append_assoc x (join_slots a) (join_slots b)))

pub join-take : (w k i : ℕ) (l : List ℕ) → length l ≡ k * w → i ≤ k → join_slots (take i (chunks w k l)) ≡ take (i * w) l
join-take w k zero l h j = rw zero-mul
join-take w zero (suc i) l h j = absurd (omega arith)
join-take w (suc k) (suc i) l h j =
    let e = h ∙ suc-mul k w in
    let a : suc i * w ≡ w + i * w = suc-mul i w ∙ omega arith in
    rw (a, take-add, join-take w k i (drop w l) (length-drop w l ∙ omega arith) (le_of_suc-le-suc j))

pub join-drop : (w k i : ℕ) (l : List ℕ) → length l ≡ k * w → i ≤ k → join_slots (drop i (chunks w k l)) ≡ drop (i * w) l
join-drop w k zero l h j = rw zero-mul (join-chunks w k l h)
join-drop w zero (suc i) l h j = absurd (omega arith)
join-drop w (suc k) (suc i) l h j =
    let e = h ∙ suc-mul k w in
    let a : suc i * w ≡ w + i * w = suc-mul i w ∙ omega arith in
    rw (a, ← drop-drop) (join-drop w k i (drop w l) (length-drop w l ∙ omega arith) (le_of_suc-le-suc j))
