-- The order of byte strings is a strict total order.
use mathlib.Core.Path.{◌≡◌, refl, sym, ap, ◌∙◌}
use mathlib.Core.Logic.{◌≢◌, ◌⊎◌, inl, inr, ⊎_elim}
use mathlib.Core.Bool.{Bool, true, false, ◌&&◌, ◌||◌, or-false}
use mathlib.Core.List.{List, [], ◌∷◌}
use Prim.Native.Nat.{ℕ, zero, suc, ◌+◌, ◌*◌, ◌≤◌, ◌<◌, min}
use native.Mathlib.Nat.{not-suc-le-zero, le_of_suc-le-suc}
use native.Mathlib.Omega.{arith}
use borrow.Author.Tests.{eqb-true, eqb-false, eq-eqb, ne_eqb, ltb-true, ltb-false, lt-ltb, le-ltb}
use lib.Dec.{eqb, ltb}
use lib.ListN.{length, get_or, take, drop, drop_of_length-le}
use lib.Seq.{drop-cons}
use Rattle.buffers.specs.Compare.{precedes}
use Rattle.buffers.specs.Laws.{FirstDifference, OrderLaws}
use Rattle.buffers.proofs.Split.{split, clash, both}

-- one byte: what decides
module _ (x y : ℕ) (a b : List ℕ) where
  pub smaller-first : x < y → precedes (x ∷ a) (y ∷ b) ≡ true
  smaller-first h = rw (lt-ltb x y h)

  pub equal-first : x ≡ y → precedes (x ∷ a) (y ∷ b) ≡ precedes a b
  equal-first h = rw (le-ltb x y (omega arith), eq-eqb x y h)

  -- what a yes says
  pub first_of : precedes (x ∷ a) (y ∷ b) ≡ true → (x < y) ⊎ ((x ≡ y) × (precedes a b ≡ true))
  first_of h = split (ltb x y) (λ e. inl (ltb-true x y e))
      (λ e. let p = both (eqb x y) (precedes a b) (rw e at h) in inr (eqb-true x y p.0, p.1))

pub irreflexive : (a : List ℕ) → precedes a a ≡ false
irreflexive [] = refl
irreflexive (x ∷ a) = equal-first x x a a refl ∙ irreflexive a

pub transitive : (a b c : List ℕ) → precedes a b ≡ true → precedes b c ≡ true → precedes a c ≡ true
transitive a b [] h k = k
transitive a [] (z ∷ c) h k = clash false h refl
transitive [] (y ∷ b) (z ∷ c) h k = refl
transitive (x ∷ a) (y ∷ b) (z ∷ c) h k =
    ⊎_elim
    (λ p. ⊎_elim (λ q. smaller-first x z a c (omega arith)) (λ q. let e = q.0 in smaller-first x z a c (omega arith)) (first_of y z b c k))
    (λ p. let e = p.0 in
    ⊎_elim
    (λ q. smaller-first x z a c (omega arith))
    (λ q. let f = q.0 in equal-first x z a c (omega arith) ∙ transitive a b c p.1 q.1)
    (first_of y z b c k))
    (first_of x y a b h)

pub total : (a b : List ℕ) → (precedes a b ≡ true) ⊎ (a ≡ b) ⊎ (precedes b a ≡ true)
total [] [] = inr (inl refl)
total [] (y ∷ b) = inl refl
total (x ∷ a) [] = inr (inr refl)
total (x ∷ a) (y ∷ b) = split (ltb x y)
    (λ e. inl (rw e))
    (λ e. split (ltb y x)
    (λ f. inr (inr (rw f)))
    (λ f.
    let p = ltb-false x y e in
    let q = ltb-false y x f in
    let z : x ≡ y = omega arith in
    elim (total a b) [
      | inl h ↦ inl (equal-first x y a b z ∙ h)
      | inr k ↦ elim k [ inl h ↦ inr (inl (λ i. z i ∷ h i)) | inr h ↦ inr (inr (equal-first y x b a (sym z) ∙ h)) ]
    ]))

-- ---- two byte strings from place i on, as far as they are equal before it

module _ (a b : List ℕ) (i : ℕ) where
  -- one of them is at its end
  pub ends-left : i ≡ min (length a) (length b) → precedes (drop i a) (drop i b) ≡ ltb (length a) (length b)
  ends-left e = split (ltb (length a) (length b))
      (λ h. let k = ltb-true (length a) (length b) h in rw (h, drop_of_length-le a {i = i} (omega arith), drop-cons b i 0 (omega arith)))
      (λ h. let k = ltb-false (length a) (length b) h in rw (h, drop_of_length-le b {i = i} (omega arith)))

  pub byte_left : i < length a → i < length b → get_or a i 0 ≢ get_or b i 0 → precedes (drop i a) (drop i b) ≡ ltb (get_or a i 0) (get_or b i 0)
  byte_left h k n = rw (drop-cons a i 0 h, drop-cons b i 0 k, ne_eqb (get_or a i 0) (get_or b i 0) n) (or-false (ltb (get_or a i 0) (get_or b i 0)))

  pub bytes_left : i < length a → i < length b → get_or a i 0 ≡ get_or b i 0 → precedes (drop (suc i) a) (drop (suc i) b) ≡ precedes (drop i a) (drop i b)
  bytes_left h k e =
      rw (drop-cons a i 0 h, drop-cons b i 0 k) (sym (equal-first (get_or a i 0) (get_or b i 0) (drop (suc i) a) (drop (suc i) b) e))

-- ---- the same, some bytes at a time, as one number, the first byte highest

abbrev be_at : ℕ → List ℕ → ℕ → ℕ
be_at zero l i = 0
be_at (suc k) l i = be_at k l i * 256 + get_or l (i + k) 0

abbrev be32 : List ℕ → ℕ → ℕ
be32 l i = get_or l i 0 * 0x1000000 + get_or l (i + 1) 0 * 0x10000 + get_or l (i + 2) 0 * 0x100 + get_or l (i + 3) 0

be-four : (l : List ℕ) (i : ℕ) → be32 l i ≡ be_at 4 l i
be-four l i = let e : i + 0 ≡ i = omega arith in rw e (omega arith)

-- one more byte: it decides where the numbers before it are equal
digit-more : (u v x y p q : ℕ) (rest : Bool) → x < 256 → y < 256 → p ≡ u * 256 + x → q ≡ v * 256 + y
    → (ltb u v || (eqb u v && (ltb x y || (eqb x y && rest)))) ≡ (ltb p q || (eqb p q && rest))
digit-more u v x y p q rest hx hy ep eq = split (ltb u v)
    (λ e. let h = ltb-true u v e in rw (e, lt-ltb p q (omega arith)))
    (λ e. split (eqb u v)
    (λ f.
    let h = eqb-true u v f in
    split (ltb x y)
    (λ l. let k = ltb-true x y l in rw (e, f, l, lt-ltb p q (omega arith)))
    (λ l.
    let k = ltb-false x y l in
    split (eqb x y)
    (λ g. let z = eqb-true x y g in rw (e, f, l, g, le-ltb p q (omega arith), eq-eqb p q (omega arith)))
    (λ g. let z = eqb-false x y g in rw (e, f, l, g, le-ltb p q (omega arith), ne_eqb p q (λ n. z (omega arith))))))
    (λ f.
    let h = ltb-false u v e in
    let z = eqb-false u v f in
    rw (e, f, le-ltb p q (omega (arith, z)), ne_eqb p q (λ n. z (omega arith)))))

module _ (a b : List ℕ) (i : ℕ) (fa : (j : ℕ) → get_or a j 0 < 256) (fb : (j : ℕ) → get_or b j 0 < 256) where
  number-left : (k : ℕ) → i + k ≤ length a → i + k ≤ length b
      → precedes (drop i a) (drop i b)
      ≡ (ltb (be_at k a i) (be_at k b i) || (eqb (be_at k a i) (be_at k b i) && precedes (drop (i + k) a) (drop (i + k) b)))
  number-left zero ha hb = let e : i + 0 ≡ i = omega arith in rw e
  number-left (suc k) ha hb =
      let e : i + suc k ≡ suc (i + k) = omega arith in
      let rest = precedes (drop (suc (i + k)) a) (drop (suc (i + k)) b) in
      number-left k (omega arith) (omega arith)
      ∙ rw (e, drop-cons a (i + k) 0 (omega arith), drop-cons b (i + k) 0 (omega arith))
      (digit-more (be_at k a i) (be_at k b i) (get_or a (i + k) 0) (get_or b (i + k) 0) _ _ rest (fa (i + k)) (fb (i + k)) refl refl)

  -- four of each, as the code has their numbers
  module _ (x y : ℕ) (ha : i + 4 ≤ length a) (hb : i + 4 ≤ length b) (ex : x ≡ be32 a i) (ey : y ≡ be32 b i) where
    four-left : precedes (drop i a) (drop i b) ≡ (ltb x y || (eqb x y && precedes (drop (i + 4) a) (drop (i + 4) b)))
    four-left = let e = ex ∙ be-four a i in let f = ey ∙ be-four b i in rw (e, f) (number-left 4 ha hb)

    pub four-differ : x ≢ y → precedes (drop i a) (drop i b) ≡ ltb x y
    four-differ n = four-left ∙ rw (ne_eqb x y n) (or-false (ltb x y))

    pub four_same : x ≡ y → precedes (drop (i + 4) a) (drop (i + 4) b) ≡ precedes (drop i a) (drop i b)
    four_same e = sym (four-left ∙ rw (le-ltb x y (omega arith), eq-eqb x y e))

-- ---- the order, byte by byte

first-difference : (a b : List ℕ) → precedes a b ≡ true → FirstDifference a b
first-difference a [] h = clash false h refl
first-difference [] (y ∷ b) h = record { i = 0; in_range = omega arith; same = refl; smaller = inl refl }
first-difference (x ∷ a) (y ∷ b) h =
    ⊎_elim
    (λ p. record { i = 0; in_range = omega arith; same = refl; smaller = inr (omega arith, p) })
    (λ p.
    let d = first-difference a b p.1 in
    let r = d.in_range in
    record {
      i = suc d.i;
      in_range = omega arith;
      same = λ j. p.0 j ∷ d.same j;
      smaller = elim d.smaller [ inl e ↦ inl (ap suc e) | inr e ↦ inr (let l = e.0 in omega arith, e.1) ];
    })
    (first_of x y a b h)

of-difference : (i : ℕ) (a b : List ℕ) → i < length b → take i a ≡ take i b
    → (i ≡ length a) ⊎ ((i < length a) × (get_or a i 0 < get_or b i 0)) → precedes a b ≡ true
of-difference i a [] h s d = absurd (not-suc-le-zero h)
of-difference zero [] (y ∷ b) h s d = refl
of-difference (suc i) [] (y ∷ b) h s d = refl
of-difference zero (x ∷ a) (y ∷ b) h s d = elim d [ inl e ↦ absurd (omega arith) | inr e ↦ smaller-first x y a b e.1 ]
of-difference (suc i) (x ∷ a) (y ∷ b) h s d =
    let z : x ≡ y = ap (λ l. get_or l 0 0) s in
    let t : take i a ≡ take i b = ap (λ l. drop 1 l) s in
    equal-first x y a b z ∙ of-difference i a b (le_of_suc-le-suc h) t (elim d [ inl e ↦ inl (omega arith) | inr e ↦ inr (let l = e.0 in omega arith, e.1) ])

pub order-laws : OrderLaws
order-laws = record {
  exact = λ a b. (first-difference a b, λ d. of-difference d.i a b d.in_range d.same d.smaller);
  irreflexive = irreflexive;
  transitive = transitive;
  total = total;
}
