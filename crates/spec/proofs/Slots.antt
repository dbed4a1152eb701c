-- The laws of a list of slots, each free or held by a name: nothing here depends on how a slot is written.
use mathlib.Core.Path.{◌≡◌, refl, sym, ap, ◌∙◌}
use mathlib.Core.Logic.{◌≢◌}
use mathlib.Core.Bool.{Bool, true, false}
use mathlib.Core.List.{List, [], ◌∷◌, Memᴰ}
use mathlib.Core.Option.{Option, none, some}
use Prim.Native.Nat.{suc, ◌≤◌, ◌<◌}
use native.Mathlib.Omega.{arith}
use lib.ListN.{length}
use Rattle.buffers.specs.Bytes.{any, is_some}
use Rattle.spec.specs.Name.{Name}
use Rattle.spec.specs.Slots.{find_first, is_name, member, names_by}
use Rattle.buffers.proofs.Split.{split, split_o, clash, clash_o}
use Rattle.buffers.proofs.Bytes.{bytes_eq-eq, bytes_eq-refl}
use Rattle.spec.proofs.NameLists.{member_in}

module _ {S : Type 0} where
  pub find-any : (t : S → Bool) (ss : List S) → is_some (find_first t ss) ≡ any t ss
  find-any t [] = refl
  find-any t (s ∷ ss) = split (t s) (λ e. simp e) (λ e. simp (e, find-any t ss))

  -- where the first does not pass, and the rest has none that does
  pub find-none-cons : (t : S → Bool) (s : S) (ss : List S) → find_first t (s ∷ ss) ≡ none → (t s ≡ false) × (find_first t ss ≡ none)
  find-none-cons t s ss h = split (t s) (λ e. clash_o (some s) (simp e at h) refl) (λ e. (e, simp e at h))

-- a list without one of its elements
module _ {A : Type 0} where
  without : {a : A} (l : List A) → Memᴰ a l → List A
  without {a = a} [] m = elim m [ ]
  without (x ∷ xs) (Memᴰ.head e) = xs
  without (x ∷ xs) (Memᴰ.tail m) = x ∷ without xs m

  length_without : {a : A} (l : List A) (m : Memᴰ a l) → length l ≡ suc (length (without l m))
  unfolding without
  length_without {a = a} [] m = elim m [ ]
  length_without (x ∷ xs) (Memᴰ.head e) = refl
  length_without (x ∷ xs) (Memᴰ.tail m) = ap suc (length_without xs m)

  still : {a b : A} (l : List A) (m : Memᴰ a l) → b ≢ a → Memᴰ b l → Memᴰ b (without l m)
  unfolding without
  still {a = a} {b = b} [] m h k = elim m [ ]
  still (x ∷ xs) (Memᴰ.head e) h (Memᴰ.head f) = absurd (h (f ∙ sym e))
  still (x ∷ xs) (Memᴰ.head e) h (Memᴰ.tail k) = k
  still (x ∷ xs) (Memᴰ.tail m) h (Memᴰ.head f) = Memᴰ.head f
  still (x ∷ xs) (Memᴰ.tail m) h (Memᴰ.tail k) = Memᴰ.tail (still xs m h k)

module _ {S : Type 0} (at : S → Option Name) where
  -- the test that a slot is held by a name
  abbrev pub held : Name → S → Bool
  held n s = is_name n (at s)

  pub held_at : (n : Name) (s : S) → held n s ≡ true → at s ≡ some n
  held_at n s h = split_o (at s) (λ e. clash (held n s) h (simp e)) (λ m e. rw (bytes_eq-eq n m (simp e at h)) e)

  pub at_held : (n : Name) (s : S) → at s ≡ some n → held n s ≡ true
  at_held n s e = rw e (bytes_eq-refl n)

  pub one_name : (n m : Name) (s : S) → held n s ≡ true → held m s ≡ true → n ≡ m
  one_name n m s h k = let a = held_at n s h in let b = held_at m s k in cc

  pub not-held : (n : Name) (s : S) (m : Name) → held m s ≡ true → n ≢ m → held n s ≡ false
  not-held n s m h k = split (held n s) (λ e. absurd (k (one_name n m s e h))) (λ e. e)

  -- no slot has the name
  abbrev pub Absent : Name → List S → Type 0
  Absent n ss = find_first (held n) ss ≡ none

  -- No two slots have one name.
  abbrev pub Distinct : List S → Type 0
  Distinct [] = Unit {0}
  Distinct (s ∷ ss) = ((n : Name) → held n s ≡ true → Absent n ss) × Distinct ss

  -- A name that is found is among the names.
  pub member-any : (n : Name) (ss : List S) → member n (names_by at ss) ≡ any (held n) ss
  member-any n [] = refl
  member-any n (s ∷ ss) = split_o (at s) (λ e. simp (e, member-any n ss)) (λ m e. simp (e, member-any n ss))

  member-find : (n : Name) (ss : List S) → member n (names_by at ss) ≡ is_some (find_first (held n) ss)
  member-find n ss = member-any n ss ∙ sym (find-any (held n) ss)

  pub find_in : (n : Name) (ss : List S) (r : S) → find_first (held n) ss ≡ some r → Memᴰ n (names_by at ss)
  find_in n ss r h = member_in n (names_by at ss) (member-find n ss ∙ ap is_some h)

  -- The names in use are all in the list u.
  abbrev pub Within : List Name → List S → Type 0
  Within u ss = (m : Name) (r : S) → find_first (held m) ss ≡ some r → Memᴰ m u

  -- Pigeonhole, for a test that every slot without a name passes.
  module _ (free : S → Bool) (used : (s : S) → free s ≡ false → at s ≡ none → ⊥) where
    -- A full list with distinct names of u, and one more of u in no slot: u is longer than the list.
    tight : (n : Name) (ss : List S) (u : List Name) → any free ss ≡ false → Distinct ss → Within u ss → Absent n ss → Memᴰ n u
        → length ss < length u
    tight n [] u f d w a i = omega (arith, length_without u i)
    tight n (s ∷ ss) u f d w a i = split (free s) (λ e. clash true refl (simp e at f)) (λ x. split_o (at s) (λ e. absurd (used s x e)) (λ m e.
        let k = at_held m s e in
        let j = w m s (simp k) in
        let other : (x : Name) (r : S) → find_first (held x) ss ≡ some r → x ≢ m = λ x r h z. clash_o (find_first (held m) ss) (d.0 m k) (rw z at h) in
        let w' : Within (without u j) ss = λ x r h. still u j (other x r h) (w x r (rw (not-held x s m k (other x r h)) h)) in
        let c = find-none-cons (held n) s ss a in
        let i' = still u j (λ (z : n ≡ m). clash (held m s) k (rw z at c.0)) i in
        let ih = tight n ss (without u j) (simp x at f) d.1 w' c.1 i' in
        omega (arith, length_without u j)))

    pub room : (n : Name) (ss : List S) (u : List Name) → Distinct ss → Within u ss → Memᴰ n u → length u ≤ length ss → Absent n ss
        → any free ss ≡ true
    room n ss u d w i l a = split (any free ss) (λ e. e) (λ e. let t = tight n ss u e d w a i in absurd (omega arith))
