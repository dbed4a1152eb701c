-- A block of slots moved within an area, in bytes and in slots.
use mathlib.Core.Path.{◌≡◌, sym, ap, ◌∙◌}
use mathlib.Core.List.{List, [], ◌∷◌, ◌++◌, append_assoc, append-nil}
use Prim.Native.Nat.{ℕ, zero, suc, ◌+◌, ◌-◌, ◌*◌, ◌≤◌}
use native.Mathlib.Nat.{suc-mul, zero-mul, add-mul, le_of_suc-le-suc, mul-le-mul_right}
use native.Mathlib.Omega.{arith}
use lib.ListN.{length, take, drop, length-append, length-take, length-drop, drop_of_length-le}
use lib.Seq.{drop-drop, take-take, take-add, take-append_seam, drop_at, length-take-le}
use Rattle.buffers.specs.Bytes.{zeros}
use Rattle.spec.specs.Slots.{chunks, join_slots}
use Rattle.spec.proofs.SortedIndex.{join-append, join-take, join-drop}

drop-chunks : (w k i : ℕ) (l : List ℕ) → i ≤ k → drop i (chunks w k l) ≡ chunks w (k - i) (drop (i * w) l)
drop-chunks w k zero l h = let e : k - 0 ≡ k = omega arith in rw (zero-mul, e)
drop-chunks w zero (suc i) l h = absurd (omega arith)
drop-chunks w (suc k) (suc i) l h =
    let a : suc i * w ≡ w + i * w = suc-mul i w ∙ omega arith in
    let e : suc k - suc i ≡ k - i = omega arith in
    rw (a, e, ← drop-drop) (drop-chunks w k i (drop w l) (le_of_suc-le-suc h))

-- m slots from slot i on
join-part : (w k i m : ℕ) (l : List ℕ) → length l ≡ k * w → i + m ≤ k → join_slots (take m (drop i (chunks w k l))) ≡ take (m * w) (drop (i * w) l)
join-part w k i m l h j =
    let e : k ≡ i + (k - i) = omega arith in
    let a : k * w ≡ i * w + (k - i) * w = ap (λ (x : ℕ). x * w) e ∙ add-mul i (k - i) w in
    rw (drop-chunks w k i l (omega arith)) (join-take w (k - i) m (drop (i * w) l) (length-drop (i * w) l ∙ omega arith) (omega arith))

drop-take : (n m : ℕ) (l : List ℕ) → n ≤ length l → drop n (take (n + m) l) ≡ take m (drop n l)
drop-take n m l h = rw take-add (drop_at (take n l) (take m (drop n l)) n (length-take-le n l h))

-- The slots from i to e, which are m and one more, in an area of k.
module _ (w k : ℕ) (l : List ℕ) (h : length l ≡ k * w) (i m e : ℕ) (z : e ≡ suc (i + m)) (j : e ≤ k) where
  width : e * w ≡ i * w + m * w + w
  width = ap (λ (x : ℕ). x * w) z ∙ suc-mul (i + m) w ∙ ap (λ (x : ℕ). x + w) (add-mul i m w)

  ends : e * w ≤ length l
  ends = let a = mul-le-mul_right w j in omega arith

  block-length : length (take (e * w - i * w) (drop (i * w) l)) ≡ m * w + w
  block-length = let a = width in let b = ends in rw (length-take, length-drop) (omega arith)

  behind : drop (e * w - i * w) (drop (i * w) l) ≡ drop (e * w) l
  behind = let a = width in let c : i * w + (e * w - i * w) ≡ e * w = omega arith in drop-drop (e * w - i * w) (i * w) l ∙ ap (λ (x : ℕ). drop x l) c

  -- one slot on, with q in front, and the last one gone
  pub moved_on : (q : List ℕ)
      → take (i * w) l ++ ((q ++ take (length (take (e * w - i * w) (drop (i * w) l)) - w) (take (e * w - i * w) (drop (i * w) l)))
      ++ drop (e * w - i * w) (drop (i * w) l))
      ≡ join_slots (take i (chunks w k l) ++ q ∷ (take m (drop i (chunks w k l)) ++ drop e (chunks w k l)))
  moved_on q =
      let ss = chunks w k l in
      let a = width in
      let n : length (take (e * w - i * w) (drop (i * w) l)) - w ≡ m * w = rw block-length (omega arith) in
      let kept : take (m * w) (take (e * w - i * w) (drop (i * w) l)) ≡ take (m * w) (drop (i * w) l) =
      take-take (m * w) (e * w - i * w) (drop (i * w) l) (omega arith) in
      let parts : join_slots (take i ss ++ q ∷ (take m (drop i ss) ++ drop e ss)) ≡ take (i * w) l ++ (q ++ (take (m * w) (drop (i * w) l) ++ drop (e * w) l)) =
      join-append (take i ss) (q ∷ (take m (drop i ss) ++ drop e ss))
      ∙ rw (
        join-append (take m (drop i ss)) (drop e ss),
        join-take w k i l h (omega arith),
        join-part w k i m l h (omega arith),
        join-drop w k e l h j,
      ) in
      rw (n, kept, behind, append_assoc q (take (m * w) (drop (i * w) l)) (drop (e * w) l)) (sym parts)

  -- one slot back, the first one gone, with q behind
  pub moved_back : (q : List ℕ)
      → take (i * w) l ++ ((drop w (take (e * w - i * w) (drop (i * w) l)) ++ q) ++ drop (e * w - i * w) (drop (i * w) l))
      ≡ join_slots (take i (chunks w k l) ++ (take m (drop (suc i) (chunks w k l)) ++ q ∷ drop e (chunks w k l)))
  moved_back q =
      let ss = chunks w k l in
      let a = width in
      let b = ends in
      let n : e * w - i * w ≡ w + m * w = omega arith in
      let s : suc i * w ≡ i * w + w = suc-mul i w in
      let kept : drop w (take (e * w - i * w) (drop (i * w) l)) ≡ take (m * w) (drop (suc i * w) l) =
      ap (λ (x : ℕ). drop w (take x (drop (i * w) l))) n
      ∙ drop-take w (m * w) (drop (i * w) l) (rw length-drop (omega arith))
      ∙ ap (take (m * w)) (drop-drop w (i * w) l ∙ ap (λ (x : ℕ). drop x l) (sym s)) in
      let parts : join_slots (take i ss ++ (take m (drop (suc i) ss) ++ q ∷ drop e ss))
      ≡ take (i * w) l ++ (take (m * w) (drop (suc i * w) l) ++ (q ++ drop (e * w) l)) =
      join-append (take i ss) (take m (drop (suc i) ss) ++ q ∷ drop e ss)
      ∙ rw (
        join-append (take m (drop (suc i) ss)) (q ∷ drop e ss),
        join-take w k i l h (omega arith),
        join-part w k (suc i) m l h (omega arith),
        join-drop w k e l h j,
      ) in
      rw (kept, behind, append_assoc (take (m * w) (drop (suc i * w) l)) q (drop (e * w) l)) (sym parts)

-- ---- a part whose slots were moved

module _ (w : ℕ) (d : List ℕ) (h : w ≤ length d) where
  -- a new slot over the first one
  pub over_first : (q part : List ℕ) (v : ℕ) → v ≡ w → part ≡ take w d ++ take (length d - w) d
      → q ++ drop (v - 0) (drop 0 part) ≡ q ++ take (length d - w) d
  over_first q part v e p =
      let z : v - 0 ≡ w = omega arith in
      ap (λ (t : List ℕ). q ++ t) (rw (z, p) (drop_at (take w d) (take (length d - w) d) w (length-take-le w d h)))

  -- a free one over the last one
  pub over_last : (q part : List ℕ) (v : ℕ) → v ≡ w → part ≡ drop w d ++ drop (length d - w) d
      → q ≡ zeros (length (take (length part - (length part - v)) (drop (length part - v) part)))
      → take (length part - v) part ++ (q ++ drop (length part - (length part - v)) (drop (length part - v) part)) ≡ drop w d ++ zeros w
  over_last q part v e p c =
      let n = length-drop w d in
      let m = length-drop (length d - w) d in
      let long : length part ≡ length d = ap length p ∙ length-append (drop w d) (drop (length d - w) d) ∙ omega arith in
      let z : length part - v ≡ length (drop w d) = omega arith in
      let front : take (length part - v) part ≡ drop w d = rw z (rw p (take-append_seam (drop w d) (drop (length d - w) d))) in
      let none : drop (length part - (length part - v)) (drop (length part - v) part) ≡ [] =
      drop_of_length-le (drop (length part - v) part) {i = length part - (length part - v)} (rw length-drop (omega arith)) in
      let wide : length (take (length part - (length part - v)) (drop (length part - v) part)) ≡ w = rw (length-take, length-drop) (omega arith) in
      rw (front, none, append-nil q) (ap (λ (t : List ℕ). drop w d ++ t) (c ∙ ap zeros wide))
