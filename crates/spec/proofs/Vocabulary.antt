-- The laws that pin the words of the statements.
use mathlib.Core.Path.{◌≡◌, refl, sym, ap, ◌∙◌}
use mathlib.Core.Logic.{◌⊎◌, inl, inr}
use mathlib.Core.Bool.{Bool, true, false, ◌&&◌, ◌||◌}
use mathlib.Core.List.Memᴰ
use mathlib.Core.List.{List, [], ◌∷◌, ◌++◌, flatten, Memᴰ}
use mathlib.Core.Option.{Option, some}
use Prim.Native.Nat.{ℕ, zero, suc, ◌+◌, ◌*◌, ◌≤◌, ◌<◌}
use native.Mathlib.Nat.{not-suc-le-zero, le_of_suc-le-suc, mul-div_cancel}
use native.Mathlib.Omega.{arith}
use borrow.Author.Tests.{eqb-true, eqb-false, leb-true}
use lib.Dec.{eqb, leb}
use lib.ListN.{length, get_or, take, drop}
use Rattle.buffers.specs.Bytes.{every, any}
use Rattle.spec.specs.Status.{status_table, is_listed, refuse_if}
use Rattle.spec.specs.Name.{Name}
use Rattle.spec.specs.Slots.{join_slots, member, dedup, names_by, first_index}
use Rattle.spec.specs.Area.{Format, kv_format, rbp_format, slot_holder, slot_count, slots, names}
use Rattle.spec.specs.Interleaving.{Outcome}
use Rattle.spec.specs.Vocabulary.{TestLaws, DedupLaws, SlotLaws, RunLaws, MergeLaws, Vocabulary}
use Rattle.buffers.proofs.Split.{split, clash, both}
use Rattle.spec.proofs.NameLists.{member_in, in_member, dedup_in}
use Rattle.spec.proofs.Slots.{held, held_at, at_held, member-any}
use Rattle.spec.proofs.First.{any_at, first_below, first_passes}
use Rattle.spec.proofs.Chunks.{slots_length, slot-at, slots-joined}

-- ---- statuses

-- n, n + 1, .., k numbers
abbrev from : ℕ → ℕ → List ℕ
from n zero = []
from n (suc k) = n ∷ from (suc n) k

among : (n k s : ℕ) → n ≤ s → s < n + k → any (eqb s) (from n k) ≡ true
among n zero s h j = absurd (omega arith)
among n (suc k) s h j = split (eqb s n) (λ e. rw e) (λ e. let z = eqb-false s n e in rw e (among (suc n) k s (omega arith) (omega arith)))

any-front : (P : ℕ → Bool) (l m : List ℕ) → any P l ≡ true → any P (l ++ m) ≡ true
any-front P [] m h = clash false h refl
any-front P (n ∷ l) m h = split (P n) (λ e. rw e) (λ e. rw e (any-front P l m (rw e at h)))

any-back : (P : ℕ → Bool) (l m : List ℕ) → any P m ≡ true → any P (l ++ m) ≡ true
any-back P [] m h = h
any-back P (n ∷ l) m h = split (P n) (λ e. rw e) (λ e. rw e (any-back P l m h))

-- a number of a list has what all of the list have
one_of : (P : ℕ → Bool) (s : ℕ) (l : List ℕ) → every P l ≡ true → any (eqb s) l ≡ true → P s ≡ true
one_of P s [] b h = clash false h refl
one_of P s (n ∷ l) b h =
    let p = both (P n) (every P l) b in
    split (eqb s n) (λ e. rw (eqb-true s n e) p.0) (λ e. one_of P s l p.1 (rw e at h))

-- 0 to 14, and what 02 adds
listed-is : (s : ℕ) → is_listed s ≡ true → (s ≤ 14) ⊎ ((19 ≤ s) × (s ≤ 21))
unfolding is_listed
listed-is s h =
    let t = one_of (λ n. leb n 14 || (leb 19 n && leb n 21)) s status_table refl h in
    split (leb s 14) (λ e. inl (leb-true s 14 e))
    (λ e. let b = both (leb 19 s) (leb s 21) (rw e at t) in inr (leb-true 19 s b.0, leb-true s 21 b.1))

is-listed : (s : ℕ) → (s ≤ 14) ⊎ ((19 ≤ s) × (s ≤ 21)) → is_listed s ≡ true
unfolding is_listed
is-listed s (inl h) = any-front (eqb s) (from 0 15) (from 19 3) (among 0 15 s (omega arith) (omega arith))
is-listed s (inr h) = any-back (eqb s) (from 0 15) (from 19 3) (among 19 3 s h.0 (omega (arith, h.1)))

test-laws : TestLaws
unfolding refuse_if
test-laws = record {
  listed = λ s. (listed-is s, is-listed s);
  none_says = refl;
  says = λ n rest. refl;
  passes = λ n rest. refl;
}

module _ {A : Type 0} where
  get_d_in : (l : List A) (i : ℕ) (d : A) → i < length l → Memᴰ (get_or l i d) l
  get_d_in [] i d h = absurd (not-suc-le-zero h)
  get_d_in (x ∷ l) zero d h = Memᴰ.head refl
  get_d_in (x ∷ l) (suc i) d h = Memᴰ.tail (get_d_in l i d (le_of_suc-le-suc h))

-- ---- names

of-dedup : (n : Name) (l : List Name) → Memᴰ n (dedup l) → Memᴰ n l
of-dedup n [] k = k
of-dedup n (m ∷ l) k = split (member m l)
    (λ h. Memᴰ.tail (of-dedup n l (rw h at k)))
    (λ h. elim (Memᴰ.cases_cons (rw h at k)) [ inl e ↦ Memᴰ.head e | inr j ↦ Memᴰ.tail (of-dedup n l j) ])

-- no two places have one name
abbrev Once : List Name → Type 0
Once l = (i j : ℕ) → i < length l → j < length l → get_or l i [] ≡ get_or l j [] → i ≡ j

once-cons : (n : Name) (l : List Name) → ¬ Memᴰ n l → Once l → Once (n ∷ l)
once-cons n l a o zero zero hi hj e = refl
once-cons n l a o zero (suc j) hi hj e = absurd (a (Memᴰ.cast e (get_d_in l j [] (le_of_suc-le-suc hj))))
once-cons n l a o (suc i) zero hi hj e = absurd (a (Memᴰ.cast (sym e) (get_d_in l i [] (le_of_suc-le-suc hi))))
once-cons n l a o (suc i) (suc j) hi hj e = ap suc (o i j (le_of_suc-le-suc hi) (le_of_suc-le-suc hj) e)

dedup-once : (l : List Name) → Once (dedup l)
dedup-once [] = λ i j hi. absurd (not-suc-le-zero hi)
dedup-once (n ∷ l) = split (member n l)
    (λ h. rw h (dedup-once l))
    (λ h. rw h (once-cons n (dedup l) (λ k. clash (member n l) (in_member n l (of-dedup n l k)) h) (dedup-once l)))

dedup-laws : (l : List Name) → DedupLaws l
dedup-laws l = record { same = λ n. (of-dedup n l, dedup_in n l); once = dedup-once l }

-- ---- areas

flatten-join : (ss : List (List ℕ)) → flatten ss ≡ join_slots ss
unfolding flatten
flatten-join [] = refl
flatten-join (s ∷ ss) = ap (λ l. s ++ l) (flatten-join ss)

-- a name among the names is that of an element
module _ {S : Type 0} (at : S → Option Name) (d : S) (n : Name) where
  abbrev At : List S → Type 0
  At ss = (i : ℕ) × (i < length ss) × (at (get_or ss i d) ≡ some n)

  name-at : (ss : List S) → Memᴰ n (names_by at ss) → At ss
  name-at ss m =
      let a = sym (member-any at n ss) ∙ in_member n (names_by at ss) m in
      (first_index (held at n) ss, first_below (held at n) ss a, held_at at n _ (first_passes (held at n) ss d a))

  at_name : (ss : List S) (i : ℕ) → i < length ss → at (get_or ss i d) ≡ some n → Memᴰ n (names_by at ss)
  at_name ss i h e = member_in n (names_by at ss) (member-any at n ss ∙ any_at (held at n) ss d i h (at_held at n _ e))

module _ (F : Format) (positive : 0 < F.slot_size) where
  flattened : (area : List ℕ) (k : ℕ) → length area ≡ k * F.slot_size → flatten (slots F area) ≡ area
  flattened area k h =
      let e : slot_count F area ≡ k = rw h (mul-div_cancel k positive) in
      flatten-join (slots F area) ∙ slots-joined F area (rw e h)

  -- a slot has the name
  abbrev Held : List ℕ → Name → Type 0
  Held area n = (i : ℕ) × (i < slot_count F area) × (slot_holder F (take F.slot_size (drop (i * F.slot_size) area)) ≡ some n)

  held_of : (area : List ℕ) (n : Name) → At (slot_holder F) [] n (slots F area) → Held area n
  held_of area n (i, h, e) = let k = rw (slots_length F area) at h in (i, k, rw (slot-at F area i k) at e)

  of_held : (area : List ℕ) (n : Name) → Held area n → Memᴰ n (names F area)
  of_held area n (i, h, e) = at_name (slot_holder F) [] n (slots F area) i (rw (slots_length F area) h) (rw (slot-at F area i h) e)

  slot_laws : SlotLaws F F.slot_size
  slot_laws = record {
    size = refl;
    count = λ area. refl;
    all = slots_length F;
    bytes = slot-at F;
    joined = flattened;
    held = λ area n. ((λ m. held_of area n (name-at (slot_holder F) [] n (slots F area) m)), of_held area n);
  }

-- ---- runs and merges

module _ {State Call Answer : Type 0} (step : State → Call → Outcome State Answer) where
  run-laws : RunLaws step
  run-laws = record {
    no_answer = λ s. refl;
    next_answer = λ s c cs. refl;
    no_change = λ s. refl;
    next_state = λ s c cs. refl;
    shared_answer = λ s d c. refl;
    shared_state = λ s d c. refl;
  }

merge-laws : (A : Type 0) → MergeLaws A
merge-laws A = record {
  lefts_none = refl;
  lefts_left = λ a l. refl;
  lefts_right = λ a l. refl;
  rights_none = refl;
  rights_left = λ a l. refl;
  rights_right = λ a l. refl;
  merged = λ ls rs l. ((λ m. (m.left, m.right)), (λ h. record { left = h.0; right = h.1 }));
}

pub vocabulary-holds : Vocabulary
vocabulary-holds = record {
  statuses = test-laws;
  distinct_names = dedup-laws;
  both = λ kv rbp. refl;
  contents = λ kv rbp name. refl;
  chunked = λ h staging. refl;
  is_all_zero = refl;
  kv_slots = slot_laws kv_format (omega arith);
  rbp_slots = slot_laws rbp_format (omega arith);
  runs = run-laws;
  merges = merge-laws;
}
