-- The names of mixes on a card and the slots that they use; what the tests of all records come to. Assumes nothing.
use mathlib.Core.Path.{◌≡◌, refl, sym, ap, ◌∙◌}
use mathlib.Core.Logic.{◌≢◌, inl, inr}
use mathlib.Core.Bool.{Bool, true, false, not, ◌&&◌}
use mathlib.Core.List.Memᴰ
use mathlib.Core.List.{List, [], ◌∷◌, flatten, Memᴰ}
use mathlib.Core.Option.{Option, some}
use Prim.Native.Nat.{ℕ, zero, suc, ◌≤◌, ◌<◌}
use native.Mathlib.Nat.{not-suc-le-zero, le_of_suc-le-suc}
use native.Mathlib.Omega.{arith}
use lib.ListN.{length, get_or}
use Rattle.spec.specs.Status.{ok, Test, first_of}
use Rattle.spec.specs.Name.{Name}
use Rattle.spec.specs.Slots.{is_name, member, names_by}
use Rattle.spec.specs.Area.{kv_format, slot_holder, slots, names, intact}
use Rattle.buffers.proofs.Split.{split, split_o, clash, both, not_true_is}
use Rattle.buffers.proofs.Bytes.{bytes_eq-eq, eq-bytes_eq}
use Rattle.spec.proofs.Chunks.{slots_length, slot-at}
use Rattle.spec.proofs.NameLists.{member_in, in_member}
use Rattle.spec.proofs.Status.{by-status}
use Rattle.spec.proofs.Slots.{at_held, find-any, Distinct, member-any}
use Rattle.spec.proofs.Area.{intact-distinct}
use Rattle.spec.proofs.Intact.{no-name-twice}
use Rattle.mix.specs.Calls.{mix_named, mix_prefix, selected, mix_names}
use Rattle.mix.specs.Laws.{MixName, MixAt}
use Rattle.mix.proofs.Scan.{names_in, is_no_mix, a-mix, slot-of, record_status, records, record-stops, record-passes}

-- ---- names that pass a test

pub selected_in : (t : Name → Bool) (l : List Name) (n : Name) → Memᴰ n (selected t l) → Memᴰ n l × (t n ≡ true)
selected_in t [] n h = absurd (Memᴰ.not-nil h)
selected_in t (m ∷ l) n h = split (t m)
    (λ e. elim (Memᴰ.cases_cons (rw e at h)) [
      | inl z ↦ (Memᴰ.head z, rw z e)
      | inr k ↦ let r = selected_in t l n k in (Memᴰ.tail r.0, r.1)
    ])
    (λ e. let r = selected_in t l n (rw e at h) in (Memᴰ.tail r.0, r.1))

pub in_selected : (t : Name → Bool) (l : List Name) (n : Name) → Memᴰ n l → t n ≡ true → Memᴰ n (selected t l)
in_selected t [] n x h = elim x [ ]
in_selected t (m ∷ l) n (Memᴰ.head z) h = rw (rw z at h) (Memᴰ.head z)
in_selected t (m ∷ l) n (Memᴰ.tail k) h = split (t m)
    (λ e. rw e (Memᴰ.tail (in_selected t l n k h)))
    (λ e. rw e (in_selected t l n k h))

-- no name twice
abbrev pub distinct : List Name → Bool
distinct [] = true
distinct (n ∷ l) = not (member n l) && distinct l

distinct_names : {S : Type 0} (at : S → Option Name) (ss : List S) → Distinct at ss → distinct (names_by at ss) ≡ true
distinct_names at [] d = refl
distinct_names at (s ∷ ss) d = split_o (at s) (λ e. rw e (distinct_names at ss d.1)) (λ m e.
    let gone : member m (names_by at ss) ≡ false = member-any at m ss ∙ sym (find-any (λ x. is_name m (at x)) ss) ∙ rw (d.0 m (at_held at m s e)) in
    rw (e, gone, distinct_names at ss d.1))

pub distinct-selected : (t : Name → Bool) (l : List Name) → distinct l ≡ true → distinct (selected t l) ≡ true
distinct-selected t [] h = refl
distinct-selected t (m ∷ l) h =
    let k = both (not (member m l)) (distinct l) h in
    let r = distinct-selected t l k.1 in
    let absent : member m (selected t l) ≡ false = split (member m (selected t l))
    (λ e. clash (member m l) (in_member m l (selected_in t l m (member_in m (selected t l) e)).0) (not_true_is (member m l) k.0))
    (λ e. e) in
    split (t m) (λ e. rw (e, absent) r) (λ e. rw e r)

-- two names in a list, and a list of one
pub two_in : (l : List Name) (a b : Name) → Memᴰ a l → Memᴰ b l → a ≢ b → 2 ≤ length l
two_in [] a b j k h = elim j [ ]
two_in (x ∷ []) a b (Memᴰ.head p) (Memᴰ.head q) h = absurd (h (p ∙ sym q))
two_in (x ∷ []) a b (Memᴰ.tail p) k h = absurd (Memᴰ.not-nil p)
two_in (x ∷ []) a b (Memᴰ.head p) (Memᴰ.tail q) h = absurd (Memᴰ.not-nil q)
two_in (x ∷ y ∷ l) a b j k h = omega arith

-- ---- the slot of a name

pub mix-name : (n : Name) → mix_named n ≡ true → MixName n
mix-name n h = sym (bytes_eq-eq mix_prefix _ h)

pub name-mix : (n : Name) → MixName n → mix_named n ≡ true
name-mix n h = eq-bytes_eq mix_prefix _ (sym h)

record Place (ss : List (List ℕ)) (n : Name) : Type 0 where
  pub i : ℕ
  pub below : i < length ss
  pub held : slot_holder kv_format (get_or ss i []) ≡ some n
  pub named : mix_named n ≡ true

behind : (slot : List ℕ) (ss : List (List ℕ)) (n : Name) → Place ss n → Place (slot ∷ ss) n
behind slot ss n p = record { i = suc p.i; below = omega (arith, p.below); held = p.held; named = p.named }

place_of : (ss : List (List ℕ)) (n : Name) → Memᴰ n (names_in ss) → Place ss n
place_of [] n h = absurd (Memᴰ.not-nil h)
place_of (slot ∷ ss) n h = elim (slot-of slot) [
  | is_no_mix e p ↦ behind slot ss n (place_of ss n (rw (e ss) at h))
  | a-mix m e k f p ↦ elim (Memᴰ.cases_cons (rw (f ss) at h)) [
    | inl z ↦ record { i = 0; below = omega arith; held = rw z e; named = rw z k }
    | inr r ↦ behind slot ss n (place_of ss n r)
  ]
]

of-place : (ss : List (List ℕ)) (i : ℕ) (n : Name) → i < length ss → slot_holder kv_format (get_or ss i []) ≡ some n → mix_named n ≡ true
    → Memᴰ n (names_in ss)
of-place [] i n l e h = absurd (not-suc-le-zero l)
of-place (slot ∷ ss) zero n l e h = rw (e, h) (Memᴰ.head refl)
of-place (slot ∷ ss) (suc i) n l e h = elim (slot-of slot) [
  | is_no_mix f p ↦ rw (f ss) (of-place ss i n (le_of_suc-le-suc l) e h)
  | a-mix m d k f p ↦ rw (f ss) (Memᴰ.tail (of-place ss i n (le_of_suc-le-suc l) e h))
]

module _ (kv : List ℕ) where
  pub name-at : (n : Name) → Memᴰ n (mix_names kv) → (i : ℕ) × MixAt kv i n
  name-at n h =
      let p = place_of (slots kv_format kv) n h in
      (p.i, record { in_range = rw (slots_length kv_format kv) at p.below; held = p.held; prefixed = mix-name n p.named })

  pub at_name : (i : ℕ) (n : Name) → MixAt kv i n → Memᴰ n (mix_names kv)
  at_name i n a = of-place (slots kv_format kv) i n (rw (slots_length kv_format kv) a.in_range) a.held (name-mix n a.prefixed)

  module _ (good : intact kv_format kv ≡ true) where
    pub names-distinct : distinct (mix_names kv) ≡ true
    names-distinct =
        distinct-selected mix_named (names kv_format kv) (distinct_names (slot_holder kv_format) (slots kv_format kv) (intact-distinct kv_format kv good))

    -- no name uses two slots
    pub one_place : (i j : ℕ) (n : Name) → MixAt kv i n → MixAt kv j n → i ≡ j
    one_place i j n a b =
        no-name-twice kv_format kv good i j n a.in_range b.in_range
        (rw (slot-at kv_format kv i a.in_range) at a.held) (rw (slot-at kv_format kv j b.in_range) at b.held)

-- ---- the tests of all records

module _ (kv rbp key : List ℕ) (m : List Test) where
  pub past-records : (ns : List Name) → ((n : Name) → Memᴰ n ns → record_status kv rbp key n ≡ ok) → first_of (records kv rbp key m ns) ≡ first_of m
  unfolding flatten
  past-records [] h = refl
  past-records (n ∷ ns) h = record-passes kv rbp key m n ns (h n (Memᴰ.head refl)) ∙ past-records ns (λ k i. h k (Memᴰ.tail i))

  pub each-record : (ns : List Name) → first_of (records kv rbp key m ns) ≡ ok → (n : Name) → Memᴰ n ns → record_status kv rbp key n ≡ ok
  each-record [] h n i = absurd (Memᴰ.not-nil i)
  each-record (x ∷ ns) h n i = by-status (record_status kv rbp key x)
      (λ e.
      let r = sym (record-passes kv rbp key m x ns e) ∙ h in
      elim (Memᴰ.cases_cons i) [ inl z ↦ ap (record_status kv rbp key) z ∙ e | inr k ↦ each-record ns r n k ])
      (λ e. absurd (e (sym (record-stops kv rbp key m x ns e) ∙ h)))

  -- the lowest slot whose record is not accepted decides
  pub first-refused : (ss : List (List ℕ)) (i : ℕ) (n : Name) → i < length ss → slot_holder kv_format (get_or ss i []) ≡ some n → mix_named n ≡ true
      → ((j : ℕ) (k : Name) → j < i → slot_holder kv_format (get_or ss j []) ≡ some k → mix_named k ≡ true → record_status kv rbp key k ≡ ok)
      → record_status kv rbp key n ≢ ok → first_of (records kv rbp key m (names_in ss)) ≡ record_status kv rbp key n
  first-refused [] i n l e h below x = absurd (not-suc-le-zero l)
  first-refused (slot ∷ ss) zero n l e h below x = rw (e, h) (record-stops kv rbp key m n (names_in ss) x)
  first-refused (slot ∷ ss) (suc i) n l e h below x =
      let rest = first-refused ss i n (le_of_suc-le-suc l) e h (λ j k z. below (suc j) k (omega arith)) x in
      elim (slot-of slot) [
        | is_no_mix f p ↦ rw (f ss) rest
        | a-mix k d o f p ↦ rw (f ss) (record-passes kv rbp key m k (names_in ss) (below 0 k (omega arith) d o) ∙ rest)
      ]
