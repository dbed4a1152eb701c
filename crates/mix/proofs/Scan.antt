-- The search over the slots of a card is the search over its names of mixes. Assumes nothing.
use mathlib.Core.Path.{◌≡◌, refl, sym, ap, ◌∙◌}
use mathlib.Core.Logic.{◌≢◌}
use mathlib.Core.Bool.{Bool, true, false, not}
use mathlib.Core.List.{List, [], ◌∷◌, ◌++◌, map, flatten, append_assoc}
use mathlib.Core.Option.{none, some}
use Prim.Native.Nat.{ℕ, suc, ◌+◌, ◌≤◌, ◌<◌}
use native.Mathlib.Omega.{arith}
use borrow.Author.Tests.{eqb-true, eqb-false, ne_eqb, le-leb}
use lib.Dec.{eqb, leb}
use lib.ListN.{length, get_or}
use Rattle.spec.specs.Status.{ok, is_ok, Test, ◌when◌, refuse_if, first_of, on_ok}
use Rattle.spec.specs.Name.{Name}
use Rattle.spec.specs.Slots.{names_by}
use Rattle.spec.specs.Area.{kv_format, slot_free, slot_name, slot_used, slot_valid, slot_holder, slot_count, slots, intact}
use Rattle.spec.specs.Calls.{slot_has_prefix}
use Rattle.buffers.proofs.Split.{split, split_o, clash_o}
use Rattle.spec.proofs.Chunks.{slots_length}
use Rattle.spec.proofs.First.{every-index}
use Rattle.spec.proofs.Area.{intact-valid}
use Rattle.spec.proofs.Status.{got-ok, Passed, passed, past, stops}
use Rattle.mix.specs.Mix.{session_at, mix_valid}
use Rattle.mix.specs.Calls.{mix_prefix, mix_named, selected, first_name, mix_names, mix_record, mix_data, record_tests, holders}
use Rattle.mix.specs.Search.{Seen, seen_on, one_more, advanced, search_status, try_record, try_slot, scan}
use Rattle.mix.specs.declared.find.Matches.{Matches}
use Rattle.mix.specs.declared.find.Matches.TheVariants.{Zero, One}

-- the names of mixes in slots
abbrev pub names_in : List (List ℕ) → List Name
names_in ss = selected mix_named (names_by (slot_holder kv_format) ss)

-- a slot counts where a name of a mix uses it
pub data SlotOf (slot : List ℕ) : Type 0 where
  is_no_mix : ((ss : List (List ℕ)) → names_in (slot ∷ ss) ≡ names_in ss) → slot_has_prefix mix_prefix slot ≡ false → SlotOf slot
  a-mix : (n : Name) → slot_holder kv_format slot ≡ some n → mix_named n ≡ true → ((ss : List (List ℕ)) → names_in (slot ∷ ss) ≡ n ∷ names_in ss)
      → slot_has_prefix mix_prefix slot ≡ true → SlotOf slot

pub slot-of : (slot : List ℕ) → SlotOf slot
slot-of slot = split_o (slot_holder kv_format slot) (λ e. is_no_mix (λ ss. rw e) (rw e))
    (λ n e. split (mix_named n) (λ h. a-mix n e h (λ ss. rw (e, h)) (rw (e, h))) (λ h. is_no_mix (λ ss. rw (e, h)) (rw (e, h))))

holder_name : (slot : List ℕ) (n : Name) → slot_holder kv_format slot ≡ some n → (slot_free slot ≡ false) × (slot_name kv_format slot ≡ n)
unfolding slot_holder
holder_name slot n h = split (slot_free slot) (λ e. clash_o none refl (rw e at h)) (λ e. (e, let k = rw e at h in cc))

module _ (kv rbp key : List ℕ) where
  abbrev pub record_status : Name → ℕ
  record_status n = first_of (record_tests kv rbp key n)

  pub record-passed : (n : Name) → record_status n ≡ ok → Passed (record_tests kv rbp key n)
  record-passed n h =
      let a = got-ok (mix_record kv rbp key n).status _ h in
      let b = passed (not (mix_valid (mix_data kv rbp key n))) 20 ok (omega arith) a.1 in
      (rw a.0, (b.0, tt))

  -- the tests of records, and others behind them
  module _ (m : List Test) where
    abbrev pub records : List Name → List Test
    records ns = flatten (map (record_tests kv rbp key) ns) ++ m

    pub record-stops : (n : Name) (ns : List Name) → record_status n ≢ ok → first_of (records (n ∷ ns)) ≡ record_status n
    unfolding flatten refuse_if
    record-stops n ns h =
        let t = record_tests kv rbp key n in
        let r = flatten (map (record_tests kv rbp key) ns) in
        ap first_of (append_assoc t r m) ∙ stops t (r ++ m) h

    pub record-passes : (n : Name) (ns : List Name) → record_status n ≡ ok → first_of (records (n ∷ ns)) ≡ first_of (records ns)
    unfolding flatten refuse_if
    record-passes n ns h =
        let t = record_tests kv rbp key n in
        let r = flatten (map (record_tests kv rbp key) ns) in
        ap first_of (append_assoc t r m) ∙ past t (r ++ m) (record-passed n h)

  module _ (session : ℕ) where
    abbrev own : Name → Bool
    own n = eqb (session_at (mix_data kv rbp key n)) session

    abbrev pub holders_in : List (List ℕ) → List Name
    holders_in ss = selected own (names_in ss)

    abbrev try : ℕ → List ℕ → Matches → Seen
    try i slot seen = try_slot kv rbp key session i slot seen

    abbrev pub scanned : ℕ → List (List ℕ) → Matches → Seen
    scanned i ss seen = scan kv rbp key session i ss seen

    -- one slot more: a refusal ends the scan, and else the rest is scanned
    pub scan-stops : (i : ℕ) (slot : List ℕ) (ss : List (List ℕ)) (seen : Matches) (n : ℕ) → n ≢ ok
        → record { status = n; seen = Zero } ≡ try i slot seen → record { status = n; seen = Zero } ≡ scanned i (slot ∷ ss) seen
    scan-stops i slot ss seen n h t = rw (sym t, ne_eqb n ok h)

    pub scan-on : (i : ℕ) (slot : List ℕ) (ss : List (List ℕ)) (seen next : Matches) → seen_on next ≡ try i slot seen
        → scanned (suc i) ss next ≡ scanned i (slot ∷ ss) seen
    scan-on i slot ss seen next t = rw (sym t)

    -- what a slot makes of what was seen: nothing, a refusal, or one record more that holds the session
    data Step (i : ℕ) (slot : List ℕ) (ss : List (List ℕ)) (seen : Matches) : Type 0 where
      no_mix : names_in (slot ∷ ss) ≡ names_in ss → scanned i (slot ∷ ss) seen ≡ scanned (suc i) ss seen → Step i slot ss seen
      refused : (n : Name) → names_in (slot ∷ ss) ≡ n ∷ names_in ss → record_status n ≢ ok
          → scanned i (slot ∷ ss) seen ≡ record { status = record_status n; seen = Zero } → Step i slot ss seen
      another : (n : Name) → names_in (slot ∷ ss) ≡ n ∷ names_in ss → record_status n ≡ ok → own n ≡ false
          → scanned i (slot ∷ ss) seen ≡ scanned (suc i) ss seen → Step i slot ss seen
      holder : (n : Name) → slot_holder kv_format slot ≡ some n → names_in (slot ∷ ss) ≡ n ∷ names_in ss → record_status n ≡ ok → own n ≡ true
          → scanned i (slot ∷ ss) seen ≡ scanned (suc i) ss (one_more seen i) → Step i slot ss seen

    try-other : (i : ℕ) (slot : List ℕ) (seen : Matches) → slot_has_prefix mix_prefix slot ≡ false → try i slot seen ≡ seen_on seen
    unfolding try_slot
    try-other i slot seen h = rw h

    try-mix : (i : ℕ) (slot : List ℕ) (seen : Matches) (n : Name) → slot_holder kv_format slot ≡ some n → slot_has_prefix mix_prefix slot ≡ true
        → try i slot seen ≡ advanced seen (try_record kv rbp key n) session i
    unfolding try_slot
    try-mix i slot seen n e h = rw (h, (holder_name slot n e).1)

    step : (i : ℕ) (slot : List ℕ) (ss : List (List ℕ)) (seen : Matches) → Step i slot ss seen
    unfolding advanced try_record on_ok
    step i slot ss seen = go (slot-of slot)
      where
        go : SlotOf slot → Step i slot ss seen
        go (is_no_mix e h) = no_mix (e ss) (rw (try-other i slot seen h))
        go (a-mix n e m f h) =
            let t = try-mix i slot seen n e h in
            split (is_ok (record_status n))
            (λ g. split (own n)
            (λ o. holder n e (f ss) (eqb-true _ ok g) o (rw (t, g, o)))
            (λ o. another n (f ss) (eqb-true _ ok g) o (rw (t, g, o))))
            (λ g. refused n (f ss) (eqb-false _ ok g) (rw (t, g, g)))

    -- ---- the number

    abbrev lasts : ℕ → List Test
    lasts k = (21 when leb 2 k) ∷ (6 when eqb k 0) ∷ []

    abbrev whole : List Name → ℕ → List Test
    whole ns k = records (lasts k) ns

    -- how many were seen, as far as it makes a difference
    abbrev count : Matches → ℕ
    count Zero = 0
    count (One at) = 1
    count rest = 2

    lasts-more : (seen : Matches) (i l : ℕ) → lasts (count (one_more seen i) + l) ≡ lasts (count seen + suc l)
    lasts-more Zero i l = let e : 1 + l ≡ 0 + suc l = omega arith in ap lasts e
    lasts-more (One at) i l = let e : 2 + l ≡ 1 + suc l = omega arith in ap lasts e
    lasts-more rest i l =
        rw (le-leb 2 (2 + l) (omega arith), le-leb 2 (2 + suc l) (omega arith), ne_eqb (2 + l) 0 (omega arith), ne_eqb (2 + suc l) 0 (omega arith))

    status-seen : (seen : Matches) → search_status (seen_on seen) ≡ first_of (lasts (count seen))
    unfolding search_status refuse_if
    status-seen Zero = refl
    status-seen (One at) = refl
    status-seen rest = refl

    pub status-refused : (k : ℕ) (seen : Matches) → k ≢ ok → search_status (record { status = k; seen = seen }) ≡ k
    unfolding search_status refuse_if
    status-refused k seen h = rw (ne_eqb k ok h)

    -- what the scan of the rest gives from any state
    status-from : (i : ℕ) (ss : List (List ℕ)) (seen : Matches)
        → search_status (scanned i ss seen) ≡ first_of (whole (names_in ss) (count seen + length (holders_in ss)))
    unfolding flatten
    status-from i [] seen = let e : count seen + 0 ≡ count seen = omega arith in rw e (status-seen seen)
    status-from i (slot ∷ ss) seen = go (λ m. status-from (suc i) ss m) (step i slot ss seen)
      where
        go : ((m : Matches) → search_status (scanned (suc i) ss m) ≡ first_of (whole (names_in ss) (count m + length (holders_in ss))))
            → Step i slot ss seen
            → search_status (scanned i (slot ∷ ss) seen) ≡ first_of (whole (names_in (slot ∷ ss)) (count seen + length (holders_in (slot ∷ ss))))
        go rest (no_mix f e) = rw (f, e) (rest seen)
        go rest (refused n f x e) =
            let k = count seen + length (selected own (n ∷ names_in ss)) in
            rw (f, e) (status-refused (record_status n) Zero x ∙ sym (record-stops (lasts k) n (names_in ss) x))
        go rest (another n f x o e) =
            rw (f, e, o) (rest seen ∙ sym (record-passes (lasts (count seen + length (holders_in ss))) n (names_in ss) x))
        go rest (holder n h f x o e) =
            let l = length (holders_in ss) in
            rw (f, e, o) (rest (one_more seen i)
            ∙ ap (λ (m : List Test). first_of (records m (names_in ss))) (lasts-more seen i l)
            ∙ sym (record-passes (lasts (count seen + suc l)) n (names_in ss) x))

    -- ---- the place

    -- two or more stay so
    two-stay : (seen : Matches) (i : ℕ) → 2 ≤ count seen → 2 ≤ count (one_more seen i)
    two-stay Zero i h = absurd (omega (arith, h))
    two-stay (One at) i h = omega arith
    two-stay rest i h = omega arith

    more-stays : (i : ℕ) (ss : List (List ℕ)) (seen : Matches) (a : ℕ) → 2 ≤ count seen → scanned i ss seen ≡ seen_on (One a) → ⊥
    more-stays i [] seen a m q = let z : count seen ≡ 1 = ap (λ (s : Seen). count s.seen) q in omega (arith, m, z)
    more-stays i (slot ∷ ss) seen a m q = go (λ s k z. more-stays (suc i) ss s a k z) (step i slot ss seen)
      where
        go : ((s : Matches) → 2 ≤ count s → scanned (suc i) ss s ≡ seen_on (One a) → ⊥) → Step i slot ss seen → ⊥
        go rest (no_mix f e) = rest seen m (sym e ∙ q)
        go rest (refused n f x e) = let z : Zero ≡ One a = ap (λ (s : Seen). s.seen) (sym e ∙ q) in cc
        go rest (another n f x o e) = rest seen m (sym e ∙ q)
        go rest (holder n h f x o e) = rest (one_more seen i) (two-stay seen i m) (sym e ∙ q)

    -- the first record that holds the session stays
    one-stays : (i : ℕ) (ss : List (List ℕ)) (b a : ℕ) → scanned i ss (One b) ≡ seen_on (One a) → a ≡ b
    one-stays i [] b a q = let z : One b ≡ One a = ap (λ (s : Seen). s.seen) q in cc
    one-stays i (slot ∷ ss) b a q = go (λ z. one-stays (suc i) ss b a z) (step i slot ss (One b))
      where
        go : (scanned (suc i) ss (One b) ≡ seen_on (One a) → a ≡ b) → Step i slot ss (One b) → a ≡ b
        go rest (no_mix f e) = rest (sym e ∙ q)
        go rest (refused n f x e) = let z : Zero ≡ One a = ap (λ (s : Seen). s.seen) (sym e ∙ q) in cc
        go rest (another n f x o e) = rest (sym e ∙ q)
        go rest (holder n h f x o e) = absurd (more-stays (suc i) ss (one_more (One b) i) a (omega arith) (sym e ∙ q))

    -- an index that is i in front of a slot of the first holder
    record Found (i : ℕ) (ss : List (List ℕ)) (at : ℕ) : Type 0 where
      pub k : ℕ
      pub below : k < length ss
      pub at-is : at ≡ i + k
      pub held : slot_holder kv_format (get_or ss k []) ≡ some (first_name (holders_in ss))

    further : (i : ℕ) (slot : List ℕ) (ss : List (List ℕ)) (at : ℕ) → holders_in (slot ∷ ss) ≡ holders_in ss → Found (suc i) ss at → Found i (slot ∷ ss) at
    further i slot ss at e f = record { k = suc f.k; below = omega (arith, f.below); at-is = omega (arith, f.at-is); held = rw e f.held }

    found_from : (i : ℕ) (ss : List (List ℕ)) (a : ℕ) → scanned i ss Zero ≡ seen_on (One a) → Found i ss a
    found_from i [] a q = let z : Zero ≡ One a = ap (λ (s : Seen). s.seen) q in cc
    found_from i (slot ∷ ss) a q = go (λ z. found_from (suc i) ss a z) (step i slot ss Zero)
      where
        go : (scanned (suc i) ss Zero ≡ seen_on (One a) → Found (suc i) ss a) → Step i slot ss Zero → Found i (slot ∷ ss) a
        go rest (no_mix f e) = further i slot ss a (rw f) (rest (sym e ∙ q))
        go rest (refused n f x e) = let z : Zero ≡ One a = ap (λ (s : Seen). s.seen) (sym e ∙ q) in cc
        go rest (another n f x o e) = further i slot ss a (rw (f, o)) (rest (sym e ∙ q))
        go rest (holder n h f x o e) = record { k = 0; below = omega arith; at-is = one-stays (suc i) ss i a (sym e ∙ q) ∙ omega arith; held = rw (f, o) h }

-- a slot of an undamaged area that has a name is used
pub used-of : (kv : List ℕ) (i : ℕ) (n : Name) → intact kv_format kv ≡ true → i < slot_count kv_format kv
    → slot_holder kv_format (get_or (slots kv_format kv) i []) ≡ some n → slot_used kv_format (get_or (slots kv_format kv) i []) ≡ true
unfolding slot_valid
used-of kv i n t l e =
    let slot = get_or (slots kv_format kv) i [] in
    let v = every-index (slot_valid kv_format) (slots kv_format kv) [] (intact-valid kv_format kv t) i (rw (slots_length kv_format kv) l) in
    rw (holder_name slot n e).0 at v

module _ (kv rbp key : List ℕ) (session : ℕ) (good : intact kv_format kv ≡ true) where
  abbrev search : Seen
  search = scan kv rbp key session 0 (slots kv_format kv) Zero

  pub scan-status : search_status search
      ≡ first_of (flatten (map (record_tests kv rbp key) (mix_names kv))
      ++ ((21 when leb 2 (length (holders kv rbp key session))) ∷ (6 when eqb (length (holders kv rbp key session)) 0) ∷ []))
  scan-status =
      let e : 0 + length (holders kv rbp key session) ≡ length (holders kv rbp key session) = omega arith in
      rw e at (status-from kv rbp key session 0 (slots kv_format kv) Zero)

  pub scan-found : (at : ℕ) → search ≡ seen_on (One at) → (at < slot_count kv_format kv)
      × (slot_used kv_format (get_or (slots kv_format kv) at []) ≡ true)
      × (slot_name kv_format (get_or (slots kv_format kv) at []) ≡ first_name (holders kv rbp key session))
  scan-found at h =
      let f = found_from kv rbp key session 0 (slots kv_format kv) at h in
      let c : at ≡ f.k = omega (arith, f.at-is) in
      let l : f.k < slot_count kv_format kv = rw (slots_length kv_format kv) at f.below in
      rw c (l, used-of kv f.k (first_name (holders kv rbp key session)) good l f.held, (holder_name _ (first_name (holders kv rbp key session)) f.held).1)
