-- The exact condition for an iterator_next's 0, and what it gives.
use mathlib.Core.Path.{◌≡◌, refl, ◌∙◌}
use mathlib.Core.Bool.{Bool, true, false, not}
use mathlib.Core.List.{List, [], ◌∷◌, ◌++◌}
use mathlib.Core.Option.{Option, none, some}
use Prim.Native.Nat.{ℕ, suc, ◌+◌, ◌-◌, ◌≤◌, ◌<◌}
use native.Mathlib.Omega.{arith}
use borrow.Author.Tests.{ltb-true, ltb-false, lt-ltb, leb-true, le-leb}
use lib.Dec.{ltb, leb}
use lib.ListN.{length, get_or, take, drop, length-drop}
use lib.Seq.{get_or-drop, take-append_seam}
use Rattle.buffers.specs.Bytes.{any}
use Rattle.buffers.specs.Compare.{precedes}
use Rattle.spec.specs.Status.{ok, Test, ◌when◌, first_of, on_ok, bytes_given}
use Rattle.spec.specs.Name.{Name, valid_prefix}
use Rattle.spec.specs.Slots.{first_index}
use Rattle.spec.specs.Area.{kv_format, slot_holder, slot_count, slots}
use Rattle.spec.specs.Calls.{areas, name_has_prefix, slot_has_prefix, next_match, iterator_tests, store_iterator_next}
use Rattle.spec.specs.Demand2.{done, Match, Iterable, IteratorExact, WalkInOrder}
use Rattle.buffers.proofs.Split.{split, clash, not-false-is}
use Rattle.buffers.proofs.Bytes.{bytes_eq-eq, eq-bytes_eq}
use Rattle.spec.proofs.Chunks.{slots_length, slot-at}
use Rattle.spec.proofs.First.{any-first, any_at, first_below, first_passes, first-lowest}
use Rattle.spec.proofs.Intact.{intact-shape}
use Rattle.spec.proofs.World.{accepted, acceptable}

-- ---- the test of a slot

prefix-name : (prefix : List ℕ) (o : Option Name) → name_has_prefix prefix o ≡ true → (name : Name) × (o ≡ some name) × (prefix ≡ take (length prefix) name)
prefix-name prefix none h = clash false h refl
prefix-name prefix (some name) h = (name, refl, bytes_eq-eq prefix (take (length prefix) name) h)

name-prefix : (prefix : List ℕ) (o : Option Name) (name : Name) → o ≡ some name → prefix ≡ take (length prefix) name → name_has_prefix prefix o ≡ true
name-prefix prefix o name e h = rw e (eq-bytes_eq prefix (take (length prefix) name) h)

module _ (kv prefix : List ℕ) (start : ℕ) where
  abbrev all : List (List ℕ)
  all = slots kv_format kv

  abbrev test : List ℕ → Bool
  test = slot_has_prefix prefix

  -- how far behind the start slot the first match is
  abbrev ahead : ℕ
  ahead = first_index test (drop start all)

  has-prefix : (i : ℕ) (name : Name) → slot_holder kv_format (get_or all i []) ≡ some name → prefix ≡ take (length prefix) name → test (get_or all i []) ≡ true
  has-prefix i name = name-prefix prefix (slot_holder kv_format (get_or all i [])) name

  -- a match is ahead, when some slot from the start on passes the test
  module _ (h : start + ahead < length all) where
    some-match : any test (drop start all) ≡ true
    some-match = any-first test (drop start all) ∙ lt-ltb ahead (length (drop start all)) (rw (length-drop start all) (omega arith))

    passes : test (get_or all (start + ahead) []) ≡ true
    passes = rw (← (get_or-drop start all ahead [])) (first_passes test (drop start all) [] some-match)

    below : (j : ℕ) → start ≤ j → j < start + ahead → test (get_or all j []) ≡ false
    below j l k =
        let e : start + (j - start) ≡ j = omega arith in
        let f = first-lowest test (drop start all) [] (j - start) (omega arith) in
        rw e at (rw (get_or-drop start all (j - start) []) at f)

    a-match : (name : Name) × Match kv prefix start (start + ahead) name
    a-match =
        let p = prefix-name prefix (slot_holder kv_format (get_or all (start + ahead) [])) passes in
        let c = slots_length kv_format kv in (
          p.0,
          record {
            from_start = omega arith;
            in_range = omega arith;
            held = p.1;
            prefixed = p.2;
            lowest = λ j other l k e z. clash (test (get_or all j [])) (has-prefix j other e z) (below j l k);
          },
        )

  -- a slot from the start on that passes the test is not before the first match
  ahead_of : (i : ℕ) → start ≤ i → i < slot_count kv_format kv → test (get_or all i []) ≡ true → start + ahead < length all
  ahead_of i l r h =
      let c = slots_length kv_format kv in
      let e : start + (i - start) ≡ i = omega arith in
      let p : test (get_or (drop start all) (i - start) []) ≡ true = rw (get_or-drop start all (i - start) [], e) h in
      let a = any_at test (drop start all) [] (i - start) (rw (length-drop start all) (omega arith)) p in
      let f = first_below test (drop start all) a in
      let d = length-drop start all in
      omega arith

  -- a match decides where the first one is
  module _ (i : ℕ) (name : Name) (m : Match kv prefix start i name) where
    own-passes : test (get_or all i []) ≡ true
    own-passes = has-prefix i name m.held m.prefixed

    match-ahead : start + ahead < length all
    match-ahead = ahead_of i m.from_start m.in_range own-passes

    not-before : start + ahead < i → ⊥
    not-before k =
        let p = prefix-name prefix (slot_holder kv_format (get_or all (start + ahead) [])) (passes match-ahead) in
        m.lowest (start + ahead) p.0 (omega arith) k p.1 p.2

    not_behind : i < start + ahead → ⊥
    not_behind k = clash (test (get_or all i [])) own-passes (below match-ahead i m.from_start k)

    match_is : start + ahead ≡ i
    match_is = split (ltb (start + ahead) i) (λ e. absurd (not-before (ltb-true (start + ahead) i e))) (λ e.
        let k = ltb-false (start + ahead) i e in
        split (ltb i (start + ahead))
        (λ f. absurd (not_behind (ltb-true i (start + ahead) f)))
        (λ f. let q = ltb-false i (start + ahead) f in omega arith))

module _ (kv rbp prefix : List ℕ) (start : ℕ) (name_buf : List ℕ) where
  abbrev early : List Test
  early = (1 when not (leb 64 (length name_buf))) ∷ []

  abbrev tests : List Test
  tests = (3 when not (valid_prefix prefix)) ∷ (6 when not (ltb (next_match kv prefix start) (length (slots kv_format kv)))) ∷ []

  abbrev pub iterator_status : ℕ
  iterator_status = first_of (iterator_tests kv rbp prefix start name_buf)

  iterable : iterator_status ≡ ok → Iterable kv rbp prefix start name_buf
  unfolding next_match
  iterable h =
      let a = accepted (areas kv rbp) early tests refl h in
      let m = a-match kv prefix start (ltb-true _ _ (not-false-is _ a.rest.1.0)) in
      record {
        undamaged = a.undamaged;
        buf_sized = leb-true 64 (length name_buf) (not-false-is _ a.lengths.0);
        prefix_valid = not-false-is (valid_prefix prefix) a.rest.0;
        i = next_match kv prefix start;
        name = m.0;
        found = m.1;
      }

  module _ (h : Iterable kv rbp prefix start name_buf) where
    pub next-is : next_match kv prefix start ≡ h.i
    unfolding next_match
    next-is = match_is kv prefix start h.i h.name h.found

    iterable-ok : iterator_status ≡ ok
    iterable-ok =
        let r = h.found.in_range in
        let c = slots_length kv_format kv in
        acceptable (areas kv rbp) early tests (record {
          undamaged = h.undamaged;
          lengths = (rw (le-leb 64 (length name_buf) h.buf_sized), tt);
          rest = (rw h.prefix_valid, (rw (next-is, lt-ltb h.i (length (slots kv_format kv)) (omega arith)), tt));
        })

    iterated : store_iterator_next kv rbp prefix start name_buf
        ≡ done (areas kv rbp) (length h.name ∷ suc h.i ∷ []) (h.name ++ drop (length h.name) name_buf)
    unfolding store_iterator_next on_ok
    iterated = rw (iterable-ok, next-is, h.found.held)

pub iterator_exact : IteratorExact
unfolding store_iterator_next
iterator_exact kv rbp prefix start name_buf = record {
  condition = (iterable kv rbp prefix start name_buf, iterable-ok kv rbp prefix start name_buf);
  gives = iterated kv rbp prefix start name_buf;
}

-- a later match stands behind an earlier one
later-greater : (kv rbp prefix : List ℕ) (start : ℕ) (name_buf prefix' : List ℕ) (start' : ℕ) (name_buf' : List ℕ)
    → (h : Iterable kv rbp prefix start name_buf) (h' : Iterable kv rbp prefix' start' name_buf') → h.i < start' → precedes h.name h'.name ≡ true
later-greater kv rbp prefix start name_buf prefix' start' name_buf' h h' l =
    let m = h.found in
    let m' = h'.found in
    let k : h.i < h'.i = omega (arith, m'.from_start) in
    ((intact-shape kv_format kv).0 h.undamaged.kv_intact).ordered h.i h'.i h.name h'.name k m'.in_range
    (rw (slot-at kv_format kv h.i m.in_range) at m.held) (rw (slot-at kv_format kv h'.i m'.in_range) at m'.held)

pub walk_in_order : WalkInOrder
walk_in_order kv rbp prefix start name_buf prefix' start' name_buf' e e' l =
    let x = iterator_exact kv rbp prefix start name_buf in
    let x' = iterator_exact kv rbp prefix' start' name_buf' in
    let h = x.condition.0 e in
    let h' = x'.condition.0 e' in
    let n : bytes_given (store_iterator_next kv rbp prefix start name_buf).answer ≡ h.name = rw (x.gives h) (take-append_seam h.name _) in
    let n' : bytes_given (store_iterator_next kv rbp prefix' start' name_buf').answer ≡ h'.name = rw (x'.gives h') (take-append_seam h'.name _) in
    let k : h.i < start' = rw (x.gives h) at l in
    rw (n, n') (later-greater kv rbp prefix start name_buf prefix' start' name_buf' h h' k)
