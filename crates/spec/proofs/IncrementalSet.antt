-- A set that arrives in chunks: when each of its calls is done, what a finalize is, and that it makes no difference how the data were divided.
use mathlib.Core.Path.{◌≡◌, refl, sym, ap, ◌∙◌}
use mathlib.Core.Logic.{◌≢◌}
use mathlib.Core.Bool.{Bool, true, false, not}
use mathlib.Core.List.{List, [], ◌∷◌, ◌++◌, append_assoc, append-nil, flatten}
use Prim.Native.Nat.{ℕ, ◌+◌, ◌-◌, ◌^◌, ◌≤◌, ◌<◌, zero-le}
use native.Mathlib.Omega.{arith}
use borrow.Author.Tests.{eqb-true, eq-eqb, ne_eqb, leb-true, le-leb}
use lib.Dec.{eqb, leb}
use lib.ListN.{length, take, drop, length-append, length-drop, take-append-drop, drop_of_length-le}
use lib.Seq.{take_at, drop_at, drop-drop}
use Rattle.buffers.specs.Bytes.{zeros, le_bytes, le_value, u32_at}
use Rattle.spec.specs.Status.{ok, Test, ◌when◌, refuse_if, first_of, on_ok, answer_of}
use Rattle.spec.specs.Name.{Name}
use Rattle.spec.specs.Record.{require_replay_protection}
use Rattle.spec.specs.Area.{kv_format, rbp_format, sized}
use Rattle.spec.specs.Interleaving.{final}
use Rattle.spec.specs.Request.{Request, World, found, status_of, run}
use Rattle.spec.specs.Decisions.{key_sized, iv_sized, set_held, set_tests, set_request}
use Rattle.spec.specs.Calls.{areas, area_lengths, area_damage, binding_of, room_of, store_world, store_set}
use Rattle.spec.specs.Incremental.{handle_name, staged_data, staging_sized, name_fits, zero_handle, new_handle, start_tests, set_start, staged, Staged}
use Rattle.spec.specs.Incremental.{add_tests, set_add_data, finalize_tests, finalize_request, store_set_finalize, handle_bytes, handle_of}
use Rattle.spec.specs.Demand2.{done}
use Rattle.spec.specs.Shapes.{AreBytes}
use Rattle.spec.specs.IncrementalExact.{Startable, handle, StartExact, Addable, extended, AddExact, Complete, Finalizable, FinalizeExact, one_set}
use Rattle.spec.specs.IncrementalExact.{add_step, taken, begun, fed, value, Divided, HoweverDivided, HandleFits, HandleNumerals, Incremental}
use Rattle.spec.specs.declared.incremental.IncSetHandle.{IncSetHandle}
use Rattle.buffers.proofs.Split.{clash, not-false-is}
use Rattle.buffers.proofs.Bytes.{le-value}
use Rattle.buffers.proofs.Lists.{put_next}
use Rattle.buffers.proofs.LittleEndian.{number-part}
use Rattle.spec.proofs.Status.{Passed, all-passed, passed-all, past, stops, under, on-refused, by-status}
use Rattle.spec.proofs.World.{run-refused, accepted}
use Rattle.spec.proofs.Set.{set_exact}

-- a call that gives nothing but its status, and leaves the one or the other
module _ {State : Type 0} (status : ℕ) (s t : State) where
  pub left-done : status ≡ ok → record { answer = answer_of status [] [] []; after = on_ok status s t } ≡ done s [] []
  unfolding on_ok
  left-done h = rw h

-- ---- begin

module _ (name : Name) (flags : ℕ) (iv : List ℕ) (size : ℕ) where
  pub startable : first_of (start_tests name iv size) ≡ ok → Startable name iv size
  startable h =
      let p = all-passed (start_tests name iv size) refl h in
      record {
        iv_is_sized = eqb-true (length iv) 8 (not-false-is _ p.0);
        name_short = leb-true (length name) 64 (not-false-is _ p.1.0);
        size_small = leb-true size 480 (not-false-is _ p.1.1.0);
      }

  startable-ok : Startable name iv size → first_of (start_tests name iv size) ≡ ok
  startable-ok s = passed-all (start_tests name iv size)
      (rw (eq-eqb (length iv) 8 s.iv_is_sized), (rw (le-leb (length name) 64 s.name_short), (rw (le-leb size 480 s.size_small), tt)))

  start-exact : StartExact name flags iv size
  unfolding set_start
  start-exact = record {
    exact = record { condition = (startable, startable-ok); gives = λ s. left-done _ (new_handle name flags iv size) zero_handle (startable-ok s) };
    number = refl;
  }

-- ---- feed

module _ (h : IncSetHandle) (staging chunk : List ℕ) where
  pub addable : first_of (add_tests h staging chunk) ≡ ok → Addable h staging chunk
  addable e =
      let p = all-passed (add_tests h staging chunk) refl e in
      record {
        staging_is_sized = eqb-true (length staging) 480 (not-false-is _ p.0);
        name_short = leb-true h.name_len 64 (not-false-is _ p.1.0);
        size_small = leb-true h.final_data_size 480 (not-false-is _ p.1.1.0);
        in_range = leb-true (h.offset + length chunk) h.final_data_size (not-false-is _ p.1.1.1.1.0);
      }

  addable-ok : Addable h staging chunk → first_of (add_tests h staging chunk) ≡ ok
  addable-ok a =
      let r = a.in_range in
      let c : h.offset ≤ h.final_data_size = omega arith in
      passed-all (add_tests h staging chunk) (
        rw (eq-eqb (length staging) 480 a.staging_is_sized),
        (
          rw (le-leb h.name_len 64 a.name_short),
          (
            rw (le-leb h.final_data_size 480 a.size_small),
            (rw (le-leb h.offset h.final_data_size c), (rw (le-leb (h.offset + length chunk) h.final_data_size r), tt)),
          ),
        ),
      )

  -- past 1 there is only 19
  only_19 : (a b c d : Bool) → first_of ((19 when a) ∷ (19 when b) ∷ (19 when c) ∷ (19 when d) ∷ []) ≢ ok
      → first_of ((19 when a) ∷ (19 when b) ∷ (19 when c) ∷ (19 when d) ∷ []) ≡ 19
  unfolding refuse_if
  only_19 true b c d z = refl
  only_19 false true c d z = refl
  only_19 false false true d z = refl
  only_19 false false false true z = refl
  only_19 false false false false z = absurd (z refl)

  pub add-exact : AddExact h staging chunk
  unfolding set_add_data refuse_if
  add-exact = record {
    exact = record { condition = (addable, addable-ok); gives = λ a. left-done _ (extended h staging chunk) (staged h staging) (addable-ok a) };
    length_first = λ n. rw (ne_eqb (length staging) 480 n);
    else_19 = λ e z. rw (eq-eqb (length staging) 480 e) (only_19 (not (leb h.name_len 64)) (not (leb h.final_data_size 480))
        (not (leb h.offset h.final_data_size)) (not (leb (h.offset + length chunk) h.final_data_size))
        (rw (eq-eqb (length staging) 480 e) at z));
  }

-- ---- finish

module _ (h : IncSetHandle) (staging : List ℕ) where
  pub complete-of : Passed (finalize_tests h staging) → Complete h staging
  complete-of p = record {
    staging_is_sized = eqb-true (length staging) 480 (not-false-is _ p.0);
    name_short = leb-true h.name_len 64 (not-false-is _ p.1.0);
    size_small = leb-true h.final_data_size 480 (not-false-is _ p.1.1.0);
    all_held = eqb-true h.offset h.final_data_size (not-false-is _ p.1.1.1.1.0);
  }

  pub complete-passed : Complete h staging → Passed (finalize_tests h staging)
  complete-passed c =
      let e = c.all_held in
      let n : h.offset ≤ h.final_data_size = omega arith in (
        rw (eq-eqb (length staging) 480 c.staging_is_sized),
        (
          rw (le-leb h.name_len 64 c.name_short),
          (
            rw (le-leb h.final_data_size 480 c.size_small),
            (rw (le-leb h.offset h.final_data_size n), (rw (eq-eqb h.offset h.final_data_size e), tt)),
          ),
        ),
      )

-- where its own tests pass, a finalize is a set, whatever keeps the names
module _ {State : Type 0} (W : World State) (s : State) (P : ℕ → Bool) (key : List ℕ) (h : IncSetHandle) (staging : List ℕ) where
  abbrev set_of : Request
  set_of = set_request P key (handle_name h) h.flags h.iv (staged_data h staging)

  same_status : Complete h staging → status_of W s (finalize_request P key h staging) ≡ status_of W s set_of
  same_status c =
      let rest = W.damage s ++ set_of.tests (found W s set_of) (W.room s) in
      under (W.lengths s) (set_of.early ++ (finalize_tests h staging ++ rest)) (set_of.early ++ rest)
      (under set_of.early (finalize_tests h staging ++ rest) rest (past (finalize_tests h staging) rest (complete-passed h staging c)))

  pub finalize-run : Complete h staging → run W s (finalize_request P key h staging) ≡ run W s set_of
  finalize-run c =
      ap (λ (n : ℕ). record { answer = answer_of n [] [] []; after = on_ok n (W.edit s set_of.name (set_of.effect (found W s set_of))) s }) (same_status c)

-- the tests in order: the IV passes, and a count that is the declared size is not past it
pub in_order_lem : (a b k i t n z c e : Bool) (y : ℕ) → i ≡ true → (e ≡ true → c ≡ true)
    → first_of ((1 when not a) ∷ (1 when not b) ∷ (1 when not k) ∷ (1 when not i) ∷ (1 when not t) ∷ (19 when not n) ∷ (19 when not z) ∷ (19 when not c)
    ∷ (19 when not e) ∷ (y when true) ∷ [])
    ≡ first_of ((1 when not a) ∷ (1 when not b) ∷ (1 when not k) ∷ (1 when not t) ∷ (19 when not n) ∷ (19 when not z) ∷ (19 when not e)
    ∷ (first_of ((1 when not a) ∷ (1 when not b) ∷ (1 when not k) ∷ (1 when not i) ∷ (y when true) ∷ []) when true) ∷ [])
unfolding refuse_if
in_order_lem false b k i t n z c e y h j = refl
in_order_lem true false k i t n z c e y h j = refl
in_order_lem true true false i t n z c e y h j = refl
in_order_lem true true true false t n z c e y h j = clash false h refl
in_order_lem true true true true false n z c e y h j = refl
in_order_lem true true true true true false z c e y h j = refl
in_order_lem true true true true true true false c e y h j = refl
in_order_lem true true true true true true true true e y h j = refl
in_order_lem true true true true true true true false false y h j = refl
in_order_lem true true true true true true true false true y h j = clash false (j refl) refl

module _ (kv rbp key : List ℕ) (h : IncSetHandle) (staging : List ℕ) where
  abbrev early : List Test
  early = (1 when not (key_sized key)) ∷ (1 when not (iv_sized h.iv)) ∷ finalize_tests h staging

  pub as_set : Complete h staging → store_set_finalize kv rbp key h staging ≡ one_set kv rbp key h staging
  unfolding store_set_finalize store_set
  as_set c = finalize-run store_world (areas kv rbp) require_replay_protection key h staging c

  finalizable : (store_set_finalize kv rbp key h staging).answer.status ≡ ok → Finalizable kv rbp key h staging
  unfolding store_set_finalize set_held
  finalizable e =
      let name = handle_name h in
      let tests = set_tests require_replay_protection name h.flags (staged_data h staging) (binding_of kv rbp name) (room_of kv rbp) in
      let c = complete-of h staging (accepted (areas kv rbp) early tests refl e).lengths.1.1 in
      record {
        complete = c;
        settable = (set_exact kv rbp key name h.flags h.iv (staged_data h staging)).condition.0 (sym (ap (λ o. o.answer.status) (as_set c)) ∙ e);
      }

  finalizable-ok : Finalizable kv rbp key h staging → (store_set_finalize kv rbp key h staging).answer.status ≡ ok
  finalizable-ok f = ap (λ o. o.answer.status) (as_set f.complete)
      ∙ (set_exact kv rbp key (handle_name h) h.flags h.iv (staged_data h staging)).condition.1 f.settable

  number : length h.iv ≡ 8 → (store_set_finalize kv rbp key h staging).answer.status
      ≡ first_of ((1 when not (sized kv_format kv)) ∷ (1 when not (sized rbp_format rbp)) ∷ (1 when not (eqb (length key) 16))
      ∷ (1 when not (eqb (length staging) 480)) ∷ (19 when not (leb h.name_len 64)) ∷ (19 when not (leb h.final_data_size 480))
      ∷ (19 when not (eqb h.offset h.final_data_size)) ∷ ((one_set kv rbp key h staging).answer.status when true) ∷ [])
  unfolding store_set_finalize store_set refuse_if
  number i =
      let name = handle_name h in
      let tests = set_tests require_replay_protection name h.flags (staged_data h staging) (binding_of kv rbp name) (room_of kv rbp) in
      in_order_lem (sized kv_format kv) (sized rbp_format rbp) (key_sized key) (iv_sized h.iv) (staging_sized staging) (name_fits h)
      (leb h.final_data_size 480) (leb h.offset h.final_data_size) (eqb h.offset h.final_data_size)
      (first_of (area_damage (areas kv rbp) ++ tests)) (eq-eqb (length h.iv) 8 i)
      (λ e. let z = eqb-true h.offset h.final_data_size e in le-leb h.offset h.final_data_size (omega arith))

  finalize-exact : FinalizeExact kv rbp key h staging
  finalize-exact = record {
    exact = record { condition = (finalizable, finalizable-ok); gives = λ f. as_set f.complete };
    as_set = as_set;
    number = number;
  }

  -- refused before the set: what the code's own tests say is then the answer
  pub finalize-refused : (n : ℕ) → n ≡ first_of (area_lengths (areas kv rbp) ++ early) → n ≢ ok
      → record { answer = record { status = n; numbers = []; output = [] }; after = areas kv rbp } ≡ store_set_finalize kv rbp key h staging
  unfolding store_set_finalize
  finalize-refused n e z =
      let q = finalize_request require_replay_protection key h staging in
      let name = handle_name h in
      let tests = set_tests require_replay_protection name h.flags (staged_data h staging) (binding_of kv rbp name) (room_of kv rbp) in
      let s = stops (area_lengths (areas kv rbp) ++ early) (area_damage (areas kv rbp) ++ tests) (λ y. z (e ∙ y)) in
      let same : status_of store_world (areas kv rbp) q ≡ n = s ∙ sym e in
      ap (λ (k : ℕ). record { answer = record { status = k; numbers = []; output = [] }; after = areas kv rbp }) (sym same)
      ∙ sym (run-refused store_world (areas kv rbp) q (λ y. z (sym same ∙ y)))

-- ---- "however the data were divided"

module _ (name : Name) (flags : ℕ) (iv : List ℕ) (size : ℕ) (staging : List ℕ) (st : Startable name iv size) (z : length staging ≡ 480) where
  -- with v held
  abbrev holding : List ℕ → Staged
  holding v = staged (handle name flags iv size (length v)) (v ++ drop (length v) staging)

  held-length : (v : List ℕ) → length v ≤ size → length (v ++ drop (length v) staging) ≡ 480
  held-length v h = let k = st.size_small in rw (length-append v (drop (length v) staging), length-drop (length v) staging, z) (omega arith)

  -- a chunk that fits is done, and is then held
  fits-done : (v c : List ℕ) → length v + length c ≤ size → (add_step (holding v) c).answer.status ≡ ok
  fits-done v c h = (add-exact (holding v).handle (holding v).staging c).exact.condition.1 (record {
    staging_is_sized = held-length v (omega arith);
    name_short = st.name_short;
    size_small = st.size_small;
    in_range = h;
  })

  done-fits : (v c : List ℕ) → (add_step (holding v) c).answer.status ≡ ok → length v + length c ≤ size
  done-fits v c h = ((add-exact (holding v).handle (holding v).staging c).exact.condition.0 h).in_range

  done_held : (v c : List ℕ) → length v + length c ≤ size → (add_step (holding v) c).after ≡ holding (v ++ c)
  done_held v c h =
      let a = (add-exact (holding v).handle (holding v).staging c).exact in
      let l = sym (length-append v c) in
      ap (λ o. o.after) (a.gives (a.condition.0 (fits-done v c h)))
      ∙ (λ i. staged (handle name flags iv size (l i)) (put_next staging v c (length v) refl i))
      ∙ (λ i. staged (handle name flags iv size (length (v ++ c))) ((v ++ c) ++ drop (l i) staging))

  refused-held : (v c : List ℕ) → (add_step (holding v) c).answer.status ≢ ok → (add_step (holding v) c).after ≡ holding v
  unfolding set_add_data
  refused-held v c h = on-refused (first_of (add_tests (holding v).handle (holding v).staging c)) _ (holding v) h

  -- any chunks, from where v is held
  all_held : (v : List ℕ) (cs : List (List ℕ)) → length v ≤ size → final add_step (holding v) cs ≡ holding (v ++ taken (holding v) cs)
  all_held v [] h = rw (append-nil v)
  all_held v (c ∷ cs) h = by-status (add_step (holding v) c).answer.status
      (λ e.
      let k = done-fits v c e in
      let n = length-append v c in
      rw (done_held v c k, eq-eqb _ ok e) (all_held (v ++ c) cs (omega arith) ∙ ap holding (append_assoc v c (taken (holding (v ++ c)) cs))))
      (λ e. rw (refused-held v c e, ne_eqb _ ok e) (all_held v cs h))

  none_left : (v : List ℕ) (cs : List (List ℕ)) → length v + length (flatten cs) ≤ size → taken (holding v) cs ≡ flatten cs
  unfolding flatten
  none_left v [] h = refl
  none_left v (c ∷ cs) h =
      let m = length-append c (flatten cs) in
      let n = length-append v c in
      let k : length v + length c ≤ size = omega arith in
      rw (fits-done v c k, done_held v c k) (ap (λ (x : List ℕ). c ++ x) (none_left (v ++ c) cs (omega arith)))

  module _ (cs : List (List ℕ)) (e : (set_start name flags iv size).after ≡ handle name flags iv size 0) where
    starts : begun name flags iv size staging cs ≡ holding []
    starts = ap (λ (x : IncSetHandle). staged x staging) e

    abbrev got : List ℕ
    got = value name flags iv size staging cs

    ends : fed name flags iv size staging cs ≡ holding got
    ends = ap (λ (s : Staged). final add_step s cs) starts ∙ all_held [] cs zero-le ∙ ap (λ (s : Staged). holding (taken s cs)) (sym starts)

    one_set_lem : length got ≡ size → (kv rbp key : List ℕ)
        → store_set_finalize kv rbp key (fed name flags iv size staging cs).handle (fed name flags iv size staging cs).staging
        ≡ store_set kv rbp key name flags iv got
    one_set_lem h kv rbp key =
        let s = holding got in
        let k = st.size_small in
        let whole : Complete s.handle s.staging = record {
          staging_is_sized = held-length got (omega arith);
          name_short = st.name_short;
          size_small = k;
          all_held = h;
        } in
        rw ends (as_set kv rbp key s.handle s.staging whole
        ∙ rw (take_at name (zeros (64 - length name)) (length name) refl, take_at got (drop (length got) staging) (length got) refl))

    divided : Divided name flags iv size staging cs
    divided = record {
      held = ends;
      all_taken = λ h. ap (λ (s : Staged). taken s cs) starts ∙ none_left [] cs (omega (arith, h));
      as_one_set = one_set_lem;
    }

pub however_divided : HoweverDivided
however_divided name flags iv size staging cs h z =
    let o = (start-exact name flags iv size).exact in
    let st = o.condition.0 h in
    divided name flags iv size staging st z cs (ap (λ o. o.after) (o.gives st))

-- ---- a handle in bytes

module _ (h : IncSetHandle) (f : HandleFits h) where
  abbrev sizes : List ℕ
  sizes = le_bytes 4 h.final_data_size ++ le_bytes 4 h.offset

  abbrev numbers : List ℕ
  numbers = le_bytes 4 h.name_len ++ (le_bytes 4 h.flags ++ (h.iv ++ sizes))

  -- what stands k bytes behind the name; and behind the IV
  behind : (k : ℕ) → drop (64 + k) (h.name ++ numbers) ≡ drop k numbers
  behind k = sym (drop-drop k 64 (h.name ++ numbers)) ∙ ap (drop k) (drop_at h.name numbers 64 f.name)

  further : (k : ℕ) → drop (8 + k) (h.iv ++ sizes) ≡ drop k sizes
  further k = sym (drop-drop k 8 (h.iv ++ sizes)) ∙ ap (drop k) (drop_at h.iv sizes 8 f.iv)

  -- the number whose bytes stand in front
  front : (n : ℕ) (l m : List ℕ) → n < 2 ^ 32 → l ≡ le_bytes 4 n ++ m → le_value (take 4 l) ≡ n
  front n l m k e = ap (λ (x : List ℕ). le_value (take 4 x)) e ∙ le-value 4 n k

  read_back : handle_of (handle_bytes h) ≡ h
  unfolding handle_of handle_bytes
  read_back = λ i. record {
    name = take_at h.name numbers 64 f.name i;
    name_len = front h.name_len _ _ f.name_len (behind 0) i;
    flags = front h.flags _ _ f.flags (behind 4) i;
    iv = (ap (take 8) (behind 8) ∙ take_at h.iv sizes 8 f.iv) i;
    final_data_size = front h.final_data_size _ _ f.final_data_size (behind 16 ∙ further 0) i;
    offset = front h.offset _ [] f.offset (behind 20 ∙ further 4) i;
  }

module _ (b : List ℕ) (l : length b ≡ 88) (a : AreBytes b) where
  at : (i : ℕ) → i + 4 ≤ 88 → drop i b ≡ le_bytes 4 (u32_at b i) ++ drop (i + 4) b
  at i h = number-part 4 i b a (omega arith)

  end : drop 84 b ≡ le_bytes 4 (u32_at b 84)
  end = at 84 (omega arith) ∙ ap (λ (x : List ℕ). le_bytes 4 (u32_at b 84) ++ x) (drop_of_length-le b {i = 88} (omega arith))
      ∙ append-nil (le_bytes 4 (u32_at b 84))

  middle : drop 72 b ≡ take 8 (drop 72 b) ++ drop 80 b
  middle = sym (take-append-drop 8 (drop 72 b)) ∙ ap (λ (x : List ℕ). take 8 (drop 72 b) ++ x) (drop-drop 8 72 b)

  written_back : handle_bytes (handle_of b) ≡ b
  unfolding handle_of handle_bytes
  written_back = sym (sym (take-append-drop 64 b)
      ∙ ap (λ (x : List ℕ). take 64 b ++ x) (at 64 (omega arith)
      ∙ ap (λ (x : List ℕ). le_bytes 4 (u32_at b 64) ++ x) (at 68 (omega arith)
      ∙ ap (λ (x : List ℕ). le_bytes 4 (u32_at b 68) ++ x) (middle
      ∙ ap (λ (x : List ℕ). take 8 (drop 72 b) ++ x) (at 80 (omega arith)
      ∙ ap (λ (x : List ℕ). le_bytes 4 (u32_at b 80) ++ x) end)))))

handle-numerals : HandleNumerals
unfolding handle_bytes
handle-numerals = record { zero = refl; one = refl }

handle-bytes : (h : IncSetHandle) → handle_bytes h
    ≡ h.name ++ (le_bytes 4 h.name_len ++ (le_bytes 4 h.flags ++ (h.iv ++ (le_bytes 4 h.final_data_size ++ le_bytes 4 h.offset))))
unfolding handle_bytes
handle-bytes h = refl

pub incremental : Incremental
incremental = record {
  start = start-exact;
  add = add-exact;
  finalize = finalize-exact;
  divided = however_divided;
  layout = record { bytes = handle-bytes; read_back = read_back; written_back = written_back };
  numerals = handle-numerals;
}
