-- Reconnecting: when a find's number is 0 and what it then gives, and which number it is else. Assumes nothing.
use mathlib.Core.Path.{◌≡◌, refl, sym, ap, ◌∙◌}
use mathlib.Core.Logic.{◌≢◌}
use mathlib.Core.Bool.{Bool, true, false, not}
use mathlib.Core.List.Memᴰ
use mathlib.Core.List.{List, [], ◌∷◌, ◌++◌, Memᴰ}
use mathlib.Core.Option.{some, some-injective}
use Prim.Native.Nat.{ℕ, ◌≤◌, ◌<◌}
use native.Mathlib.Omega.{arith}
use borrow.Author.Tests.{eqb-true, eqb-false, eq-eqb, ne_eqb, leb-true, leb-false, le-leb, lt-leb}
use lib.Dec.{eqb, leb}
use lib.ListN.{length, get_or}
use Rattle.spec.specs.Status.{ok, Test, ◌when◌, refuse_if, first_of, on_ok, buffer_answer}
use Rattle.spec.specs.Name.{Name}
use Rattle.spec.specs.Slots.{member}
use Rattle.spec.specs.Area.{kv_format, rbp_format, slot_holder, slot_count, slots, sized, intact}
use Rattle.spec.specs.Decisions.{key_sized}
use Rattle.spec.specs.Calls.{areas, area_lengths, area_damage}
use Rattle.spec.specs.Demand2.{Undamaged, Readable, opened}
use Rattle.buffers.proofs.Split.{split, clash, both, not-false-is, not_true_is}
use Rattle.spec.proofs.Chunks.{slots_length}
use Rattle.spec.proofs.NameLists.{in_member}
use Rattle.spec.proofs.Status.{Passed, passed, all-passed, past, stops, by-status, on-ok}
use Rattle.mix.specs.Mix.{MixAnswer, session_at, mix_valid, mix_of, decode_mix, zero_mix, mix_buf_sized}
use Rattle.mix.specs.Calls.{first_name, mix_names, mix_record, mix_data, holders, find_tests, found_data, find_encoded_mix, find_mix_by_session}
use Rattle.mix.specs.Laws.{holding, refusing, MixAt, Accepted, AcceptedBelow, Holds, Findable, FindExact, FindRefusals}
use Rattle.mix.proofs.Scan.{record_status, record-passed, records}
use Rattle.mix.proofs.MixLaws.{decode-valid, decode-done, valid-decode}
use Rattle.mix.proofs.Read.{session-valid, not_decoded_lem, got-readable, readable-got, data_opened}
use Rattle.mix.proofs.Names.{selected_in, in_selected, distinct, distinct-selected}
use Rattle.mix.proofs.Names.{two_in, mix-name, name-mix, name-at, at_name, names-distinct, one_place}
use Rattle.mix.proofs.Names.{past-records, each-record, first-refused}

-- ---- lists of names

in-length : (l : List Name) (n : Name) → Memᴰ n l → 1 ≤ length l
in-length [] n h = absurd (Memᴰ.not-nil h)
in-length (x ∷ l) n h = omega arith

first_in : (l : List Name) → 1 ≤ length l → Memᴰ (first_name l) l
first_in [] h = absurd (omega arith)
first_in (n ∷ l) h = Memᴰ.head refl

only-name : (l : List Name) (n : Name) → Memᴰ n l → length l < 2 → first_name l ≡ n
only-name [] n x h = elim x [ ]
only-name (x ∷ l) n (Memᴰ.head e) h = sym e
only-name (x ∷ l) n (Memᴰ.tail k) h = absurd (omega (arith, in-length l n k))

record TwoNames (l : List Name) : Type 0 where
  pub a : Name
  pub b : Name
  pub a_in : Memᴰ a l
  pub b_in : Memᴰ b l
  pub differ : a ≢ b

two-names : (l : List Name) → distinct l ≡ true → 2 ≤ length l → TwoNames l
two-names [] d h = absurd (omega arith)
two-names (a ∷ []) d h = absurd (omega arith)
two-names (a ∷ b ∷ l) d h = record {
  a = a;
  b = b;
  a_in = Memᴰ.head refl;
  b_in = Memᴰ.tail (Memᴰ.head refl);
  differ = λ e. clash (member a (b ∷ l)) (in_member a (b ∷ l) (Memᴰ.head e))
      (not_true_is (member a (b ∷ l)) (both (not (member a (b ∷ l))) (distinct (b ∷ l)) d).0);
}

-- ---- tests of one number

decides : (t : Bool) (k rest : ℕ) → t ≡ true → refuse_if t k rest ≡ k
unfolding refuse_if
decides t k rest h = rw h

same_number : (t : Bool) (k rest : ℕ) → rest ≡ k → refuse_if t k rest ≡ k
unfolding refuse_if
same_number true k rest h = refl
same_number false k rest h = h

-- ---- one record

module _ (kv rbp key : List ℕ) where
  module _ (n : Name) where
    pub accepted_data : (b : List ℕ) → Accepted kv rbp key n b → mix_data kv rbp key n ≡ b
    accepted_data b a = data_opened kv rbp key n a.readable ∙ a.plaintext

    pub accepted-ok : (b : List ℕ) → Accepted kv rbp key n b → record_status kv rbp key n ≡ ok
    unfolding refuse_if
    accepted-ok b a = rw (readable-got kv rbp key n a.readable, accepted_data b a, decode-valid b a.is_mix)

    got : record_status kv rbp key n ≡ ok → (mix_record kv rbp key n).status ≡ ok
    got h = eqb-true (mix_record kv rbp key n).status ok (not-false-is _ (record-passed kv rbp key n h).0)

    pub data_valid : record_status kv rbp key n ≡ ok → mix_valid (mix_data kv rbp key n) ≡ true
    data_valid h = not-false-is _ (record-passed kv rbp key n h).1.0

    ok-accepted : record_status kv rbp key n ≡ ok → Accepted kv rbp key n (mix_data kv rbp key n)
    ok-accepted h =
        let r = got-readable kv rbp key n (got h) in
        record { readable = r; plaintext = sym (data_opened kv rbp key n r); is_mix = valid-decode _ (data_valid h) }

    get_refused : (mix_record kv rbp key n).status ≢ ok → record_status kv rbp key n ≡ (mix_record kv rbp key n).status
    unfolding refuse_if
    get_refused h = rw (ne_eqb (mix_record kv rbp key n).status ok h)

    bytes-refused : (h : Readable kv rbp key n 0) → (decode_mix (opened key n h.r)).status ≢ ok → record_status kv rbp key n ≡ 20
    unfolding refuse_if
    bytes-refused h x = rw (readable-got kv rbp key n h, data_opened kv rbp key n h, not_decoded_lem (opened key n h.r) x)

  -- ---- all records

  all-ok : AcceptedBelow kv rbp key (slot_count kv_format kv) → (n : Name) → Memᴰ n (mix_names kv) → record_status kv rbp key n ≡ ok
  all-ok h n i =
      let p = name-at kv n i in
      let a = h p.0 n p.1.in_range p.1 in
      accepted-ok n a.0 a.1

  module _ (session : ℕ) where
    abbrev held : List Name
    held = holders kv rbp key session

    abbrev own : Name → Bool
    own n = eqb (session_at (mix_data kv rbp key n)) session

    -- a name that holds the session, and the other way round
    in-holders : (i : ℕ) (h : Holds kv rbp key session i) → Memᴰ h.name held
    in-holders i h =
        let b = h.bytes in
        let e = accepted_data h.name b h.accepted in
        let s = sym (session-valid b (decode-valid b h.accepted.is_mix)) ∙ h.session_is in
        in_selected own (mix_names kv) h.name (at_name kv i h.name h.at) (rw e (eq-eqb (session_at b) session s))

    holds_of : (i : ℕ) (n : Name) → MixAt kv i n → record_status kv rbp key n ≡ ok → own n ≡ true → Holds kv rbp key session i
    holds_of i n a h o = record {
      name = n;
      at = a;
      bytes = mix_data kv rbp key n;
      accepted = ok-accepted n h;
      session_is = session-valid (mix_data kv rbp key n) (data_valid n h) ∙ eqb-true _ session o;
    }

    record Holder (n : Name) : Type 0 where
      pub i : ℕ
      pub at : MixAt kv i n
      pub session_is : own n ≡ true

    holder-of : (n : Name) → Memᴰ n held → Holder n
    holder-of n h =
        let s = selected_in own (mix_names kv) n h in
        let p = name-at kv n s.0 in
        record { i = p.0; at = p.1; session_is = s.1 }

    -- ---- the tests in front, and those behind the records

    abbrev front : Bool → List Test
    front lengths =
        area_lengths (areas kv rbp) ++ ((1 when not (key_sized key)) ∷ (1 when not lengths) ∷ area_damage (areas kv rbp))

    abbrev lasts : List Test
    lasts = (21 when leb 2 (length held)) ∷ (6 when eqb (length held) 0) ∷ []

    abbrev status : ℕ
    status = (find_mix_by_session kv rbp key session).status

    in_order_lem : (lengths : Bool) → find_tests kv rbp key lengths session ≡ front lengths ++ records kv rbp key lasts (mix_names kv)
    unfolding find_tests
    in_order_lem lengths = refl

    status_is : status ≡ first_of (front true ++ records kv rbp key lasts (mix_names kv))
    unfolding find_mix_by_session
    status_is = ap first_of (in_order_lem true)

    front-passed : Undamaged kv rbp → length key ≡ 16 → Passed (front true)
    front-passed u k = (
      rw u.kv_sized,
      (rw u.rbp_sized, (rw (eq-eqb (length key) 16 k), (refl, (rw u.kv_intact, (rw u.rbp_intact, tt))))),
    )

    behind-front : Undamaged kv rbp → length key ≡ 16 → status ≡ first_of (records kv rbp key lasts (mix_names kv))
    behind-front u k = status_is ∙ past (front true) (records kv rbp key lasts (mix_names kv)) (front-passed u k)

    last-decides : Undamaged kv rbp → length key ≡ 16 → AcceptedBelow kv rbp key (slot_count kv_format kv) → status ≡ first_of lasts
    last-decides u k a = behind-front u k ∙ past-records kv rbp key lasts (mix_names kv) (all-ok a)

    record Ready : Type 0 where
      pub undamaged : Undamaged kv rbp
      pub key_is_sized : length key ≡ 16
      pub rest : first_of (records kv rbp key lasts (mix_names kv)) ≡ ok

    ready_of : status ≡ ok → Ready
    ready_of h =
        let e = sym status_is ∙ h in
        let r = records kv rbp key lasts (mix_names kv) in
        let f : first_of (front true) ≡ ok = by-status (first_of (front true)) (λ z. z) (λ z. sym (stops (front true) r z) ∙ e) in
        let p = all-passed (front true) refl f in
        record {
          undamaged = record {
            kv_sized = not-false-is _ p.0;
            rbp_sized = not-false-is _ p.1.0;
            kv_intact = not-false-is _ p.1.1.1.1.0;
            rbp_intact = not-false-is _ p.1.1.1.1.1.0;
          };
          key_is_sized = eqb-true (length key) 16 (not-false-is _ p.1.1.0);
          rest = sym (past (front true) r p) ∙ e;
        }

    -- ---- 0

    lasts-one : first_of lasts ≡ ok → (1 ≤ length held) × (length held < 2)
    lasts-one h =
        let a = passed (leb 2 (length held)) 21 _ (omega arith) h in
        let b = passed (eqb (length held) 0) 6 ok (omega arith) a.1 in
        let c = eqb-false (length held) 0 b.0 in
        (omega arith, leb-false 2 (length held) a.0)

    -- the record that is given is accepted
    pub found-accepted : first_of (records kv rbp key lasts (mix_names kv)) ≡ ok → record_status kv rbp key (first_name held) ≡ ok
    found-accepted h =
        let each = each-record kv rbp key lasts (mix_names kv) h in
        let one = lasts-one (sym (past-records kv rbp key lasts (mix_names kv) each) ∙ h) in
        each (first_name held) (selected_in own (mix_names kv) (first_name held) (first_in held one.0)).0

    one-lasts : 1 ≤ length held → length held < 2 → first_of lasts ≡ ok
    unfolding refuse_if
    one-lasts a b = rw (lt-leb 2 (length held) b, ne_eqb (length held) 0 (omega arith))

    findable : status ≡ ok → Findable kv rbp key session
    findable h =
        let r = ready_of h in
        let each = each-record kv rbp key lasts (mix_names kv) r.rest in
        let one = lasts-one (sym (past-records kv rbp key lasts (mix_names kv) each) ∙ r.rest) in
        let n = first_name held in
        let p = holder-of n (first_in held one.0) in
        let stat = each n (at_name kv p.i n p.at) in
        record {
          undamaged = r.undamaged;
          key_is_sized = r.key_is_sized;
          all_accepted = λ i name l a. (mix_data kv rbp key name, ok-accepted name (each name (at_name kv i name a)));
          i = p.i;
          holds = holds_of p.i n p.at stat p.session_is;
          alone = λ j q.
              let e = only-name held q.name (in-holders j q) one.1 in
              one_place kv r.undamaged.kv_intact j p.i n (rw e q.at) p.at;
        }

    -- two names that hold it would use one slot
    not-two : Findable kv rbp key session → length held < 2
    not-two f = split (leb 2 (length held)) (λ e. absurd (two (leb-true 2 (length held) e))) (λ e. leb-false 2 (length held) e)
      where
        place : (n : Name) → Memᴰ n held → slot_holder kv_format (get_or (slots kv_format kv) f.i []) ≡ some n
        place n h =
            let p = holder-of n h in
            let o = all-ok f.all_accepted n (at_name kv p.i n p.at) in
            let e = f.alone p.i (holds_of p.i n p.at o p.session_is) in
            rw e at p.at.held

        two : 2 ≤ length held → ⊥
        two l =
            let t = two-names held (distinct-selected own (mix_names kv) (names-distinct kv f.undamaged.kv_intact)) l in
            t.differ (some-injective _ _ (sym (place t.a t.a_in) ∙ place t.b t.b_in))

    module _ (f : Findable kv rbp key session) where
      found : status ≡ ok
      found =
          last-decides f.undamaged f.key_is_sized f.all_accepted
          ∙ one-lasts (in-length held f.holds.name (in-holders f.i f.holds)) (not-two f)

      found_data_lem : found_data kv rbp key session ≡ f.holds.bytes
      found_data_lem =
          let n = f.holds.name in
          ap (mix_data kv rbp key) (only-name held n (in-holders f.i f.holds) (not-two f)) ∙ accepted_data n f.holds.bytes f.holds.accepted

      found-mix : find_mix_by_session kv rbp key session ≡ decode_mix f.holds.bytes
      unfolding find_mix_by_session
      found-mix =
          let b = f.holds.bytes in
          let m = on-ok status (mix_of (found_data kv rbp key session)) zero_mix found ∙ ap mix_of found_data_lem in
          let e : find_mix_by_session kv rbp key session ≡ record { status = ok; mix = mix_of b } = λ i. record { status = found i; mix = m i } in
          e ∙ sym (decode-done b (decode-valid b f.holds.accepted.is_mix))

    -- ---- into a buffer

    module _ (buf : List ℕ) where
      short-status : length buf < 153 → first_of (find_tests kv rbp key (mix_buf_sized buf) session) ≡ 1
      unfolding find_tests
      short-status h =
          same_number _ 1 _ (same_number _ 1 _ (same_number _ 1 _ (decides (not (mix_buf_sized buf)) 1 _ (rw (lt-leb 153 (length buf) h)))))

      short-found : length buf < 153 → find_encoded_mix kv rbp key session buf ≡ refusing 1 buf
      unfolding find_encoded_mix buffer_answer on_ok
      short-found h = rw (short-status h)

      same_status : 153 ≤ length buf → (find_encoded_mix kv rbp key session buf).status ≡ status
      unfolding find_encoded_mix find_mix_by_session buffer_answer
      same_status h = ap (λ (t : Bool). first_of (find_tests kv rbp key t session)) (le-leb 153 (length buf) h)

      found-encoded : (f : Findable kv rbp key session) → 153 ≤ length buf → find_encoded_mix kv rbp key session buf ≡ holding buf f.holds.bytes
      unfolding find_encoded_mix buffer_answer on_ok
      found-encoded f h =
          let d = found_data kv rbp key session in
          ap (λ (n : ℕ). buffer_answer n d buf) (same_status h ∙ found f) ∙ ap (λ (b : List ℕ). buffer_answer ok b buf) (found_data_lem f)

    -- ---- the other numbers

    -- the lowest slot whose record is not accepted
    lowest-refused : Undamaged kv rbp → length key ≡ 16 → (i : ℕ) (n : Name) → AcceptedBelow kv rbp key i → MixAt kv i n
        → record_status kv rbp key n ≢ ok → status ≡ record_status kv rbp key n
    lowest-refused u k i n below a x =
        let c = slots_length kv_format kv in
        behind-front u k
        ∙ first-refused kv rbp key lasts (slots kv_format kv) i n (rw c a.in_range) a.held (name-mix n a.prefixed)
        (λ j m l e h.
        let b = below j m l (record { in_range = omega (arith, a.in_range); held = e; prefixed = mix-name m h }) in
        accepted-ok m b.0 b.1) x

    module _ (u : Undamaged kv rbp) (k : length key ≡ 16) (all : AcceptedBelow kv rbp key (slot_count kv_format kv)) where
      two-found : (i j : ℕ) → Holds kv rbp key session i → Holds kv rbp key session j → i ≢ j → status ≡ 21
      unfolding refuse_if
      two-found i j p q h =
          let differ : p.name ≢ q.name = λ e. h (one_place kv u.kv_intact i j q.name (rw e at p.at) q.at) in
          let l = two_in held p.name q.name (in-holders i p) (in-holders j q) differ in
          last-decides u k all ∙ rw (le-leb 2 (length held) l)

      none_found : ((i : ℕ) → ¬ Holds kv rbp key session i) → status ≡ 6
      unfolding refuse_if
      none_found h =
          let empty : length held ≡ 0 = split (eqb (length held) 0) (λ e. eqb-true (length held) 0 e) (λ e.
          let x = eqb-false (length held) 0 e in
          let n = first_name held in
          let p = holder-of n (first_in held (omega arith)) in
          absurd (h p.i (holds_of p.i n p.at (all-ok all n (at_name kv p.i n p.at)) p.session_is))) in
          last-decides u k all ∙ rw empty

  pub find-exact : FindExact kv rbp key
  find-exact = record {
    condition = λ session. (findable session, found session);
    gives = found-mix;
    session = λ session h.
        let f = findable session h in
        ap (λ (a : MixAnswer). a.mix.session_id) (found-mix session f) ∙ f.holds.session_is;
    short = short-found;
    encoded = found-encoded;
    same_number = same_status;
  }

  pub find-refusals : (session : ℕ) → FindRefusals kv rbp key session
  unfolding find_mix_by_session find_tests refuse_if mix_record
  find-refusals session = record {
    kv_length = λ h. rw h;
    rbp_length = λ h. split (sized kv_format kv) (λ e. rw (e, h)) (λ e. rw e);
    key_length = λ h. split (sized kv_format kv) (λ e. split (sized rbp_format rbp) (λ f. rw (e, f, ne_eqb (length key) 16 h)) (λ f. rw (e, f))) (λ e. rw e);
    kv_damage = λ a b k h. rw (a, b, k, h);
    rbp_damage = λ a b k h. split (intact kv_format kv) (λ e. rw (a, b, k, e, h)) (λ e. rw (a, b, k, e));
    get_refuses = λ u k i n below a x.
        let e = get_refused n x in
        lowest-refused session u k i n below a (λ z. x (sym e ∙ z)) ∙ e;
    bad_bytes = λ u k i n below a h x.
        let e = bytes-refused n h x in
        lowest-refused session u k i n below a (λ z. omega arith) ∙ e;
    two = two-found session;
    none = none_found session;
  }
