-- The calls on mixes: what they answer, what keeping refuses and stores, and that a kept mix is found. Assumes nothing.
use mathlib.Core.Path.{◌≡◌, refl, sym, ap, subst, ◌∙◌}
use mathlib.Core.Logic.{◌≢◌}
use mathlib.Core.Bool.{Bool, true, false}
use mathlib.Core.List.{List, [], ◌∷◌, map, flatten}
use Prim.Native.Nat.{ℕ, ◌≤◌}
use native.Mathlib.Omega.{arith}
use lib.Ieee.{Float}
use lib.ListN.{length, take, drop}
use lib.Seq.{take_at, take-append_seam, length-take-le}
use Rattle.buffers.specs.Bytes.{every, bytes_eq, zeros}
use Rattle.spec.specs.Status.{ok, is_listed, Test, refuse_if, first_of, on_ok, Answer}
use Rattle.spec.specs.Name.{Name}
use Rattle.spec.specs.Area.{kv_format}
use Rattle.spec.specs.Interleaving.{Outcome}
use Rattle.spec.specs.Calls.{Areas, areas, store_set, store_get}
use Rattle.spec.specs.Demand1.{Well}
use Rattle.spec.specs.Demand2.{Readable, Stores}
use Rattle.spec.specs.Shapes.{AreBytes}
use Rattle.buffers.proofs.Split.{split}
use Rattle.buffers.proofs.Bytes.{bytes_eq-eq}
use Rattle.spec.proofs.NameLists.{other_name}
use Rattle.spec.proofs.Chunks.{slot-at}
use Rattle.spec.proofs.Area.{find-of-some}
use Rattle.spec.proofs.Intact.{lookup-shape}
use Rattle.spec.proofs.Status.{number, first-listed, on-refused}
use Rattle.spec.proofs.Demand1.{buffer_well, demand1-holds}
use Rattle.spec.proofs.Set.{round_trip, set_exact}
use Rattle.mix.specs.Mix.{MixAnswer, counted, mix_in_range, mix_bytes, session_at, count_at, mix_valid, mix_of, decode_mix}
use Rattle.mix.specs.Mix.{zero_mix, mix_buf_sized, encode_tests, encode_mix}
use Rattle.mix.specs.Calls.{mix_named, store_if_valid, store_mix, store_encoded_mix, mix_names, mix_record, mix_data, find_tests, found_data}
use Rattle.mix.specs.Calls.{find_encoded_mix, find_mix_by_session}
use Rattle.mix.specs.Arrays.{mix_from, encode_sends_tests, encode_sends, SendArrays, decode_sends_tests, spread_over, decode_sends}
use Rattle.mix.specs.Laws.{InRange, MixName, MixWell, MixCallsWell, holding, refused_with, cut, StoreMixExact}
use Rattle.mix.specs.Laws.{MixFits, MixAt, Accepted, session_in, Findable, StoreFinds, StoreFindsEncoded}
use Rattle.mix.specs.declared.monitor.MonitorMix.{MonitorMix}
use Rattle.mix.proofs.Scan.{records}
use Rattle.mix.proofs.Read.{not_decoded_lem, got-readable, data_opened}
use Rattle.mix.proofs.MixLaws.{decode-valid, decode-done, mix-range-to, mix-range-of, valid-well, read_fits, decode-exact}
use Rattle.mix.proofs.Names.{mix-name, name-mix, one_place}
use Rattle.mix.proofs.FindLaws.{accepted_data, find-exact}

-- ---- demand 1

refusal-well : (kv rbp : List ℕ) (n : ℕ) → is_listed n ≡ true → Well 0 [] (areas kv rbp) (refused_with kv rbp n)
refusal-well kv rbp n l = record { listed = l; numbers = λ h. refl; output = λ h. refl; after = λ h. refl }

decoded_well : (b : List ℕ) → MixWell (decode_mix b)
unfolding decode_mix is_listed
decoded_well b = split (mix_valid b)
    (λ e. rw e (record { listed = refl; empty = λ h. absurd (h refl) }))
    (λ e. rw e (record { listed = refl; empty = λ h. refl }))

encode-listed : (good : Bool) (buf : List ℕ) → is_listed (first_of (encode_tests good buf)) ≡ true
unfolding encode_tests is_listed
encode-listed good buf = first-listed (encode_tests good buf) refl

encode-sends-listed : (m : MonitorMix) (tags : List ℕ) (levels pans : List Float) (buf : List ℕ)
    → is_listed (first_of (encode_sends_tests m tags levels pans buf)) ≡ true
unfolding encode_sends_tests is_listed
encode-sends-listed m tags levels pans buf = first-listed (encode_sends_tests m tags levels pans buf) refl

decode-sends-listed : (b : List ℕ) (a : SendArrays) → is_listed (first_of (decode_sends_tests b a)) ≡ true
unfolding decode_sends_tests is_listed
decode-sends-listed b a = first-listed (decode_sends_tests b a) refl

-- ---- keeping

module _ (kv rbp key : List ℕ) (name : Name) (flags : ℕ) (iv : List ℕ) (good : Bool) (b : List ℕ) where
  abbrev keeping : Outcome Areas Answer
  keeping = store_if_valid kv rbp key name flags iv good b

  kept-bad : good ≡ false → keeping ≡ refused_with kv rbp 20
  unfolding store_if_valid on_ok refuse_if
  kept-bad h = rw h

  kept-other : good ≡ true → mix_named name ≡ false → keeping ≡ refused_with kv rbp 3
  unfolding store_if_valid on_ok refuse_if
  kept-other h n = rw (h, n)

  kept_set : good ≡ true → mix_named name ≡ true → keeping ≡ store_set kv rbp key name flags iv b
  unfolding store_if_valid on_ok refuse_if
  kept_set h n = rw (h, n)

  kept-well : Well 0 [] (areas kv rbp) keeping
  unfolding is_listed
  kept-well = split good
      (λ e. split (mix_named name)
      (λ n. rw (kept_set e n) (demand1-holds.of_set kv rbp key name flags iv b))
      (λ n. rw (kept-other e n) (refusal-well kv rbp 3 refl)))
      (λ e. rw (kept-bad e) (refusal-well kv rbp 20 refl))

  -- what is done was good, and of a mix's name
  done-kept : keeping.answer.status ≡ ok → (good ≡ true) × (mix_named name ≡ true)
  done-kept h = split good
      (λ e. split (mix_named name) (λ n. (e, n)) (λ n. absurd (omega (arith, rw (kept-other e n) at h))))
      (λ e. absurd (omega (arith, rw (kept-bad e) at h)))

module _ (kv rbp key : List ℕ) where
  got-listed : (n : Name) → is_listed (mix_record kv rbp key n).status ≡ true
  unfolding mix_record
  got-listed n = (demand1-holds.of_get kv rbp key n 0 (zeros 480)).listed

  records-listed : (m : List Test) (ns : List Name) → every is_listed (map number m) ≡ true → every is_listed (map number (records kv rbp key m ns)) ≡ true
  unfolding flatten is_listed
  records-listed m [] h = h
  records-listed m (n ∷ ns) h = rw (got-listed n) (records-listed m ns h)

  find-listed : (lengths : Bool) (session : ℕ) → is_listed (first_of (find_tests kv rbp key lengths session)) ≡ true
  unfolding find_tests is_listed
  find-listed lengths session = first-listed (find_tests kv rbp key lengths session) (records-listed _ (mix_names kv) refl)

  pub mix-calls-well : MixCallsWell kv rbp key
  unfolding store_mix store_encoded_mix find_mix_by_session find_encoded_mix encode_mix encode_sends decode_sends
  mix-calls-well = record {
    of_store = λ name flags iv m. kept-well kv rbp key name flags iv (mix_in_range m) (mix_bytes m);
    of_store_encoded = λ name flags iv b. kept-well kv rbp key name flags iv (mix_valid b) b;
    of_find = λ session. record { listed = find-listed true session; empty = λ h. on-refused _ _ zero_mix h };
    of_find_encoded = λ session buf. buffer_well _ (found_data kv rbp key session) buf (areas kv rbp) (find-listed (mix_buf_sized buf) session);
    of_decode = decoded_well;
    of_encode = λ m buf. buffer_well _ (mix_bytes m) buf (areas kv rbp) (encode-listed (mix_in_range m) buf);
    of_encode_sends = λ session tags levels pans buf.
        let m = mix_from session tags levels pans in
        buffer_well _ (mix_bytes m) buf (areas kv rbp) (encode-sends-listed m tags levels pans buf);
    of_decode_sends = λ b a. (
      decode-sends-listed b a,
      λ h.
          let n = first_of (decode_sends_tests b a) in
          λ i. record {
            status = n;
            session = on-refused n (session_at b) 0 h i;
            count = on-refused n (count_at b) 0 h i;
            arrays = on-refused n (spread_over (mix_of b) a) a h i;
          },
    );
  }

module _ (kv rbp key : List ℕ) (name : Name) (flags : ℕ) (iv : List ℕ) where
  not_named : (¬ MixName name) → mix_named name ≡ false
  not_named h = split (mix_named name) (λ e. absurd (h (mix-name name e))) (λ e. e)

  done-is-set : (m : MonitorMix) → (store_mix kv rbp key name flags iv m).answer.status ≡ ok
      → store_mix kv rbp key name flags iv m ≡ store_set kv rbp key name flags iv (mix_bytes m)
  unfolding store_mix
  done-is-set m h =
      let d = done-kept kv rbp key name flags iv (mix_in_range m) (mix_bytes m) h in
      kept_set kv rbp key name flags iv (mix_in_range m) (mix_bytes m) d.0 d.1

  set-done : (m : MonitorMix) → (store_mix kv rbp key name flags iv m).answer.status ≡ ok
      → (store_set kv rbp key name flags iv (mix_bytes m)).answer.status ≡ ok
  set-done m h = sym (ap (λ (o : Outcome Areas Answer). o.answer.status) (done-is-set m h)) ∙ h

  mix-stores : (m : MonitorMix) → (store_mix kv rbp key name flags iv m).answer.status ≡ ok
      → Stores kv rbp key name flags iv (mix_bytes m) (store_mix kv rbp key name flags iv m)
  mix-stores m h =
      let x = set_exact kv rbp key name flags iv (mix_bytes m) in
      subst (Stores kv rbp key name flags iv (mix_bytes m)) (sym (done-is-set m h)) (x.gives (x.condition.0 (set-done m h)))

not_in-range : (m : MonitorMix) → (¬ InRange m) → mix_in_range m ≡ false
not_in-range m h = split (mix_in_range m) (λ e. absurd (h (mix-range-to m e))) (λ e. e)

-- sends behind the count do not count
cut_range : (m : MonitorMix) → length m.sends ≡ 16 → InRange m → mix_in_range (cut m) ≡ true
unfolding mix_in_range
cut_range m l h =
    let s = take m.count m.sends in
    let e : counted (cut m) ≡ counted m = take_at s _ m.count (length-take-le m.count m.sends (omega (arith, h.count))) in
    rw e (mix-range-of m h)

decoded_range : (b : List ℕ) → AreBytes b → (decode_mix b).status ≡ ok → mix_in_range (decode_mix b).mix ≡ true
decoded_range b a h =
    let k = (decode-exact.condition b a).0 h in
    let e = ap decode_mix k.bytes ∙ decode-exact.gives k.mix k.has_widths k.in_range in
    rw (ap (λ (x : MixAnswer). x.mix) e) (cut_range k.mix k.has_widths.sends k.in_range)

module _ (kv rbp key : List ℕ) (name : Name) (flags : ℕ) (iv : List ℕ) where
  pub store-mix-exact : StoreMixExact kv rbp key name flags iv
  unfolding store_mix store_encoded_mix
  store-mix-exact = record {
    out_of_range = λ m h. kept-bad kv rbp key name flags iv (mix_in_range m) (mix_bytes m) (not_in-range m h);
    other_name = λ m h n. kept-other kv rbp key name flags iv (mix_in_range m) (mix_bytes m) (mix-range-of m h) (not_named kv rbp key name flags iv n);
    is_set = λ m h n. kept_set kv rbp key name flags iv (mix_in_range m) (mix_bytes m) (mix-range-of m h) (name-mix name n);
    bad_bytes = λ b h. kept-bad kv rbp key name flags iv (mix_valid b) b (not_decoded_lem b h);
    encoded = λ b a h. rw (decode-valid b h, decoded_range b a h, decode-exact.back b a h);
    stores = mix-stores kv rbp key name flags iv;
  }

-- ---- a mix that was kept is found

-- where a get gives its bytes whole, and no other record of a mix is refused or holds the session
module _ (kv rbp key name : List ℕ) (m : MonitorMix)
    (got : (store_get kv rbp key name 0 (zeros 480)).answer ≡ holding (zeros 480) (mix_bytes m))
    (named : mix_named name ≡ true) (is_mix : decode_mix (mix_bytes m) ≡ record { status = ok; mix = cut m })
    (others : (i : ℕ) (other : Name) → MixAt kv i other → other ≢ name → (b : List ℕ) × Accepted kv rbp key other b × (session_in b ≢ m.session_id)) where
  readable : Readable kv rbp key name 0
  unfolding mix_record
  readable = got-readable kv rbp key name (ap (λ (a : Answer). a.status) got)

  data_is : mix_data kv rbp key name ≡ mix_bytes m
  unfolding mix_data mix_record
  data_is = rw got (take-append_seam (mix_bytes m) (drop (length (mix_bytes m)) (zeros 480)))

  accepted : Accepted kv rbp key name (mix_bytes m)
  accepted = record {
    readable = readable;
    plaintext = sym (data_opened kv rbp key name readable) ∙ data_is;
    is_mix = ap (λ (a : MixAnswer). a.status) is_mix;
  }

  place : (i : ℕ) × MixAt kv i name
  place =
      let s = find-of-some kv_format kv name readable.r readable.found in
      let p = ((lookup-shape kv_format kv name).slot s.0).0 s.1 in
      (p.i, record { in_range = p.in_range; held = rw (slot-at kv_format kv p.i p.in_range) p.held; prefixed = mix-name name named })

  findable : Findable kv rbp key m.session_id
  findable = record {
    undamaged = readable.undamaged;
    key_is_sized = readable.key_is_sized;
    all_accepted = λ i n l a. split (bytes_eq n name)
        (λ e. (mix_bytes m, rw (bytes_eq-eq n name e) accepted))
        (λ e. let q = others i n a (other_name n name e) in (q.0, q.1));
    i = place.0;
    holds = record {
      name = name;
      at = place.1;
      bytes = mix_bytes m;
      accepted = accepted;
      session_is = ap (λ (a : MixAnswer). a.mix.session_id) is_mix;
    };
    alone = λ j h. split (bytes_eq h.name name)
        (λ e. one_place kv readable.undamaged.kv_intact j place.0 name (rw (bytes_eq-eq h.name name e) at h.at) place.1)
        (λ e.
        let q = others j h.name h.at (other_name h.name name e) in
        let same = sym (accepted_data kv rbp key h.name q.0 q.1) ∙ accepted_data kv rbp key h.name h.bytes h.accepted in
        absurd (q.2 (ap session_in same ∙ h.session_is)));
  }

  found-whole : find_mix_by_session kv rbp key m.session_id ≡ record { status = ok; mix = cut m }
  unfolding findable
  found-whole = (find-exact kv rbp key).gives m.session_id findable ∙ is_mix

  found-bytes : (buf : List ℕ) → 153 ≤ length buf → find_encoded_mix kv rbp key m.session_id buf ≡ holding buf (mix_bytes m)
  unfolding findable
  found-bytes buf long = (find-exact kv rbp key).encoded m.session_id buf findable long

-- after a done store: what a get of the name gives, that the name is a mix's, and that its bytes are the mix
module _ (kv rbp key : List ℕ) (name : Name) (flags : ℕ) (iv : List ℕ) (m : MonitorMix) (h : (store_mix kv rbp key name flags iv m).answer.status ≡ 0) where
  abbrev after : Areas
  after = (store_mix kv rbp key name flags iv m).after

  stored-got : (store_get after.kv after.rbp key name 0 (zeros 480)).answer ≡ holding (zeros 480) (mix_bytes m)
  stored-got =
      let b = mix_bytes m in
      let e = done-is-set kv rbp key name flags iv m h in
      let s = set-done kv rbp key name flags iv m h in
      let l = ((set_exact kv rbp key name flags iv b).condition.0 s).value_sized in
      let g = round_trip kv rbp key name flags iv b (zeros 480) s l in
      subst (λ (o : Outcome Areas Answer). (store_get o.after.kv o.after.rbp key name 0 (zeros 480)).answer ≡ holding (zeros 480) b) (sym e)
      (ap (λ (o : Outcome Areas Answer). o.answer) g)

  stored-named : mix_named name ≡ true
  unfolding store_mix
  stored-named = (done-kept kv rbp key name flags iv (mix_in_range m) (mix_bytes m) h).1

  stored-mix : MixFits m → decode_mix (mix_bytes m) ≡ record { status = ok; mix = cut m }
  unfolding store_mix
  stored-mix fits = decode-exact.gives m fits (mix-range-to m (done-kept kv rbp key name flags iv (mix_in_range m) (mix_bytes m) h).0)

pub store-finds : StoreFinds
store-finds kv rbp key name flags iv m h fits others = found-whole _ _ key name m
    (stored-got kv rbp key name flags iv m h) (stored-named kv rbp key name flags iv m h) (stored-mix kv rbp key name flags iv m h fits) others

encoded-done : (kv rbp key : List ℕ) (name : Name) (flags : ℕ) (iv b : List ℕ) → (store_encoded_mix kv rbp key name flags iv b).answer.status ≡ 0
    → (decode_mix b).status ≡ 0
unfolding store_encoded_mix
encoded-done kv rbp key name flags iv b h = (decode-exact.valid b).0 (done-kept kv rbp key name flags iv (mix_valid b) b h).0

decoded_fits : (b : List ℕ) → AreBytes b → (decode_mix b).status ≡ 0 → MixFits (decode_mix b).mix
decoded_fits b a h =
    let v = (decode-exact.valid b).1 h in
    rw (decode-done b v) (read_fits b a (valid-well b a v))

pub store-finds-encoded : StoreFindsEncoded
store-finds-encoded kv rbp key name flags iv b buf h bytes long =
    let d = encoded-done kv rbp key name flags iv b h in
    let m = (decode_mix b).mix in
    let e = (store-mix-exact kv rbp key name flags iv).encoded b bytes d in
    let fits : MixFits m = decoded_fits b bytes d in
    let k = sym (ap (λ (o : Outcome Areas Answer). o.answer.status) e) ∙ h in
    subst (λ (o : Outcome Areas Answer).
    ((i : ℕ) (other : Name) → MixAt o.after.kv i other → other ≢ name
    → (c : List ℕ) × Accepted o.after.kv o.after.rbp key other c × (session_in c ≢ session_in b))
    → find_encoded_mix o.after.kv o.after.rbp key (session_in b) buf ≡ holding buf b) (sym e)
    (λ others. found-bytes _ _ key name m
    (stored-got kv rbp key name flags iv m k) (stored-named kv rbp key name flags iv m k) (stored-mix kv rbp key name flags iv m k fits) others buf long
    ∙ ap (holding buf) (decode-exact.back b bytes d))
