-- The calls on key files: what they answer, what they refuse, and that a saved key is loaded. Assumes nothing.
use mathlib.Core.Path.{◌≡◌, refl, sym, ap, subst, ◌∙◌}
use mathlib.Core.Bool.{Bool, true, false, cond, not}
use mathlib.Core.List.{List, [], ◌∷◌}
use Prim.Native.Nat.{ℕ, ◌≤◌}
use native.Mathlib.Omega.{arith}
use borrow.Author.Tests.{leb-true, le-leb, lt-leb}
use lib.Dec.{leb}
use lib.ListN.{length, drop}
use lib.Seq.{take-append_seam}
use Rattle.buffers.specs.Bytes.{every, zeros}
use Rattle.spec.specs.Status.{ok, is_listed, first_of, Answer, buffer_answer, bytes_given}
use Rattle.spec.specs.Name.{key_name}
use Rattle.spec.specs.Interleaving.{Outcome}
use Rattle.spec.specs.Calls.{Areas, areas, store_set, store_get}
use Rattle.spec.specs.Demand1.{Well}
use Rattle.spec.specs.Demand2.{Readable, opened, Stores}
use Rattle.buffers.proofs.Split.{split, not-false-is}
use Rattle.spec.proofs.Status.{first-listed, passed, got-ok, answer-done}
use Rattle.spec.proofs.Demand1.{buffer_well, demand1-holds}
use Rattle.spec.proofs.Get.{get_exact}
use Rattle.spec.proofs.Whole.{whole-given}
use Rattle.spec.proofs.Set.{round_trip, set_exact}
use Rattle.keys.specs.KeyFile.{format_key_file, key_file_valid}
use Rattle.keys.specs.Calls.{format_tests, write_key_file, save_key, key_record, load_tests, load_key}
use Rattle.keys.specs.Laws.{WellFormed, KeyCallsWell, KeyRefusals, holding, FormatGives, LoadReady, LoadExact, SaveExact, SaveLoads}
use Rattle.keys.specs.declared.key_file.KeyAttributes.{KeyAttributes}
use Rattle.keys.proofs.Header.{is_well_formed, is-valid}
use Rattle.keys.proofs.Written.{file-length, short_buffer, long-material, writes}
use Rattle.keys.proofs.Loaded.{not-got, not-a-file, loads}
use Rattle.keys.proofs.FileLaws.{written-formed}

-- ---- demand 1

format_listed : (m buf : List ℕ) → is_listed (first_of (format_tests m buf)) ≡ true
unfolding format_tests is_listed
format_listed m buf = first-listed (format_tests m buf) refl

listed-with : (n : ℕ) → is_listed n ≡ true → every is_listed (1 ∷ n ∷ 13 ∷ []) ≡ true
unfolding is_listed
listed-with n h = rw h

module _ (kv rbp key : List ℕ) (id : ℕ) where
  got-listed : is_listed (key_record kv rbp key id).status ≡ true
  unfolding key_record
  got-listed = (demand1-holds.of_get kv rbp key (key_name id) 0 (zeros 480)).listed

  load-listed : (buf : List ℕ) → is_listed (first_of (load_tests kv rbp key id buf)) ≡ true
  unfolding load_tests
  load-listed buf = first-listed (load_tests kv rbp key id buf) (listed-with (key_record kv rbp key id).status got-listed)

fits-well : (t : Bool) (kv rbp : List ℕ) (o : Outcome Areas Answer) → Well 0 [] (areas kv rbp) o
    → Well 0 [] (areas kv rbp) (cond t o (record { answer = record { status = 13; numbers = []; output = [] }; after = areas kv rbp }))
unfolding is_listed
fits-well true kv rbp o h = h
fits-well false kv rbp o h = record { listed = refl; numbers = λ n. refl; output = λ n. refl; after = λ n. refl }

pub key-calls-well : KeyCallsWell
unfolding write_key_file save_key load_key
key-calls-well = record {
  of_format = λ s a m buf. buffer_well (first_of (format_tests m buf)) (format_key_file a m) buf s (format_listed m buf);
  of_save = λ kv rbp key id a m flags iv.
      fits-well (leb (length m) 444) kv rbp _ (demand1-holds.of_set kv rbp key (key_name id) flags iv (format_key_file a m));
  of_load = λ kv rbp key id buf.
      let n = first_of (load_tests kv rbp key id buf) in
      buffer_well n (bytes_given (key_record kv rbp key id)) buf (areas kv rbp) (load-listed kv rbp key id buf);
}

-- ---- what a get of a key's record gives

module _ (kv rbp key : List ℕ) (id : ℕ) where
  got-readable : (key_record kv rbp key id).status ≡ ok → Readable kv rbp key (key_name id) 0
  unfolding key_record
  got-readable h = (get_exact kv rbp key (key_name id) 0 (zeros 480)).condition.0 h

  readable-got : Readable kv rbp key (key_name id) 0 → (key_record kv rbp key id).status ≡ ok
  unfolding key_record
  readable-got h = (get_exact kv rbp key (key_name id) 0 (zeros 480)).condition.1 h

  file-opened : (h : Readable kv rbp key (key_name id) 0) → bytes_given (key_record kv rbp key id) ≡ opened key (key_name id) h.r
  unfolding key_record
  file-opened h = whole-given kv rbp key (key_name id) h

  -- ---- a load

  module _ (buf : List ℕ) where
    load-ready : first_of (load_tests kv rbp key id buf) ≡ ok → LoadReady kv rbp key id buf
    unfolding load_tests
    load-ready h =
        let f = bytes_given (key_record kv rbp key id) in
        let a = passed (not (leb 480 (length buf))) 1 _ (omega arith) h in
        let s = got-ok (key_record kv rbp key id).status _ a.1 in
        let b = passed (not (key_file_valid f)) 13 ok (omega arith) s.1 in
        let r = got-readable s.0 in
        record {
          room = leb-true 480 (length buf) (not-false-is (leb 480 (length buf)) a.0);
          readable = r;
          is_well_formed = rw (file-opened r) at (is_well_formed f (not-false-is (key_file_valid f) b.0));
        }

    -- a load of a record that is a file
    module _ (f : List ℕ) (room : 480 ≤ length buf) (got : (key_record kv rbp key id).status ≡ ok) (is_f : bytes_given (key_record kv rbp key id) ≡ f)
        (formed : WellFormed f) where
      file-loads : first_of (load_tests kv rbp key id buf) ≡ ok
      file-loads = loads kv rbp key id buf room (key_record kv rbp key id) refl got (rw is_f (is-valid f formed))

      pub file-loaded : load_key kv rbp key id buf ≡ holding buf f
      unfolding load_key
      file-loaded =
          let status = first_of (load_tests kv rbp key id buf) in
          ap (λ (l : List ℕ). buffer_answer status l buf) is_f ∙ sym (answer-done status (length f) f buf _ file-loads refl refl)

    module _ (h : LoadReady kv rbp key id buf) where
      abbrev file : List ℕ
      file = opened key (key_name id) h.readable.r

      ready-loads : first_of (load_tests kv rbp key id buf) ≡ ok
      ready-loads = file-loads file h.room (readable-got h.readable) (file-opened h.readable) h.is_well_formed

      ready-gives : load_key kv rbp key id buf ≡ holding buf file
      ready-gives = file-loaded file h.room (readable-got h.readable) (file-opened h.readable) h.is_well_formed

    file-refused : 480 ≤ length buf → (h : Readable kv rbp key (key_name id) 0) → ¬ WellFormed (opened key (key_name id) h.r)
        → first_of (load_tests kv rbp key id buf) ≡ 13
    file-refused l h w =
        let g = key_record kv rbp key id in
        let v : key_file_valid (bytes_given g) ≡ false =
        split (key_file_valid (bytes_given g)) (λ e. absurd (w (rw (file-opened h) at (is_well_formed (bytes_given g) e)))) (λ e. e) in
        not-a-file kv rbp key id buf l g refl (readable-got h) v

pub load-exact : LoadExact
unfolding load_key buffer_answer
load-exact = record {
  condition = λ kv rbp key id buf. (load-ready kv rbp key id buf, ready-loads kv rbp key id buf);
  gives = ready-gives;
}

pub format_gives : FormatGives
unfolding write_key_file
format_gives a m buf h k =
    let f = format_key_file a m in
    sym (answer-done (first_of (format_tests m buf)) (length f) f buf _ (writes m buf h k) refl refl)

pub key-refusals : KeyRefusals
unfolding write_key_file format_tests buffer_answer save_key load_key load_tests key_record
key-refusals = record {
  format_length = λ a m buf h. short_buffer buf _ h;
  format_material = λ a m buf h k. long-material m buf h k;
  save_material = λ kv rbp key id a m flags iv h. rw (lt-leb (length m) 444 h);
  load_length = λ kv rbp key id buf h. short_buffer buf _ h;
  load_get = λ kv rbp key id buf l n. not-got kv rbp key id buf l (key_record kv rbp key id) refl n;
  load_file = file-refused;
}

-- ---- a saved key is loaded

saved_fits : (t : Bool) (kv rbp : List ℕ) (o : Outcome Areas Answer)
    → (cond t o (record { answer = record { status = 13; numbers = []; output = [] }; after = areas kv rbp })).answer.status ≡ ok → t ≡ true
saved_fits true kv rbp o h = refl
saved_fits false kv rbp o h = absurd (omega (arith, h))

save_is_set : (kv rbp key : List ℕ) (id : ℕ) (a : KeyAttributes) (m : List ℕ) (flags : ℕ) (iv : List ℕ) → length m ≤ 444
    → save_key kv rbp key id a m flags iv ≡ store_set kv rbp key (key_name id) flags iv (format_key_file a m)
unfolding save_key
save_is_set kv rbp key id a m flags iv h = rw (le-leb (length m) 444 h)

done-fits : (kv rbp key : List ℕ) (id : ℕ) (a : KeyAttributes) (m : List ℕ) (flags : ℕ) (iv : List ℕ)
    → (save_key kv rbp key id a m flags iv).answer.status ≡ ok → length m ≤ 444
unfolding save_key
done-fits kv rbp key id a m flags iv h = leb-true (length m) 444 (saved_fits (leb (length m) 444) kv rbp _ h)

pub save_exact : SaveExact
save_exact = record {
  is_set = save_is_set;
  stores = λ kv rbp key id a m flags iv h.
      let f = format_key_file a m in
      let e = save_is_set kv rbp key id a m flags iv (done-fits kv rbp key id a m flags iv h) in
      let x = set_exact kv rbp key (key_name id) flags iv f in
      let done = sym (ap (λ (o : Outcome Areas Answer). o.answer.status) e) ∙ h in
      subst (Stores kv rbp key (key_name id) flags iv f) (sym e) (x.gives (x.condition.0 done));
}

-- a load of what a get gives whole
got-loaded : (kv rbp key : List ℕ) (id : ℕ) (f buf : List ℕ) → WellFormed f → 480 ≤ length buf
    → (store_get kv rbp key (key_name id) 0 (zeros 480)).answer ≡ holding (zeros 480) f → load_key kv rbp key id buf ≡ holding buf f
unfolding key_record
got-loaded kv rbp key id f buf w room e =
    let whole = ap bytes_given e ∙ take-append_seam f (drop (length f) (zeros 480)) in
    file-loaded kv rbp key id buf f room (ap (λ (g : Answer). g.status) e) whole w

pub save_loads : SaveLoads
save_loads kv rbp key id a m flags iv buf h k =
    let l = done-fits kv rbp key id a m flags iv h in
    let f = format_key_file a m in
    let n = file-length a m in
    let e = save_is_set kv rbp key id a m flags iv l in
    let done = sym (ap (λ (o : Outcome Areas Answer). o.answer.status) e) ∙ h in
    let g = round_trip kv rbp key (key_name id) flags iv f (zeros 480) done (omega arith) in
    rw e (got-loaded _ _ key id f buf (written-formed a m l) k (ap (λ (o : Outcome Areas Answer). o.answer) g))
