-- Demand 2, the exact condition for a get's 0, and what it then gives; the same for info.
use mathlib.Core.Path.{◌≡◌, refl, sym, ap, ◌∙◌}
use mathlib.Core.Bool.{true, false, not}
use mathlib.Core.List.{List, [], ◌∷◌, ◌++◌}
use mathlib.Core.Option.{Option, none, some}
use Prim.Native.Nat.{ℕ}
use borrow.Author.Tests.{eqb-true, eq-eqb, leb-true, le-leb}
use lib.Dec.{leb}
use lib.ListN.{length}
use Rattle.cipher.specs.Cmac.{cmac}
use Rattle.cipher.specs.Kdf.{derived_key, auth_prefix}
use Rattle.buffers.specs.Bytes.{is_some}
use Rattle.spec.specs.Status.{ok, Test, ◌when◌}
use Rattle.spec.specs.Name.{valid_name}
use Rattle.spec.specs.Record.{require_integrity, require_replay_protection, data_size_of, flags_of, metadata_of, stored_data_of, tag_of, well_formed}
use Rattle.spec.specs.Record.{enc_key, auth_key, crypt, record_cmac, mac_ok, plaintext}
use Rattle.spec.specs.Area.{kv_format, rbp_format, lookup}
use Rattle.spec.specs.Request.{Binding, status_of}
use Rattle.spec.specs.Decisions.{key_sized, tag_matches, get_held, get_tests, get_request, get_info_request, read_count, read_output}
use Rattle.spec.specs.Calls.{areas, binding_of, store_world, store_get, store_get_info}
use Rattle.spec.specs.Demand2.{Readable, reads, GetExact, InfoExact}
use Rattle.buffers.proofs.Split.{split_o, clash, not-false-is}
use Rattle.buffers.proofs.Bytes.{bytes_eq-eq, eq-bytes_eq}
use Rattle.spec.proofs.Status.{Passed}
use Rattle.spec.proofs.World.{run-done, accepted, acceptable}
use Rattle.spec.proofs.Decision.{flagged, unflagged, held-flagged, flagged-held}

pub mac_eq : (key name r : List ℕ) → mac_ok key name r ≡ true → tag_of r ≡ cmac (derived_key key auth_prefix name) (name ++ (metadata_of r ++ stored_data_of r))
unfolding mac_ok record_cmac auth_key
mac_eq key name r h = sym (bytes_eq-eq _ (tag_of r) h)

pub eq_mac : (key name r : List ℕ) → tag_of r ≡ cmac (derived_key key auth_prefix name) (name ++ (metadata_of r ++ stored_data_of r)) → mac_ok key name r ≡ true
unfolding mac_ok record_cmac auth_key
eq_mac key name r h = eq-bytes_eq _ (tag_of r) (sym h)

pub match-eq : (o : Option (List ℕ)) (r : List ℕ) → tag_matches o r ≡ true → o ≡ some (tag_of r)
match-eq none r h = clash false h refl
match-eq (some t) r h = ap some (bytes_eq-eq t (tag_of r) h)

pub eq-match : (o : Option (List ℕ)) (r : List ℕ) → o ≡ some (tag_of r) → tag_matches o r ≡ true
eq-match o r h = rw h (eq-bytes_eq (tag_of r) (tag_of r) refl)

module _ (kv rbp key name : List ℕ) (offset : ℕ) where
  abbrev b : Binding
  b = binding_of kv rbp name

  abbrev early : List Test
  early = (1 when not (key_sized key)) ∷ []

  abbrev pub get_status : ℕ
  get_status = status_of store_world (areas kv rbp) (get_request require_replay_protection key name offset [])

  pub accepted-readable : get_status ≡ ok → Readable kv rbp key name offset
  unfolding get_held
  accepted-readable h =
      let a = accepted (areas kv rbp) early (get_tests require_replay_protection key name offset b) refl h in
      let t = a.rest.1.1 in
      split_o (lookup kv_format kv name) (λ e. clash (not (is_some b.stored)) (rw e) t.0) (λ r e.
      let p = rw e at t.1 in
      record {
        undamaged = a.undamaged;
        key_is_sized = eqb-true (length key) 16 (not-false-is _ a.lengths.0);
        name_valid = not-false-is (valid_name name) a.rest.0;
        r = r;
        found = e;
        valid = not-false-is (well_formed r) p.0;
        authentic = λ f. mac_eq key name r (flagged (require_integrity (flags_of r)) (mac_ok key name r) p.1.0 f);
        fresh = λ f. match-eq (lookup rbp_format rbp name) r (flagged (require_replay_protection (flags_of r)) (tag_matches b.tag r) p.1.1.0 f);
        not_downgraded = λ t f. held-flagged (require_replay_protection (flags_of r)) (lookup rbp_format rbp name) t p.1.1.1.0 f;
        in_range = leb-true offset (data_size_of r) (not-false-is (leb offset (data_size_of r)) p.1.1.1.1.0);
      })

  held-passed : (h : Readable kv rbp key name offset) → Passed (get_tests require_replay_protection key name offset b)
  unfolding get_held
  held-passed h = (
    rw h.name_valid,
    rw h.found (
      refl,
      (
        refl,
        (
          rw h.valid,
          (
            unflagged _ _ (λ f. eq_mac key name h.r (h.authentic f)),
            (
              unflagged _ _ (λ f. eq-match (lookup rbp_format rbp name) h.r (h.fresh f)),
              (
                flagged-held _ (lookup rbp_format rbp name) h.not_downgraded,
                (
                  rw (le-leb offset (data_size_of h.r) h.in_range),
                  tt,
                ),
              ),
            ),
          ),
        ),
      ),
    ),
  )

  pub readable-accepted : Readable kv rbp key name offset → get_status ≡ ok
  readable-accepted h = acceptable (areas kv rbp) early (get_tests require_replay_protection key name offset b) (record {
    undamaged = h.undamaged;
    lengths = (rw (eq-eqb (length key) 16 h.key_is_sized), tt);
    rest = held-passed h;
  })

  given : (output : List ℕ) (h : Readable kv rbp key name offset) → store_get kv rbp key name offset output ≡ reads kv rbp key name offset output h.r
  unfolding store_get read_count read_output plaintext crypt enc_key
  given output h = run-done store_world (areas kv rbp) (get_request require_replay_protection key name offset output) (readable-accepted h) ∙ rw h.found

pub get_exact : GetExact
unfolding store_get
get_exact kv rbp key name offset output = record {
  condition = (accepted-readable kv rbp key name offset, readable-accepted kv rbp key name offset);
  gives = given kv rbp key name offset output;
}

pub info_exact : InfoExact
unfolding store_get_info
info_exact kv rbp key name = record {
  condition = (accepted-readable kv rbp key name 0, readable-accepted kv rbp key name 0);
  gives = λ h.
      run-done store_world (areas kv rbp) (get_info_request require_replay_protection key name) (readable-accepted kv rbp key name 0 h) ∙ rw h.found;
}
