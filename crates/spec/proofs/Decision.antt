-- When a set's tests all pass, in facts; and that what it then writes may be written.
use mathlib.Core.Path.{◌≡◌, refl}
use mathlib.Core.Bool.{Bool, true, false, not, ◌&&◌, ◌||◌}
use mathlib.Core.List.{List}
use mathlib.Core.Option.{Option, none, some}
use Prim.Native.Nat.{ℕ, ◌≤◌}
use native.Mathlib.Omega.{arith}
use borrow.Author.Tests.{eqb-true, eq-eqb, leb-true, le-leb}
use lib.Dec.{eqb}
use lib.ListN.{length}
use Rattle.buffers.specs.Bytes.{is_some}
use Rattle.spec.specs.Name.{Name, valid_name}
use Rattle.spec.specs.Record.{write_once, valid_flags, max_data_size, flags_of, tag_of, well_formed, seal_record, Sealable}
use Rattle.spec.specs.Area.{kv_format, rbp_format}
use Rattle.spec.specs.Request.{Binding, Room}
use Rattle.spec.specs.Decisions.{record_of, space_tests, set_held, set_tests}
use Rattle.spec.specs.Demand2.{Replaceable}
use Rattle.buffers.proofs.Split.{split, split_o, clash, neither, not-false-is}
use Rattle.spec.proofs.Slot.{kv-fits, rbp-fits}
use Rattle.spec.proofs.Area.{Good}
use Rattle.spec.proofs.Record.{sealed-length, sealed-tag-length}
use Rattle.spec.proofs.Status.{Passed}

-- a test of the record that is held, and one for a name that holds none
pub of_held : (o : Option (List ℕ)) (t : List ℕ → Bool) → ((r : List ℕ) → o ≡ some r → t r ≡ false) → (is_some o && t (record_of o)) ≡ false
of_held none t h = refl
of_held (some r) t h = h r refl

pub of-absent : (o : Option (List ℕ)) (t : Bool) → (o ≡ none → t ≡ false) → (not (is_some o) && t) ≡ false
of-absent none t h = h refl
of-absent (some r) t h = refl

pub held-is : (o : Option (List ℕ)) (t : List ℕ → Bool) (r : List ℕ) → (is_some o && t (record_of o)) ≡ false → o ≡ some r → t r ≡ false
held-is o t r h e = rw e at h

pub absent-is : (o : Option (List ℕ)) (t : Bool) → (not (is_some o) && t) ≡ false → o ≡ none → t ≡ false
absent-is o t h e = rw e at h

-- a test that is asked for only where a flag is set
pub flagged : (flag test : Bool) → (flag && not test) ≡ false → flag ≡ true → test ≡ true
flagged true test h e = not-false-is test h
flagged false test h e = clash false e refl

pub unflagged : (flag test : Bool) → (flag ≡ true → test ≡ true) → (flag && not test) ≡ false
unflagged true test h = rw (h refl)
unflagged false test h = refl

-- a flag that is asked for where something is held
pub held-flagged : (flag : Bool) (o : Option (List ℕ)) (t : List ℕ) → (not flag && is_some o) ≡ false → o ≡ some t → flag ≡ true
held-flagged true o t h e = refl
held-flagged false o t h e = clash (is_some o) (rw e) h

pub flagged-held : (flag : Bool) (o : Option (List ℕ)) → ((t : List ℕ) → o ≡ some t → flag ≡ true) → (not flag && is_some o) ≡ false
flagged-held true o h = refl
flagged-held false none h = refl
flagged-held false (some t) h = clash false (h t refl) refl

module _ (P : ℕ → Bool) (name : Name) (flags : ℕ) (value : List ℕ) (b : Binding) (room : Room) where
  pub record Decided : Type 0 where
    pub name_valid : valid_name name ≡ true
    pub flags_valid : valid_flags flags ≡ true
    pub value_sized : length value ≤ max_data_size
    pub known : (r : List ℕ) → b.stored ≡ some r → Replaceable flags r
    pub new : b.stored ≡ none → write_once flags ≡ true → b.tag ≡ none
    pub not_downgraded : (t : List ℕ) → b.tag ≡ some t → P flags ≡ true
    pub kv_room : b.stored ≡ none → room.kv ≡ true
    pub rbp_room : P flags ≡ true → b.tag ≡ none → room.rbp ≡ true

  pub decided : Passed (set_tests P name flags value b room) → Decided
  unfolding set_held
  decided p =
      let h = p.1.1.1 in
      let k = h.1.1.1.1.1 in
      record {
        name_valid = not-false-is (valid_name name) p.0;
        flags_valid = not-false-is (valid_flags flags) p.1.0;
        value_sized = leb-true (length value) max_data_size (not-false-is _ p.1.1.0);
        known = λ r e.
            let w = neither (write_once (flags_of r)) (write_once flags) (held-is b.stored (λ r. write_once (flags_of r) || write_once flags) r h.1.0 e) in
            record {
              valid = not-false-is _ (held-is b.stored (λ r. not (well_formed r)) r h.0 e);
              old_flags = w.0;
              new_flags = w.1;
              same_flags = eqb-true flags (flags_of r) (not-false-is _ (held-is b.stored (λ r. not (eqb flags (flags_of r))) r h.1.1.0 e));
            };
        new = λ e w. split_o b.tag (λ z. z) (λ t z. clash (write_once flags && is_some b.tag) (rw (w, z)) (absent-is b.stored _ h.1.1.1.0 e));
        not_downgraded = λ t e. held-flagged (P flags) b.tag t h.1.1.1.1.0 e;
        kv_room = λ e. not-false-is room.kv (absent-is b.stored _ k.0 e);
        rbp_room = λ e z. not-false-is room.rbp (absent-is b.tag _ (rw e at k.1.0) z);
      }

  -- there is room for what the flags ask for
  pub room-passed : (b.stored ≡ none → room.kv ≡ true) → (P flags ≡ true → b.tag ≡ none → room.rbp ≡ true) → Passed (space_tests P flags b room)
  room-passed h k = (
    of-absent b.stored (not room.kv) (λ e. rw (h e)),
    (split (P flags) (λ e. rw e (of-absent b.tag (not room.rbp) (λ z. rw (k e z)))) (λ e. rw e), tt),
  )

  pub decided-passed : Decided → Passed (set_tests P name flags value b room)
  unfolding set_held
  decided-passed d = (
    rw d.name_valid,
    (
      rw d.flags_valid,
      (
        rw (le-leb (length value) max_data_size d.value_sized),
        (
          of_held b.stored (λ r. not (well_formed r)) (λ r e. rw (d.known r e).valid),
          (
            of_held b.stored (λ r. write_once (flags_of r) || write_once flags) (λ r e. rw ((d.known r e).old_flags, (d.known r e).new_flags)),
            (
              of_held b.stored (λ r. not (eqb flags (flags_of r))) (λ r e. rw (eq-eqb flags (flags_of r) (d.known r e).same_flags)),
              (
                of-absent b.stored (write_once flags && is_some b.tag) (λ e. split (write_once flags) (λ w. rw (w, d.new e w)) (λ w. rw w)),
                (
                  flagged-held (P flags) b.tag d.not_downgraded,
                  room-passed d.kv_room d.rbp_room,
                ),
              ),
            ),
          ),
        ),
      ),
    ),
  )

  pub decided-sealable : (iv : List ℕ) → Decided → length iv ≡ 8 → Sealable flags iv value
  decided-sealable iv d i = record { flags_valid = d.flags_valid; iv_is_sized = i; value_sized = d.value_sized }

-- the record that is then sealed, and its tag, may be written
module _ (key name : List ℕ) (flags : ℕ) (iv value : List ℕ) (v : valid_name name ≡ true) (ready : Sealable flags iv value) where
  pub sealed-kv-good : Good kv_format name (seal_record key name flags iv value)
  sealed-kv-good =
      let e = sealed-length key name flags iv value ready in
      let z = ready.value_sized in
      record { name = v; payload = kv-fits _ (omega arith) }

  pub sealed-rbp-good : Good rbp_format name (tag_of (seal_record key name flags iv value))
  sealed-rbp-good = record { name = v; payload = rbp-fits _ (sealed-tag-length key name flags iv value ready) }
