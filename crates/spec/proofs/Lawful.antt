-- What the store's theorems ask of a request, shown of each call once: what it writes may be written, and room makes a difference only to what it puts.
use mathlib.Core.Path.{◌≡◌, refl}
use mathlib.Core.Bool.{Bool, true, not, ◌&&◌}
use mathlib.Core.List.{List, [], ◌∷◌, ◌++◌, map}
use mathlib.Core.Option.{none}
use Prim.Native.Nat.{ℕ}
use borrow.Author.Tests.{eqb-true}
use lib.ListN.{length}
use Rattle.buffers.specs.Bytes.{every}
use Rattle.spec.specs.Status.{Test, ◌when◌, refuse_if, first_of}
use Rattle.spec.specs.Name.{valid_name}
use Rattle.spec.specs.Record.{require_replay_protection, flags_of}
use Rattle.spec.specs.Area.{kv_format, rbp_format}
use Rattle.spec.specs.Request.{Binding, Room, Request}
use Rattle.spec.specs.Decisions.{key_sized, iv_sized, record_of, set_held, set_tests, set_effect, get_held, remove_held, remove_effect}
use Rattle.spec.specs.Decisions.{set_request, get_request, get_info_request, remove_request}
use Rattle.spec.specs.Calls.{Areas}
use Rattle.spec.specs.Incremental.{handle_name, staged_data, name_fits, finalize_tests, finalize_request}
use Rattle.spec.specs.declared.incremental.IncSetHandle.{IncSetHandle}
use Rattle.spec.specs.Model.{Call, set_call, get_call, get_info_call, remove_call, finalize_call, request_of}
use Rattle.buffers.proofs.Split.{split, not-false-is}
use Rattle.spec.proofs.Area.{GoodEdit, WhenWritten}
use Rattle.spec.proofs.Status.{number, Passed, nonzero, under, passed-split}
use Rattle.spec.proofs.World.{order}
use Rattle.spec.proofs.Decision.{decided, room-passed, decided-sealable, sealed-kv-good, sealed-rbp-good}

abbrev pub enough : Room
enough = record { kv = true; rbp = true }

pub record Lawful (q : Request) : Type 0 where
  pub numbered : (s : Areas) (b : Binding) (room : Room) → every nonzero (map number (order s q.early (q.tests b room))) ≡ true
  pub good : (b : Binding) (room : Room) → Passed q.early → Passed (q.tests b room)
      → GoodEdit kv_format q.name (q.effect b).kv × GoodEdit rbp_format q.name (q.effect b).rbp
  pub needs : (b : Binding) (room : Room) → Passed q.early → Passed (q.tests b room)
      → WhenWritten (q.effect b).kv ((q.puts.kv ≡ true) × (b.stored ≡ none → room.kv ≡ true))
      × WhenWritten (q.effect b).rbp ((q.puts.rbp ≡ true) × (b.tag ≡ none → room.rbp ≡ true))
  pub roomless : (b : Binding) (room : Room) → (q.puts.kv ≡ true → b.stored ≡ none → room.kv ≡ true)
      → (q.puts.rbp ≡ true → b.tag ≡ none → room.rbp ≡ true) → first_of (q.early ++ q.tests b room) ≡ first_of (q.early ++ q.tests b enough)

module _ (P : ℕ → Bool) where
  -- room makes no difference where there is enough of it for a good name, nor for a bad one
  set_roomless : (name : List ℕ) (flags : ℕ) (value : List ℕ) (b : Binding) (room : Room)
      → (valid_name name ≡ true → b.stored ≡ none → room.kv ≡ true)
      → ((valid_name name && P flags) ≡ true → b.tag ≡ none → room.rbp ≡ true)
      → first_of (set_tests P name flags value b room) ≡ first_of (set_tests P name flags value b enough)
  unfolding set_held refuse_if
  set_roomless name flags value b room h k = split (valid_name name)
      (λ e.
      let p = room-passed P name flags value b room (h e) (λ r. k (rw (e, r))) in
      let q = room-passed P name flags value b enough (λ z. refl) (λ r z. refl) in
      rw (p.0, p.1.0, q.0, q.1.0))
      (λ e. rw e)

  pub set_lawful : (key name : List ℕ) (flags : ℕ) (iv value : List ℕ) → Lawful (set_request P key name flags iv value)
  unfolding set_held set_effect
  set_lawful key name flags iv value = record {
    numbered = λ s b room. refl;
    good = λ b room l p.
        let d = decided P name flags value b room p in
        let r = decided-sealable P name flags value b room iv d (eqb-true (length iv) 8 (not-false-is _ l.1.0)) in (
          sealed-kv-good key name flags iv value d.name_valid r,
          split (P flags) (λ e. rw e (sealed-rbp-good key name flags iv value d.name_valid r)) (λ e. rw e tt),
        );
    needs = λ b room l p.
        let d = decided P name flags value b room p in
        ((d.name_valid, d.kv_room), split (P flags) (λ e. rw e (rw d.name_valid, d.rbp_room e)) (λ e. rw e tt));
    roomless = λ b room h k.
        let tests : Room → List Test = λ r. set_tests P name flags value b r in
        under ((1 when not (key_sized key)) ∷ (1 when not (iv_sized iv)) ∷ []) (tests room) (tests enough) (set_roomless name flags value b room h k);
  }

  pub get_lawful : (key name : List ℕ) (offset : ℕ) (output : List ℕ) → Lawful (get_request P key name offset output)
  unfolding get_held
  get_lawful key name offset output =
      record { numbered = λ s b room. refl; good = λ b room l p. (tt, tt); needs = λ b room l p. (tt, tt); roomless = λ b room h k. refl }

  pub info_lawful : (key name : List ℕ) → Lawful (get_info_request P key name)
  unfolding get_held
  info_lawful key name =
      record { numbered = λ s b room. refl; good = λ b room l p. (tt, tt); needs = λ b room l p. (tt, tt); roomless = λ b room h k. refl }

  pub remove_lawful : (name : List ℕ) → Lawful (remove_request P name)
  unfolding remove_held remove_effect
  remove_lawful name = record {
    numbered = λ s b room. refl;
    good = λ b room l p. (tt, split (P (flags_of (record_of b.stored))) (λ e. rw e tt) (λ e. rw e tt));
    needs = λ b room l p. (tt, split (P (flags_of (record_of b.stored))) (λ e. rw e tt) (λ e. rw e tt));
    roomless = λ b room h k. refl;
  }

  -- a finalize is a set with tests of its own
  pub finalize_lawful : (key : List ℕ) (h : IncSetHandle) (staging : List ℕ) → Lawful (finalize_request P key h staging)
  unfolding set_held refuse_if
  finalize_lawful key h staging =
      let name = handle_name h in
      let value = staged_data h staging in
      let set = set_request P key name h.flags h.iv value in
      let l = set_lawful key name h.flags h.iv value in
      let lengths : Passed (set.early ++ finalize_tests h staging) → Passed set.early = λ p. (passed-split set.early (finalize_tests h staging) p).0 in
      record {
        numbered = λ s b room. refl;
        good = λ b room p q. l.good b room (lengths p) q;
        needs = λ b room p q. rw (not-false-is (name_fits h) p.1.1.1.0) (l.needs b room (lengths p) q);
        roomless = λ b room i j. split (name_fits h)
            (λ e. under (set.early ++ finalize_tests h staging) (set.tests b room) (set.tests b enough)
            (set_roomless name h.flags value b room (λ v. i (rw (e, v))) (λ v. j (rw (e, v)))))
            (λ e. rw e);
      }

pub lawful : (c : Call) → Lawful (request_of c)
lawful (set_call key name flags iv value) = set_lawful require_replay_protection key name flags iv value
lawful (get_call key name offset output) = get_lawful require_replay_protection key name offset output
lawful (get_info_call key name) = info_lawful require_replay_protection key name
lawful (remove_call name) = remove_lawful require_replay_protection name
lawful (finalize_call key h staging) = finalize_lawful require_replay_protection key h staging
