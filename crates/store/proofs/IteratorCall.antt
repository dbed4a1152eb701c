-- The iterator: what an accepted and a refused walk say. Assumes nothing.
use mathlib.Core.Path.{◌≡◌, refl, sym, ap, ◌∙◌}
use mathlib.Core.Logic.{◌≢◌}
use mathlib.Core.Bool.{Bool, true, false, not}
use mathlib.Core.List.{List, [], ◌∷◌, ◌++◌}
use mathlib.Core.Option.{some}
use Prim.Native.Nat.{ℕ, suc, ◌≤◌, ◌<◌}
use lib.Dec.{leb, ltb}
use lib.ListN.{length, get_or, drop}
use borrow.Author.Tests.{lt-ltb, le-ltb}
use Rattle.buffers.proofs.Split.{split, clash_o}
use Rattle.spec.specs.Status.{ok, Test, ◌when◌, refuse_if, first_of}
use Rattle.spec.specs.Name.{Name, valid_prefix}
use Rattle.spec.specs.Area.{kv_format, slot_free, slot_used, slot_holder, slot_name, slot_count, slots}
use Rattle.spec.specs.Calls.{areas, name_or, next_match, store_iterator_next}
use Rattle.spec.specs.Demand2.{Undamaged}
use Rattle.spec.proofs.Status.{on-refused, on-ok, stops, passes}
use Rattle.spec.proofs.World.{accepted}
use Rattle.spec.proofs.Name.{valid-length}
use Rattle.spec.proofs.Slot.{used-slot}
use Rattle.spec.proofs.Iterator.{next-is, iterator_exact}
use Rattle.spec.proofs.Chunks.{slots_length}
use Rattle.spec.proofs.Area.{intact-valid}
use Rattle.slots.proofs.AreaLaws.{slot-well}
use Rattle.slots.proofs.SlotLaws.{taken-is-used, taken-holder}
use Rattle.store.specs.Parts.{early, iterator_early}

pub early_is : (kv rbp prefix name_buf : List ℕ) (named : Bool) → named ≡ valid_prefix prefix
    → first_of (early kv rbp ((1 when not (leb 64 (length name_buf))) ∷ []) ((3 when not named) ∷ [])) ≡ first_of (iterator_early kv rbp prefix name_buf)
early_is kv rbp prefix name_buf named e = ap (λ (x : Bool). first_of (early kv rbp ((1 when not (leb 64 (length name_buf))) ∷ []) ((3 when not x) ∷ []))) e

pub iterator_sane : (kv rbp prefix name_buf : List ℕ) → first_of (iterator_early kv rbp prefix name_buf) ≡ ok → Undamaged kv rbp
iterator_sane kv rbp prefix name_buf h =
    (accepted (areas kv rbp) ((1 when not (leb 64 (length name_buf))) ∷ []) ((3 when not (valid_prefix prefix)) ∷ []) refl h).undamaged

holder-used : (slot name : List ℕ) → slot_holder kv_format slot ≡ some name → slot_free slot ≡ false
unfolding slot_holder
holder-used slot name e = split (slot_free slot) (λ f. clash_o (slot_holder kv_format slot) (rw f) e) (λ f. f)

module _ (kv rbp prefix : List ℕ) (start : ℕ) (name_buf : List ℕ) where
  abbrev at : ℕ
  at = next_match kv prefix start

  abbrev pub iterator_all : List Test
  iterator_all = iterator_early kv rbp prefix name_buf ++ ((6 when not (ltb at (length (slots kv_format kv)))) ∷ [])

  abbrev first : List Test
  first = iterator_early kv rbp prefix name_buf

  abbrev last : List Test
  last = (6 when not (ltb at (length (slots kv_format kv)))) ∷ []

  pub iterator_stopped : (n : ℕ) → n ≡ first_of first → n ≢ ok → n ≡ first_of iterator_all
  iterator_stopped n e h = e ∙ sym (stops first last (λ z. h (e ∙ z)))

  pub iterator_past : first_of first ≡ ok → slot_count kv_format kv ≤ at → 6 ≡ first_of iterator_all
  unfolding refuse_if
  iterator_past h p = sym (passes first last refl h ∙ rw (slots_length kv_format kv, le-ltb at (slot_count kv_format kv) p))

  pub iterator_here : first_of first ≡ ok → at < slot_count kv_format kv → first_of iterator_all ≡ ok
  unfolding refuse_if
  iterator_here h p = passes first last refl h ∙ rw (slots_length kv_format kv, lt-ltb at (slot_count kv_format kv) p)

  abbrev shown : Name
  shown = name_or (slot_holder kv_format (get_or (slots kv_format kv) at []))

  pub record Shown : Type 0 where
    pub undamaged : Undamaged kv rbp
    pub in_range : at < slot_count kv_format kv
    pub used : slot_used kv_format (get_or (slots kv_format kv) at []) ≡ true
    pub name_is : slot_name kv_format (get_or (slots kv_format kv) at []) ≡ shown
    pub name_short : length shown ≤ 64
    pub buf_long : 64 ≤ length name_buf

  pub shown-facts : first_of iterator_all ≡ ok → Shown
  unfolding store_iterator_next
  shown-facts h =
      let r = (iterator_exact kv rbp prefix start name_buf).condition.0 h in
      let u = r.undamaged in
      let e = next-is kv rbp prefix start name_buf r in
      let range : at < slot_count kv_format kv = rw e r.found.in_range in
      let slot = get_or (slots kv_format kv) at [] in
      let taken : slot_free slot ≡ false = rw e (holder-used (get_or (slots kv_format kv) r.i []) r.name r.found.held) in
      let valid = slot-well kv_format kv u.kv_sized at range slot refl (intact-valid kv_format kv u.kv_intact) in
      let in_use = taken-is-used kv_format slot valid taken in
      let name : slot_name kv_format slot ≡ shown = rw (taken-holder kv_format slot taken) in
      record {
        undamaged = u;
        in_range = range;
        used = in_use;
        name_is = name;
        name_short = rw (← name) (valid-length (slot_name kv_format slot) (used-slot kv_format slot in_use).name);
        buf_long = r.buf_sized;
      }

  pub iterated-refused : (n : ℕ) → n ≡ first_of iterator_all → n ≢ ok
      → record { status = n; numbers = 0 ∷ 0 ∷ []; output = name_buf } ≡ (store_iterator_next kv rbp prefix start name_buf).answer
  unfolding store_iterator_next
  iterated-refused n e h =
      let k : first_of iterator_all ≢ ok = λ z. h (e ∙ z) in
      λ i. record {
        status = e i;
        numbers = sym (on-refused (first_of iterator_all) (length shown ∷ suc at ∷ []) (0 ∷ 0 ∷ []) k) i;
        output = sym (on-refused (first_of iterator_all) (shown ++ drop (length shown) name_buf) name_buf k) i;
      }

  pub iterated-done : first_of iterator_all ≡ ok → (l n : ℕ) (out : List ℕ) → l ≡ length shown → n ≡ suc at → out ≡ shown ++ drop (length shown) name_buf
      → record { status = ok; numbers = l ∷ n ∷ []; output = out } ≡ (store_iterator_next kv rbp prefix start name_buf).answer
  unfolding store_iterator_next
  iterated-done h l n out e f g =
      (λ i. record { status = ok; numbers = e i ∷ f i ∷ []; output = g i })
      ∙ λ i. record {
        status = sym h i;
        numbers = sym (on-ok (first_of iterator_all) (length shown ∷ suc at ∷ []) (0 ∷ 0 ∷ []) h) i;
        output = sym (on-ok (first_of iterator_all) (shown ++ drop (length shown) name_buf) name_buf h) i;
      }
