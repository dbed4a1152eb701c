-- A slot's shape, as code tests it: in a well-shaped slot the state byte tells a free one.
use mathlib.Core.Path.{◌≡◌, refl, sym, ◌∙◌}
use mathlib.Core.Bool.{true, false, ◌&&◌, or-false, or-true}
use mathlib.Core.List.{List}
use mathlib.Core.Option.{some}
use Prim.Native.Nat.{ℕ, ◌+◌, ◌-◌}
use native.Mathlib.Omega.{arith}
use borrow.Author.Tests.{ne_eqb}
use lib.Dec.{eqb, leb}
use lib.ListN.{length, take, drop}
use Rattle.buffers.specs.Bytes.{all_zero}
use Rattle.spec.specs.Name.{valid_name}
use Rattle.spec.specs.Area.{Format, state_byte, name_length, slot_free, slot_name, slot_used, slot_valid, slot_holder, holds}
use Rattle.buffers.proofs.Split.{split, clash}
use Rattle.buffers.proofs.Lists.{part, rest_part}
use Rattle.spec.proofs.Slot.{state-not-free, not_free, used-slot}

module _ (F : Format) (s : List ℕ) where
  -- no state: well shaped is free
  pub valid-blank : state_byte s ≡ 0 → slot_valid F s ≡ slot_free s
  unfolding slot_valid slot_used
  valid-blank h = rw (ne_eqb (state_byte s) 1 (λ e. omega arith)) (or-false (slot_free s))

  -- some state: well shaped is used
  pub valid-state : (state_byte s ≡ 0 → ⊥) → slot_valid F s ≡ slot_used F s
  unfolding slot_valid
  valid-state h = rw (state-not-free s h)

  -- in a well-shaped slot
  module _ (v : slot_valid F s ≡ true) where
    pub blank-is-free : state_byte s ≡ 0 → slot_free s ≡ true
    blank-is-free h = sym (valid-blank h) ∙ v

    pub state-is-used : (state_byte s ≡ 0 → ⊥) → slot_used F s ≡ true
    state-is-used h = sym (valid-state h) ∙ v

    pub taken-is-used : slot_free s ≡ false → slot_used F s ≡ true
    taken-is-used h = state-is-used (λ e. clash (slot_free s) (blank-is-free e) h)

  pub taken-holder : slot_free s ≡ false → slot_holder F s ≡ some (slot_name F s)
  unfolding slot_holder
  taken-holder h = rw h

  pub holds-used : (n : List ℕ) → slot_valid F s ≡ true → holds F n s ≡ true → slot_used F s ≡ true
  unfolding slot_holder
  holds-used n v h = split (slot_free s) (λ e. clash false (rw e at h) refl) (λ e. taken-is-used v e)

  pub used-valid : slot_used F s ≡ true → slot_valid F s ≡ true
  unfolding slot_valid
  used-valid h = rw h (or-true (slot_free s))

  pub used-not-free : slot_used F s ≡ true → slot_free s ≡ false
  used-not-free h = not_free s (used-slot F s h).state

  -- the tests of a used slot, at the numbers that the code has
  pub used-tests : (at payload m : ℕ) → at ≡ F.name_offset → payload ≡ F.payload_offset → m ≡ F.payload_length s → length s ≡ F.slot_size
      → slot_used F s
      ≡ (eqb (state_byte s) 1 && (leb (name_length s) 64 && (valid_name (take (at + name_length s - at) (drop at s)) && (leb m (length s - payload)
      && (all_zero (take (payload - (at + name_length s)) (drop (at + name_length s) s)) && all_zero (take (length s - (payload + m)) (drop (payload + m) s)))))))
  unfolding slot_used
  used-tests at payload m ea ep em el = rw (part at (name_length s) s, rest_part s (payload + m), ea, ep, em, el)
