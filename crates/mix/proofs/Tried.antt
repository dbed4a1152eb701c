-- One record of a mix: from what a get gives to what the search takes of it. Assumes nothing.
use mathlib.Core.Path.{◌≡◌, refl, sym, ap, ◌∙◌}
use mathlib.Core.Logic.{◌≢◌}
use mathlib.Core.Bool.{true, false, not}
use mathlib.Core.List.{List, [], ◌∷◌}
use Prim.Native.Nat.{ℕ, ◌≤◌, ◌<◌}
use native.Mathlib.Omega.{arith}
use borrow.Author.Tests.{eq-eqb, ne_eqb, eqb-true}
use lib.ListN.{length, get_or}
use Rattle.spec.specs.Status.{ok, refuse_if, ◌when◌, first_of, on_ok, Answer, bytes_given}
use Rattle.spec.specs.Name.{valid_name}
use Rattle.spec.specs.Area.{kv_format, slot_used, slot_name, slot_count, slots, intact}
use Rattle.spec.specs.Decisions.{key_sized}
use Rattle.spec.specs.Calls.{areas, slot_has_prefix}
use Rattle.spec.specs.Demand2.{Undamaged}
use Rattle.spec.proofs.Slot.{used-slot}
use Rattle.spec.proofs.Status.{passes}
use Rattle.spec.proofs.World.{Accepted, accepted}
use Rattle.store.specs.Parts.{area_tests, get_early}
use Rattle.buffers.proofs.Split.{clash, not-false-is}
use Rattle.mix.specs.Mix.{session_at, mix_valid}
use Rattle.mix.specs.Calls.{mix_prefix, mix_record, mix_data}
use Rattle.mix.specs.Search.{seen_on, one_more, advanced, try_record}
use Rattle.mix.specs.declared.find.Matches.{Matches}
use Rattle.mix.specs.declared.find.Matches.TheVariants.{Zero}
use Rattle.mix.proofs.Parts.{valid-parts}
use Rattle.mix.proofs.Read.{count-within}
use Rattle.mix.proofs.Scan.{SlotOf, is_no_mix, a-mix, slot-of, used-of}

module _ (kv rbp key name : List ℕ) (g : Answer) (e : g ≡ mix_record kv rbp key name) where
  data_is : mix_data kv rbp key name ≡ bytes_given g
  unfolding mix_data
  data_is = ap bytes_given (sym e)

  pub count_fits : get_or g.numbers 0 0 ≤ 480
  count_fits = omega (arith, ap (λ (a : Answer). get_or a.numbers 0 0) e, count-within kv rbp key name)

  pub tried-refused : g.status ≢ ok → record { status = g.status; session_id = 0 } ≡ try_record kv rbp key name
  unfolding try_record refuse_if on_ok
  tried-refused n = rw (sym e, ne_eqb g.status ok n, ne_eqb g.status ok n)

  module _ (s : g.status ≡ ok) where
    pub tried-bad : mix_valid (bytes_given g) ≡ false → record { status = 20; session_id = 0 } ≡ try_record kv rbp key name
    unfolding try_record refuse_if on_ok
    tried-bad v = rw (data_is, sym e, s, v)

    pub tried-good : mix_valid (bytes_given g) ≡ true → (n : ℕ) → n ≡ session_at (bytes_given g)
        → record { status = ok; session_id = n } ≡ try_record kv rbp key name
    unfolding try_record refuse_if on_ok
    tried-good v n h = rw (data_is, sym e, s, v, h)

-- what a record makes of what was seen
module _ (seen : Matches) (session i : ℕ) where
  pub advance-refused : (n : ℕ) → n ≢ ok → record { status = n; seen = Zero } ≡ advanced seen (record { status = n; session_id = 0 }) session i
  unfolding advanced
  advance-refused n h = rw (ne_eqb n ok h)

  pub advance-holder : (n : ℕ) → n ≡ session → seen_on (one_more seen i) ≡ advanced seen (record { status = ok; session_id = n }) session i
  unfolding advanced
  advance-holder n h = rw (eq-eqb n session h)

  pub advance-other : (n : ℕ) → n ≢ session → seen_on seen ≡ advanced seen (record { status = ok; session_id = n }) session i
  unfolding advanced
  advance-other n h = rw (ne_eqb n session h)

pub data_long : (b : List ℕ) → mix_valid b ≡ true → 8 ≤ length b
data_long b v = omega (arith, (valid-parts b v).header)

-- a slot whose name has the prefix is in use
pub prefixed-used : (kv : List ℕ) (i : ℕ) → intact kv_format kv ≡ true → i < slot_count kv_format kv
    → slot_has_prefix mix_prefix (get_or (slots kv_format kv) i []) ≡ true → slot_used kv_format (get_or (slots kv_format kv) i []) ≡ true
prefixed-used kv i g l h = go (slot-of (get_or (slots kv_format kv) i []))
  where
    go : SlotOf (get_or (slots kv_format kv) i []) → slot_used kv_format (get_or (slots kv_format kv) i []) ≡ true
    go (is_no_mix e t) = clash (slot_has_prefix mix_prefix (get_or (slots kv_format kv) i [])) h t
    go (a-mix n e m f t) = used-of kv i n g l e

-- card, chip and device key have passed, so that a get of a name in use has no more to ask before it looks it up
module _ (kv rbp key : List ℕ) (g : first_of (area_tests kv rbp (key_sized key)) ≡ ok) where
  passed : Accepted (areas kv rbp) ((1 when not (key_sized key)) ∷ []) []
  passed = accepted (areas kv rbp) ((1 when not (key_sized key)) ∷ []) [] refl g

  pub sane : Undamaged kv rbp
  sane = passed.undamaged

  pub key_is_sized : length key ≡ 16
  key_is_sized = eqb-true (length key) 16 (not-false-is _ passed.lengths.0)

  pub name-early : (i : ℕ) (name : List ℕ) → name ≡ slot_name kv_format (get_or (slots kv_format kv) i [])
      → slot_used kv_format (get_or (slots kv_format kv) i []) ≡ true → first_of (get_early kv rbp key name) ≡ ok
  unfolding refuse_if
  name-early i name e u =
      let v = (used-slot kv_format (get_or (slots kv_format kv) i []) u).name in
      passes (area_tests kv rbp (key_sized key)) ((3 when not (valid_name name)) ∷ []) refl g ∙ rw (e, v)
