-- 02's example: its first line is good whatever the key, what the key is changes no other line, and those are computed. Assumes nothing.
use mathlib.Core.Path.{◌≡◌, refl, ap, ◌∙◌}
use mathlib.Core.Bool.{true, false}
use mathlib.Core.List.{List, [], ◌∷◌, ◌++◌, append-nil}
use Prim.Native.Nat.{ℕ, ◌%◌, ◌<◌}
use native.Mathlib.Omega.{arith}
use borrow.Author.Tests.{ne_eqb, ltb-true}
use lib.Dec.{eqb}
use lib.ListN.{length, get_or, drop, length-append}
use Rattle.buffers.specs.Bytes.{zeros}
use Rattle.text.specs.Parts.{cut, tab, newline, lines}
use Rattle.text.specs.Hex.{hex_value, is_hex_digit, all_hex_digits, is_hex, hex_bytes}
use Rattle.text.specs.Decimal.{is_decimal, places, decimal_text}
use Rattle.buffers.proofs.Split.{both}
use Rattle.text.proofs.HexSteps.{value-below, bytes-length}
use Rattle.spec.specs.Status.{refuse_if, on_ok}
use Rattle.spec.specs.Name.{valid_name_byte, valid_name}
use Rattle.spec.specs.Record.{valid_flags, metadata, sealed_iv, sealed_data, sealed_tag, seal_record}
use Rattle.spec.specs.Area.{slot_free, slot_used, slot_valid, slot_holder, make_slot, sized, intact, lookup, has_space, insert_slot}
use Rattle.spec.specs.Decisions.{set_held, set_effect, remove_held}
use Rattle.spec.specs.Calls.{areas, store_set, store_remove}
use Rattle.script_replay.specs.Script.{field, is_command, command, answer_line}
use Rattle.script_replay.specs.Replay.{Played, answered, set_line, remove_line, call_line, step, play}
use Rattle.script_replay.specs.Laws.{Header, SaysSet, printed, example_script, Example}
use Rattle.script_replay.proofs.ReplayLaws.{replay-exact, set-then-get}

-- ---- the first line

-- digits are cut nowhere: they begin the first part of what follows them
module _ (separator : ℕ) (below : separator < 0x30) (end : List (List ℕ)) where
  other_byte : (c : ℕ) → is_hex_digit c ≡ true → eqb c separator ≡ false
  other_byte c e = ne_eqb c separator (λ p. omega (arith, ltb-true (hex_value c) 16 e, value-below c (omega arith)))

  uncut : (s more p : List ℕ) (ps : List (List ℕ)) → all_hex_digits s ≡ true → cut separator end more ≡ p ∷ ps
      → cut separator end (s ++ more) ≡ (s ++ p) ∷ ps
  uncut [] more p ps h e = e
  uncut (c ∷ s) more p ps h e =
      let b = both (is_hex_digit c) (all_hex_digits s) h in
      rw (other_byte c b.0, uncut s more p ps b.1 e)

all_digits_lem : (s : List ℕ) → is_hex s ≡ true → all_hex_digits s ≡ true
unfolding is_hex
all_digits_lem s h = (both (eqb (length s % 2) 0) (all_hex_digits s) h).1

abbrev first_line : List ℕ → List ℕ
first_line digits = digits ++ 0x09 ∷ 0x31 ∷ []

first_good : (digits : List ℕ) → length digits ≡ 32 → is_hex digits ≡ true → Header (first_line digits) (hex_bytes digits) 1
unfolding is_decimal
first_good digits l h = record {
  fits = rw length-append (omega arith);
  digits = digits;
  number = 0x31 ∷ [];
  fields = uncut tab (omega arith) ([] ∷ []) digits (0x09 ∷ 0x31 ∷ []) [] ((0x31 ∷ []) ∷ []) (all_digits_lem digits h) refl ∙ rw append-nil;
  key_digits = l;
  key_hex = h;
  key_read = refl;
  slots_decimal = refl;
  slots_read = refl;
  least = omega arith;
  most = omega arith;
}

-- ---- the lines after it

abbrev later : List (List ℕ)
later = lines (drop 3 example_script)

abbrev line : ℕ → List ℕ
line k = get_or later k []

abbrev name : List ℕ
name = 0x61 ∷ []

abbrev value : List ℕ
value = 0x41 ∷ 0x42 ∷ []

says-set : SaysSet (line 0) name 0 (zeros 8) value
unfolding is_decimal is_hex hex_value
says-set = record {
  number = field (line 0) 2;
  iv_digits = field (line 0) 3;
  digits = field (line 0) 4;
  fields = refl;
  flags_decimal = refl;
  flags_read = refl;
  flags_most = omega arith;
  iv_hex = refl;
  iv_read = refl;
  value_hex = refl;
  value_read = refl;
}

module _ (kv rbp key : List ℕ) where
  -- with flags 0 only the key's length counts
  set-any : (other : List ℕ) → length key ≡ length other → store_set kv rbp key name 0 (zeros 8) value ≡ store_set kv rbp other name 0 (zeros 8) value
  unfolding sealed_data sealed_tag seal_record set_effect store_set
  set-any other h = rw h

  set_line_lem : (other : List ℕ) → length key ≡ length other → step kv rbp key (line 0) ≡ step kv rbp other (line 0)
  unfolding hex_value is_hex is_decimal is_command command set_line call_line step
  set_line_lem other h = ap answered (set-any other h)

  get-line : (p : Played) → step kv rbp key (line 0) ≡ p → p.answer ≡ answer_line 0 []
      → step p.after.kv p.after.rbp key (line 1) ≡ printed 0 value p.after
  get-line p e done =
      rw e at (set-then-get kv rbp key (line 0) name 0 (zeros 8) value (omega arith) says-set (ap (λ (o : Played). o.answer) e ∙ done))

  -- no key is asked for
  remove-line : (other : List ℕ) → step kv rbp key (line 2) ≡ step kv rbp other (line 2)
  unfolding is_command command call_line step
  remove-line other = refl

  three : (p q r : Played) → step kv rbp key (line 0) ≡ p → step p.after.kv p.after.rbp key (line 1) ≡ q
      → step q.after.kv q.after.rbp key (line 2) ≡ r → play key (areas kv rbp) later ≡ p.answer ++ (q.answer ++ (r.answer ++ []))
  three p q r d e f = rw (d, e, f)

-- ---- with a key of zeros

abbrev after_set : Played
after_set = step (zeros 584) (zeros 82) (zeros 16) (line 0)

abbrev after_get : Played
after_get = printed 0 value after_set.after

abbrev after_remove : Played
after_remove = step after_set.after.kv after_set.after.rbp (zeros 16) (line 2)

computed : (after_set.answer ≡ answer_line 0 [])
    × (after_set.answer ++ (after_get.answer ++ (after_remove.answer ++ []))
    ≡ 0x30 ∷ 0x09 ∷ 0x0a ∷ 0x30 ∷ 0x09 ∷ 0x34 ∷ 0x31 ∷ 0x34 ∷ 0x32 ∷ 0x0a ∷ 0x36 ∷ 0x09 ∷ 0x0a ∷ [])
unfolding hex_value is_hex is_decimal places decimal_text refuse_if on_ok valid_name_byte valid_name valid_flags metadata sealed_iv sealed_data
    sealed_tag seal_record slot_free slot_used slot_valid slot_holder make_slot sized intact lookup has_space insert_slot set_held set_effect remove_held store_set
    store_remove is_command command answer_line set_line remove_line call_line step
computed = (refl, refl)

pub example : Example
example digits l h =
    let key = hex_bytes digits in
    let e = uncut newline (omega arith) [] digits example_script (0x09 ∷ 0x31 ∷ []) later (all_digits_lem digits h) refl in
    let d = set_line_lem (zeros 584) (zeros 82) key (zeros 16) (omega (arith, bytes-length digits)) in
    replay-exact.good (digits ++ example_script) (first_line digits) key 1 later e (first_good digits l h)
    ∙ three (zeros 584) (zeros 82) key after_set after_get after_remove d
    (get-line (zeros 584) (zeros 82) key after_set d computed.0)
    (remove-line after_set.after.kv after_set.after.rbp key (zeros 16))
    ∙ computed.1
