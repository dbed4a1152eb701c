-- Which line is which call. Assumes nothing.
use mathlib.Core.Path.{◌≡◌, refl}
use mathlib.Core.Bool.{Bool, true, false, ◌&&◌}
use mathlib.Core.List.{List, [], ◌∷◌}
use Prim.Native.Nat.{ℕ, ◌≤◌}
use native.Mathlib.Omega.{arith}
use borrow.Author.Tests.{leb-true, le-leb}
use lib.Dec.{leb}
use lib.ListN.{length, get_or, take}
use Rattle.buffers.specs.Bytes.{zeros}
use Rattle.text.specs.Parts.{parts, tab}
use Rattle.text.specs.Hex.{is_hex, hex_bytes}
use Rattle.text.specs.Decimal.{is_decimal, decimal_value}
use Rattle.spec.specs.Status.{is_ok, on_ok, answer_of}
use Rattle.spec.specs.Calls.{areas, store_set, store_get, store_remove}
use Rattle.buffers.proofs.Split.{split, both}
use Rattle.script_replay.specs.Script.{fits, field, set_word, get_word, remove_word, is_command, command, is_number}
use Rattle.script_replay.specs.Replay.{Played, answered, unreadable, set_line, get_line, remove_line, call_line, step}
use Rattle.script_replay.specs.Laws.{SaysSet, a_set, a_get, a_remove, printed, LineExact}
use Rattle.script_replay.proofs.Answered.{get_after}
use Rattle.script_replay.proofs.Fields.{command_fields, first_command, other_command}

-- ---- what the calls give

-- a call that counts nothing
nothing : (status : ℕ) → get_or (answer_of status [] [] []).numbers 0 0 ≡ 0
unfolding on_ok
nothing status = split (is_ok status) (λ e. rw e) (λ e. rw e)

pub set-count : (kv rbp key name : List ℕ) (flags : ℕ) (iv value : List ℕ) → get_or (store_set kv rbp key name flags iv value).answer.numbers 0 0 ≡ 0
unfolding store_set
set-count kv rbp key name flags iv value = nothing _

pub remove-count : (kv rbp name : List ℕ) → get_or (store_remove kv rbp name).answer.numbers 0 0 ≡ 0
unfolding store_remove
remove-count kv rbp name = nothing _

module _ (kv rbp key line : List ℕ) where
  -- ---- a line that is read, and one that is too long

  of_set : (name : List ℕ) (flags : ℕ) (iv value : List ℕ) → length line ≤ 1100 → SaysSet line name flags iv value
      → let o = store_set kv rbp key name flags iv value in step kv rbp key line ≡ printed o.answer.status [] o.after
  unfolding step call_line command set_line
  of_set name flags iv value l h =
      rw (
        le-leb (length line) 1100 l,
        first_command line set_word 5 h.fields refl,
        h.fields,
        h.flags_decimal,
        le-leb (decimal_value h.number) 4294967295 (omega arith),
        h.iv_hex,
        h.value_hex,
        h.flags_read,
        h.iv_read,
        h.value_read,
        set-count kv rbp key name (decimal_value h.number) (hex_bytes h.iv_digits) (hex_bytes h.digits),
      )

  of_get : (name : List ℕ) → length line ≤ 1100 → parts tab line ≡ get_word ∷ name ∷ []
      → let a = (store_get kv rbp key name 0 (zeros 480)).answer in
      step kv rbp key line ≡ printed a.status (take (get_or a.numbers 0 0) a.output) (areas kv rbp)
  unfolding step call_line command get_line
  of_get name l e = rw (
    le-leb (length line) 1100 l,
    other_command line set_word 5 e refl,
    first_command line get_word 2 e refl,
    e,
    get_after kv rbp key name 0 (zeros 480),
  )

  of_remove : (name : List ℕ) → length line ≤ 1100 → parts tab line ≡ remove_word ∷ name ∷ []
      → let o = store_remove kv rbp name in step kv rbp key line ≡ printed o.answer.status [] o.after
  unfolding step call_line command remove_line
  of_remove name l e = rw (
    le-leb (length line) 1100 l,
    other_command line set_word 5 e refl,
    other_command line get_word 2 e refl,
    first_command line remove_word 2 e refl,
    e,
    remove-count kv rbp name,
  )

  pub too_long : fits line ≡ false → step kv rbp key line ≡ unreadable kv rbp
  unfolding step call_line
  too_long e = rw e

  -- ---- every line

  abbrev set_read : Bool
  set_read = is_number 4294967295 (field line 2) && (is_hex (field line 3) && is_hex (field line 4))

  set-said : is_command line 5 set_word ≡ true → set_read ≡ true
      → SaysSet line (field line 1) (decimal_value (field line 2)) (hex_bytes (field line 3)) (hex_bytes (field line 4))
  set-said c e =
      let a = both (is_number 4294967295 (field line 2)) (is_hex (field line 3) && is_hex (field line 4)) e in
      let n = both (is_decimal (field line 2)) (leb (decimal_value (field line 2)) 4294967295) a.0 in
      let x = both (is_hex (field line 3)) (is_hex (field line 4)) a.1 in
      record {
        number = field line 2;
        iv_digits = field line 3;
        digits = field line 4;
        fields = command_fields line set_word 4 c;
        flags_decimal = n.0;
        flags_read = refl;
        flags_most = leb-true (decimal_value (field line 2)) 4294967295 n.1;
        iv_hex = x.0;
        iv_read = refl;
        value_hex = x.1;
        value_read = refl;
      }

  -- what holds of every call, where the line says so, and of no call, holds of the line
  pub by-line : (P : Played → Type 0)
      → ((name : List ℕ) (flags : ℕ) (iv value : List ℕ) → length line ≤ 1100 → SaysSet line name flags iv value
      → P (answered (store_set kv rbp key name flags iv value)))
      → ((name : List ℕ) → length line ≤ 1100 → parts tab line ≡ get_word ∷ name ∷ [] → P (answered (store_get kv rbp key name 0 (zeros 480))))
      → ((name : List ℕ) → length line ≤ 1100 → parts tab line ≡ remove_word ∷ name ∷ [] → P (answered (store_remove kv rbp name)))
      → P (unreadable kv rbp) → P (step kv rbp key line)
  unfolding step call_line command set_line get_line remove_line
  by-line P set get remove none = split (fits line)
      (λ f. let l = leb-true (length line) 1100 f in
      rw f (split (is_command line 5 set_word)
      (λ s. rw s (split set_read
      (λ e. rw e (set (field line 1) (decimal_value (field line 2)) (hex_bytes (field line 3)) (hex_bytes (field line 4)) l (set-said s e)))
      (λ e. rw e none)))
      (λ s. rw s (split (is_command line 2 get_word)
      (λ g. rw g (get (field line 1) l (command_fields line get_word 1 g)))
      (λ g. rw g (split (is_command line 2 remove_word)
      (λ r. rw r (remove (field line 1) l (command_fields line remove_word 1 r)))
      (λ r. rw r none)))))))
      (λ f. rw f none)

  pub line-exact : LineExact kv rbp key line
  line-exact = record {
    of_set = of_set;
    of_get = of_get;
    of_remove = of_remove;
    other = λ h. by-line (λ o. o ≡ unreadable kv rbp)
        (λ name flags iv value l s. absurd (h l (a_set s)))
        (λ name l e. absurd (h l (a_get e)))
        (λ name l e. absurd (h l (a_remove e)))
        refl;
  }
