-- A line's fields, one by one, and the word that it begins with. Assumes nothing.
use mathlib.Core.Path.{◌≡◌, refl, ap, ◌∙◌}
use mathlib.Core.Bool.{true, false}
use mathlib.Core.List.{List, [], ◌∷◌}
use Prim.Native.Nat.{ℕ, zero, suc, ◌+◌, ◌<◌}
use native.Mathlib.Omega.{arith}
use borrow.Author.Tests.{eqb-true, eq-eqb, ne_eqb}
use lib.Dec.{eqb}
use lib.ListN.{length, get_or, drop, drop_of_length-le}
use lib.Seq.{drop-cons}
use Rattle.buffers.specs.Bytes.{bytes_eq}
use Rattle.text.specs.Parts.{parts, tab}
use Rattle.text.proofs.Split.{and-false}
use Rattle.buffers.proofs.Split.{both}
use Rattle.buffers.proofs.Bytes.{bytes_eq-eq, eq-bytes_eq}
use Rattle.script_replay.specs.Script.{field, is_command}

-- n fields from field k on
abbrev fields_from : List ℕ → ℕ → ℕ → List (List ℕ)
fields_from line k zero = []
fields_from line k (suc n) = field line k ∷ fields_from line (suc k) n

from : (line : List ℕ) (k n : ℕ) → length (parts tab line) ≡ k + n → drop k (parts tab line) ≡ fields_from line k n
from line k zero h = drop_of_length-le (parts tab line) {i = k} (omega arith)
from line k (suc n) h = rw (drop-cons (parts tab line) k [] (omega arith), from line (suc k) n (omega arith))

-- as many fields as there are
pub all-fields : (line : List ℕ) (n : ℕ) → length (parts tab line) ≡ n → parts tab line ≡ fields_from line 0 n
all-fields line n h = from line 0 n (omega arith)

module _ (line word : List ℕ) (n : ℕ) where
  pub command_fields : is_command line (suc n) word ≡ true → parts tab line ≡ word ∷ fields_from line 1 n
  unfolding is_command
  command_fields e =
      let b = both (eqb (length (parts tab line)) (suc n)) (bytes_eq (field line 0) word) e in
      all-fields line (suc n) (eqb-true (length (parts tab line)) (suc n) b.0)
      ∙ ap (λ (first : List ℕ). first ∷ fields_from line 1 n) (bytes_eq-eq (field line 0) word b.1)

  pub first_command : {rest : List (List ℕ)} → parts tab line ≡ word ∷ rest → suc (length rest) ≡ n → is_command line n word ≡ true
  unfolding is_command
  first_command {rest} e h = rw (e, eq-eqb (suc (length rest)) n h) (eq-bytes_eq word word refl)

  pub other_command : {first : List ℕ} {rest : List (List ℕ)} → parts tab line ≡ first ∷ rest → bytes_eq first word ≡ false → is_command line n word ≡ false
  unfolding is_command
  other_command {first} {rest} e h = rw (e, h) (and-false (eqb (suc (length rest)) n) refl)

-- a text without a separator is its only part
pub one-part : (separator : ℕ) (s : List ℕ) → ((i : ℕ) → i < length s → get_or s i 0 ≡ separator → ⊥) → parts separator s ≡ s ∷ []
one-part separator [] free = refl
one-part separator (x ∷ s) free =
    rw (ne_eqb x separator (free 0 (omega arith)), one-part separator s (λ i h. free (suc i) (omega arith)))
