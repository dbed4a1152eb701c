-- The place of a byte is the place that the library finds. Assumes nothing.
use mathlib.Core.Path.{◌≡◌, refl, ap, ◌∙◌, sym}
use mathlib.Core.Bool.{cond, not}
use mathlib.Core.List.{List}
use Prim.Native.Nat.{ℕ, ◌+◌, ◌-◌, ◌≤◌}
use native.Mathlib.Omega.{arith}
use borrow.Author.Tests.{ltb-false}
use lib.Dec.{eqb, ltb}
use lib.ListN.{length, take, drop}
use Rattle.std.specs.Prelude.{position, ◌==◌}
use Rattle.std.specs.List.{position_or_len}
use Rattle.std.specs.Option.{unwrap_or}
use Rattle.std.proofs.lemmas.List.Recursion.{is_position_or_len}
use Rattle.std.proofs.lemmas.List.Sums.{prefix_len-le-length}
use Rattle.std.proofs.lemmas.List.{drop-take}
use Rattle.text.specs.Scan.{index_of, slice}
use Rattle.text.proofs.Split.{split}

index-place : (byte : ℕ) (s : List ℕ) → index_of byte s ≡ position_or_len (λ x. x == byte) s
index-place byte = is_position_or_len (index_of byte) (λ x. x == byte) refl (λ x xs. ap (cond (eqb x byte) 0) (omega arith))

pub index-found : (byte : ℕ) (s : List ℕ) → unwrap_or (position (λ x. x == byte) s) (length s) ≡ index_of byte s
index-found byte s =
    let place = position_or_len (λ x. x == byte) s in
    split (ltb place (length s))
    (λ e. rw e (sym (index-place byte s)))
    (λ e. rw e (omega (arith, ltb-false place (length s) e, prefix_len-le-length (λ x. not (x == byte)) s, index-place byte s)))

-- a part as the code has it
pub slice-part : (from to : ℕ) (s : List ℕ) → from ≤ to → take (to - from) (drop from s) ≡ slice from to s
slice-part from to s h =
    let e : from + (to - from) ≡ to = omega arith in
    sym (drop-take from (to - from) s) ∙ ap (λ (k : ℕ). drop from (take k s)) e
