-- What a writer answers and leaves, by whether it wrote, and the laws of that. Assumes nothing.
use mathlib.Core.Path.{◌≡◌, refl, sym, ap, ◌∙◌}
use mathlib.Core.Bool.{Bool, true, false}
use mathlib.Core.List.{List, ◌++◌}
use Prim.Native.Nat.{ℕ, ◌≤◌, ◌<◌}
use borrow.Author.Tests.{le-leb, lt-leb}
use native.Mathlib.Omega.{arith}
use lib.ListN.{length, drop, length-append}
use lib.Seq.{drop_at}
use Rattle.std.specs.Prelude.{Some, None}
use Rattle.text.specs.Written.{writes, answer, left}
use Rattle.text.specs.Laws.{WriteLaws}
use Rattle.text.proofs.Split.{and-false}

module _ (good : Bool) (bytes out : List ℕ) where
  refused-both : writes good bytes out ≡ false → (None ≡ answer good bytes out) × (out ≡ left good bytes out)
  unfolding answer left
  refused-both e = rw e (refl, refl)

  pub bad : good ≡ false → (None ≡ answer good bytes out) × (out ≡ left good bytes out)
  bad e = refused-both (rw e)

  pub no_room : length out < length bytes → (None ≡ answer good bytes out) × (out ≡ left good bytes out)
  no_room h = refused-both (and-false good (lt-leb (length bytes) (length out) h))

  pub wrote : (n : ℕ) → good ≡ true → n ≡ length bytes → length bytes ≤ length out
      → (Some n ≡ answer good bytes out) × (bytes ++ drop n out ≡ left good bytes out)
  unfolding answer left
  wrote n g e h = rw (g, le-leb (length bytes) (length out) h, e) (refl, refl)

-- ---- the laws

fits : (bytes out behind : List ℕ) → length out ≡ length bytes
    → (answer true bytes (out ++ behind) ≡ Some (length bytes)) × (left true bytes (out ++ behind) ≡ bytes ++ behind)
fits bytes out behind e =
    let told = wrote true bytes (out ++ behind) (length bytes) refl refl (omega (arith, length-append out behind)) in
    (sym told.0, sym told.1 ∙ ap (λ (l : List ℕ). bytes ++ l) (drop_at out behind (length bytes) e))

pub write-laws : WriteLaws
write-laws = record {
  fits = fits;
  short = λ bytes out h. let told = no_room true bytes out h in (sym told.0, sym told.1);
  bad = λ bytes out. let told = bad false bytes out refl in (sym told.0, sym told.1);
}
