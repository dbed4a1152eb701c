-- What a reader or a writer of text answers and leaves, where the buffer is long enough. Assumes nothing.
use mathlib.Core.Path.{◌≡◌, refl, sym, ap, ◌∙◌}
use mathlib.Core.Bool.{Bool, true, false, cond}
use mathlib.Core.List.{List, ◌++◌, append-nil}
use Prim.Native.Nat.{ℕ, zero, suc, ◌-◌, ◌/◌, ◌≤◌}
use native.Mathlib.Omega.{arith}
use borrow.Author.Tests.{le-leb}
use lib.Dec.{ltb}
use lib.ListN.{length, take, drop, drop_of_length-le}
use Rattle.std.specs.Prelude.{Option, Some, None}
use Rattle.std.proofs.lemmas.Option.{none-some, cond_some}
use Rattle.text.specs.Written.{answer, left}
use Rattle.text.specs.Decimal.{places_before, places, decimal_text}
use Rattle.text.proofs.Written.{wrote}
use Rattle.text.proofs.DecimalSteps.{text-length}
use Rattle.buffers.proofs.Split.{split}
use Rattle.store.proofs.Slices.{front-part}

-- none is given where the test fails
pub cond_none : {A : Type 0} (b : Bool) (x : A) → cond b (Some x) None ≡ None → b ≡ false
cond_none true x e = absurd (none-some x (sym e))
cond_none false x e = refl

module _ (good : Bool) (bytes out : List ℕ) (r : Option ℕ) (p : r ≡ answer good bytes out) (h : length bytes ≤ length out) where
  told : r ≡ cond good (Some (length bytes)) None
  unfolding answer
  told = p ∙ split good (λ g. rw (g, le-leb (length bytes) (length out) h)) (λ g. rw g)

  pub coded-some : good ≡ true → r ≡ Some (length bytes)
  coded-some g = told ∙ rw g refl

  -- it is done exactly where the input is good
  pub coded-none : r ≡ None → good ≡ false
  coded-none e = cond_none good (length bytes) (sym told ∙ e)

  module _ (n : ℕ) (e : r ≡ Some n) where
    pub coded-good : good ≡ true
    coded-good = (cond_some good (length bytes) n (sym told ∙ e)).0

    pub coded-count : length bytes ≡ n
    coded-count = (cond_some good (length bytes) n (sym told ∙ e)).1

    -- the part that the count tells
    pub coded-part : (last : List ℕ) → last ≡ left good bytes out → take (n - 0) (drop 0 last) ≡ bytes
    coded-part last q = rw (q ∙ sym (wrote good bytes out (length bytes) coded-good refl h).1) (front-part bytes (drop (length bytes) out) n coded-count)

    -- a buffer that they fill
    pub coded-all : (last : List ℕ) → last ≡ left good bytes out → length bytes ≡ length out → last ≡ bytes
    coded-all last q f =
        q ∙ sym (wrote good bytes out (length bytes) coded-good refl h).1
        ∙ ap (λ (l : List ℕ). bytes ++ l) (drop_of_length-le out {i = length bytes} (omega (arith, f)))
        ∙ append-nil bytes

-- a number has at most 20 digits
places-before : (k n : ℕ) → places_before k n ≤ k
places-before zero n = omega arith
places-before (suc k) n = split (ltb 0 n) (λ e. rw e (omega (arith, places-before k (n / 10)))) (λ e. rw e (omega arith))

pub text-short : (n : ℕ) → length (decimal_text n) ≤ 20
unfolding places
text-short n = omega (arith, text-length n, places-before 19 (n / 10))
