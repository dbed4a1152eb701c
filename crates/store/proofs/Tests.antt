-- What a test of the code says of the definition that it computes, and the tests before a name is looked up. Assumes nothing.
use mathlib.Core.Path.{◌≡◌, refl, sym, ap, ◌∙◌}
use mathlib.Core.Logic.{◌≢◌}
use mathlib.Core.Bool.{Bool, true, false, not, ◌&&◌}
use mathlib.Core.List.{List, [], ◌∷◌, ◌++◌, map}
use Prim.Native.Nat.{ℕ}
use borrow.Author.Tests.{not-true, not-false}
use Rattle.std.specs.Prelude.{Result, Ok, Err, IsErr, IsErrAnd, is_ok}
use Rattle.std.specs.Result.{result_and}
use Rattle.buffers.specs.Bytes.{every}
use Rattle.buffers.proofs.Split.{clash}
use Rattle.spec.specs.Status.{ok, Test, ◌when◌, refuse_if, first_of, Answer}
use Rattle.spec.proofs.Status.{number, nonzero, stops, passes}
use Rattle.store.specs.declared.status.Refusal.{Refusal}
use Rattle.store.specs.declared.status.Refusal.TheVariants.{Length, Corrupt, InvalidName, InvalidFlags, DataSize, NotFound, AlreadyExists, InvalidRecord, FlagsMismatch, NoSpace, Authentication, Rollback, InvalidKeyFile, Offset, TransferSize, InvalidMix, Ambiguous}
use Rattle.store.specs.Answers.{code, status_of, count_of}
use Rattle.store.specs.Parts.{area_tests, early}

-- `if !f(..)`, taken and left
pub is_false : {b x : Bool} → b ≡ x → not b ≡ true → x ≡ false
is_false {b} e t = sym e ∙ not-true b t

pub is_true : {b x : Bool} → b ≡ x → not b ≡ false → x ≡ true
is_true {b} e t = sym e ∙ not-false b t

-- a refusal's number is not that of a call that is done
pub refused_number : (e : Refusal) → code e ≢ ok
refused_number Length z = cc
refused_number Corrupt z = cc
refused_number InvalidName z = cc
refused_number InvalidFlags z = cc
refused_number DataSize z = cc
refused_number NotFound z = cc
refused_number AlreadyExists z = cc
refused_number InvalidRecord z = cc
refused_number FlagsMismatch z = cc
refused_number NoSpace z = cc
refused_number Authentication z = cc
refused_number Rollback z = cc
refused_number InvalidKeyFile z = cc
refused_number Offset z = cc
refused_number TransferSize z = cc
refused_number InvalidMix z = cc
refused_number Ambiguous z = cc

-- what `?` hands on
pub handed_on : {A : Type 0} (r : Result A Refusal) (e : Refusal) → IsErr r × IsErrAnd r (λ x. x ≡ e) → r ≡ Err e
handed_on (Ok a) e h = clash false h.0 refl
handed_on (Err x) e h = ap Err h.1

pub handed_status : {A : Type 0} (r : Result A Refusal) (e : Refusal) → IsErr r × IsErrAnd r (λ x. x ≡ e) → status_of r ≡ code e
handed_status r e h = ap status_of (handed_on r e h)

pub handed_answer : (r : Result ℕ Refusal) (e : Refusal) (output : List ℕ) → IsErr r × IsErrAnd r (λ x. x ≡ e)
    → ◌≡◌ {A = Answer} (record { status = status_of r; numbers = count_of r ∷ []; output = output }) (record { status = code e; numbers = 0 ∷ []; output = output })
handed_answer r e output h = ap (λ (x : Result ℕ Refusal). record { status = status_of x; numbers = count_of x ∷ []; output = output }) (handed_on r e h)

-- a verdict that was kept, handed on beside a count
pub is_done : {A : Type 0} (r : Result A Refusal) → is_ok r ≡ true → status_of r ≡ ok
is_done (Ok a) e = refl
is_done (Err x) e = clash false e refl

pub not_done : {A : Type 0} (r : Result A Refusal) → is_ok r ≡ false → status_of r ≢ ok
not_done (Ok a) e z = clash true refl e
not_done (Err x) e z = refused_number x z

pub counted_done : {A : Type 0} (r : Result A Refusal) → is_ok r ≡ true → (n : ℕ) (output : List ℕ)
    → ◌≡◌ {A = Answer} (record { status = status_of (result_and r (Ok n)); numbers = count_of (result_and r (Ok n)) ∷ []; output = output }) (record { status = status_of r; numbers = n ∷ []; output = output })
counted_done (Ok a) e n output = refl
counted_done (Err x) e n output = clash false e refl

abbrev none_read : Result ℕ Refusal
none_read = Ok 0

pub counted_none : {A : Type 0} (r : Result A Refusal) (output : List ℕ)
    → ◌≡◌ {A = Answer} (record { status = status_of (result_and r none_read); numbers = count_of (result_and r none_read) ∷ []; output = output }) (record { status = status_of r; numbers = 0 ∷ []; output = output })
counted_none (Ok a) output = refl
counted_none (Err x) output = refl

-- tests in two groups: the first refuses, or it passes, and the second decides
module _ (l m : List Test) where
  pub stopped : {A : Type 0} (r : Result A Refusal) (e : Refusal) → IsErr r × IsErrAnd r (λ x. x ≡ e) → code e ≡ first_of l → status_of r ≡ first_of (l ++ m)
  stopped r e h p = ap status_of (handed_on r e h) ∙ p ∙ sym (stops l m (λ z. refused_number e (p ∙ z)))

  pub went_on : every nonzero (map number l) ≡ true → ok ≡ first_of l → (n : ℕ) → n ≡ first_of m → n ≡ first_of (l ++ m)
  went_on z p n q = q ∙ sym (passes l m z (sym p))

-- one number for two tests
both_say : (a b : Bool) (n x : ℕ) → refuse_if (not (a && b)) n x ≡ refuse_if (not a) n (refuse_if (not b) n x)
unfolding refuse_if
both_say true b n x = refl
both_say false b n x = refl

module _ (kv rbp : List ℕ) (arguments : List Test) where
  -- the areas and the lengths that a call has besides, tested first
  pub two-besides : (a b : Bool) → first_of (early kv rbp ((1 when not a) ∷ (1 when not b) ∷ []) arguments) ≡ first_of (area_tests kv rbp (a && b) ++ arguments)
  two-besides a b = rw (both_say a b)
