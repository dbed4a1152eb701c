-- Laws of a list of tests, and of what depends on its outcome.
use mathlib.Core.Path.{◌≡◌, refl, sym, ap, ◌∙◌}
use mathlib.Core.Logic.{◌≢◌}
use mathlib.Core.Bool.{Bool, true, false, not}
use mathlib.Core.List.{List, [], ◌∷◌, ◌++◌, map}
use Prim.Native.Nat.{ℕ}
use borrow.Author.Tests.{eqb-true, eqb-false, ne_eqb}
use lib.Dec.{eqb}
use lib.ListN.{length, drop}
use Rattle.buffers.specs.Bytes.{every}
use Rattle.spec.specs.Status.{ok, is_listed, is_ok, Test, ◌when◌, refuse_if, first_of, on_ok, buffer_answer}
use Rattle.buffers.proofs.Split.{split, both, not_true_is}

abbrev pub number : Test → ℕ
number (n when failed) = n

-- every test passes
abbrev pub Passed : List Test → Type 0
Passed [] = Unit {0}
Passed ((n when failed) ∷ rest) = (failed ≡ false) × Passed rest

abbrev pub nonzero : ℕ → Bool
nonzero n = not (eqb n 0)

-- what holds of the number and of what follows holds of both together
pub refuse_either : (P : ℕ → Type 0) (t : Bool) (number rest : ℕ) → P number → P rest → P (refuse_if t number rest)
unfolding refuse_if
refuse_either P true number rest p q = p
refuse_either P false number rest p q = q

pub first-listed : (l : List Test) → every is_listed (map number l) ≡ true → is_listed (first_of l) ≡ true
unfolding is_listed
first-listed [] h = refl
first-listed ((n when failed) ∷ l) h =
    let k = both (is_listed n) (every is_listed (map number l)) h in
    refuse_either (λ n. is_listed n ≡ true) failed n (first_of l) k.0 (first-listed l k.1)

-- an accepted call has passed the test, and what follows
pub passed : (t : Bool) (number rest : ℕ) → number ≢ ok → refuse_if t number rest ≡ ok → (t ≡ false) × (rest ≡ ok)
unfolding refuse_if
passed true number rest n h = absurd (n h)
passed false number rest n h = (refl, h)

-- 0 is given exactly where every test passes
pub all-passed : (l : List Test) → every nonzero (map number l) ≡ true → first_of l ≡ ok → Passed l
all-passed [] z h = tt
all-passed ((n when failed) ∷ l) z h =
    let k = both (nonzero n) (every nonzero (map number l)) z in
    let p = passed failed n (first_of l) (eqb-false n 0 (not_true_is (eqb n 0) k.0)) h in
    (p.0, all-passed l k.1 p.1)

pub passed-all : (l : List Test) → Passed l → first_of l ≡ ok
unfolding refuse_if
passed-all [] p = refl
passed-all ((n when failed) ∷ l) p = rw p.0 (passed-all l p.1)

-- tests that pass do not decide
pub past : (l m : List Test) → Passed l → first_of (l ++ m) ≡ first_of m
unfolding refuse_if
past [] m p = refl
past ((n when failed) ∷ l) m p = rw p.0 (past l m p.1)

-- what comes after tests makes their number, where it has the same one
pub under : (l m n : List Test) → first_of m ≡ first_of n → first_of (l ++ m) ≡ first_of (l ++ n)
under [] m n e = e
under ((k when failed) ∷ l) m n e = ap (refuse_if failed k) (under l m n e)

pub passed-split : (l m : List Test) → Passed (l ++ m) → Passed l × Passed m
passed-split [] m p = (tt, p)
passed-split ((n when failed) ∷ l) m p = let k = passed-split l m p.1 in ((p.0, k.0), k.1)

pub on-refused : {A : Type 0} (status : ℕ) (a b : A) → status ≢ ok → on_ok status a b ≡ b
unfolding on_ok
on-refused status a b h = rw (ne_eqb status ok h)

pub on-ok : {A : Type 0} (status : ℕ) (a b : A) → status ≡ ok → on_ok status a b ≡ a
unfolding on_ok
on-ok status a b h = rw h

-- a status is 0 or not
pub by-status : {P : Type 0} (status : ℕ) → (status ≡ ok → P) → (status ≢ ok → P) → P
by-status status f g = split (is_ok status) (λ e. f (eqb-true status ok e)) (λ e. g (eqb-false status ok e))

-- of two lists in order: the first, where it says so; else the second
pub stops : (l m : List Test) → first_of l ≢ ok → first_of (l ++ m) ≡ first_of l
unfolding refuse_if
stops [] m h = absurd (h refl)
stops ((n when true) ∷ l) m h = refl
stops ((n when false) ∷ l) m h = stops l m h

pub passes : (l m : List Test) → every nonzero (map number l) ≡ true → first_of l ≡ ok → first_of (l ++ m) ≡ first_of m
passes l m z h = past l m (all-passed l z h)

pub first-passed : (l m : List Test) → every nonzero (map number (l ++ m)) ≡ true → first_of (l ++ m) ≡ ok → first_of l ≡ ok
first-passed l m z h = passed-all l (passed-split l m (all-passed (l ++ m) z h)).0

-- a status that is handed on where it is not 0
pub got-ok : (s next : ℕ) → refuse_if (not (is_ok s)) s next ≡ ok → (s ≡ ok) × (next ≡ ok)
unfolding refuse_if
got-ok s next h = split (is_ok s) (λ e. (eqb-true s ok e, rw e at h)) (λ e. absurd (eqb-false s ok e (rw e at h)))

-- what is answered with a buffer
pub answer-refused : (s t : ℕ) (bytes buf : List ℕ) → t ≡ s → s ≢ ok → record { status = s; numbers = 0 ∷ []; output = buf } ≡ buffer_answer t bytes buf
unfolding buffer_answer
answer-refused s t bytes buf e h =
    let n : t ≢ ok = λ k. h (sym e ∙ k) in
    rw (sym e, on-refused t (length bytes ∷ []) (0 ∷ []) n, on-refused t (bytes ++ drop (length bytes) buf) buf n)

pub answer-done : (t n : ℕ) (bytes buf out : List ℕ) → t ≡ ok → n ≡ length bytes → out ≡ bytes ++ drop (length bytes) buf
    → record { status = ok; numbers = n ∷ []; output = out } ≡ buffer_answer t bytes buf
unfolding buffer_answer on_ok
answer-done t n bytes buf out e h o = rw (e, h, o)
