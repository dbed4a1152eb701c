-- What a load's tests say. Assumes nothing.
use mathlib.Core.Path.{◌≡◌, sym, ap}
use mathlib.Core.Logic.{◌≢◌}
use mathlib.Core.Bool.{true, false}
use mathlib.Core.List.{List, [], ◌∷◌}
use Prim.Native.Nat.{ℕ, ◌≤◌}
use native.Mathlib.Omega.{arith}
use borrow.Author.Tests.{le-leb, ne_eqb}
use lib.ListN.{length, get_or}
use Rattle.spec.specs.Status.{ok, refuse_if, first_of, Answer, bytes_given}
use Rattle.buffers.specs.Bytes.{zeros}
use Rattle.spec.specs.Name.{key_name}
use Rattle.spec.proofs.Whole.{count-within}
use Rattle.buffers.proofs.Split.{split}
use Rattle.keys.specs.KeyFile.{key_file_valid, parse_key_file}
use Rattle.keys.specs.Calls.{key_record, load_tests}
use Rattle.keys.specs.declared.key_file.KeyFile.{KeyFile}
use Rattle.std.specs.Prelude.{Ok, Err}
use Rattle.store.specs.declared.status.Refusal.{Refusal}
use Rattle.store.specs.declared.status.Refusal.TheVariants.{InvalidKeyFile}

module _ (kv rbp key : List ℕ) (id : ℕ) (buf : List ℕ) where
  module _ (l : 480 ≤ length buf) (g : Answer) (e : g ≡ key_record kv rbp key id) where
    pub not-got : g.status ≢ ok → first_of (load_tests kv rbp key id buf) ≡ g.status
    unfolding load_tests refuse_if
    not-got n = rw (le-leb 480 (length buf) l, sym e, ne_eqb g.status ok n)

    pub not-a-file : g.status ≡ ok → key_file_valid (bytes_given g) ≡ false → first_of (load_tests kv rbp key id buf) ≡ 13
    unfolding load_tests refuse_if
    not-a-file s v = rw (le-leb 480 (length buf) l, sym e, s, v)

    pub loads : g.status ≡ ok → key_file_valid (bytes_given g) ≡ true → first_of (load_tests kv rbp key id buf) ≡ ok
    unfolding load_tests refuse_if
    loads s v = rw (le-leb 480 (length buf) l, sym e, s, v)

-- a record that was found fits the array that it was given
pub count-within-file : (kv rbp key : List ℕ) (id count : ℕ) (file : List ℕ) → record { status = 0; numbers = count ∷ []; output = file } ≡ key_record kv rbp key id
    → length file ≡ 480 → count ≤ length file
unfolding key_record
count-within-file kv rbp key id count file e n =
    omega (arith, ap (λ (x : Answer). get_or x.numbers 0 0) e, count-within kv rbp key (key_name id) 0 (zeros 480))

-- the parser's verdict
pub file-valid : (f : List ℕ) (file : KeyFile) → Ok file ≡ parse_key_file f → key_file_valid f ≡ true
unfolding parse_key_file
file-valid f file h = split (key_file_valid f) (λ e. e) (λ e. let z = rw e at h in absurd cc)

pub file-invalid : (f : List ℕ) (refusal : Refusal) → Err refusal ≡ parse_key_file f → (key_file_valid f ≡ false) × (refusal ≡ InvalidKeyFile)
unfolding parse_key_file
file-invalid f refusal h = split (key_file_valid f) (λ e. let z = rw e at h in absurd cc) (λ e. let z = rw e at h in (e, cc))
