-- A file written field by field. Assumes nothing.
use mathlib.Core.Path.{◌≡◌, refl, ap, ◌∙◌}
use mathlib.Core.Bool.{not}
use mathlib.Core.List.{List, [], ◌∷◌, ◌++◌, append_assoc}
use Prim.Native.Nat.{ℕ, ◌+◌, ◌*◌, ◌≤◌, ◌<◌}
use native.Mathlib.Omega.{arith}
use Rattle.std.specs.List.{flat_map}
use Rattle.std.proofs.lemmas.Grind.{flat_map-append}
use Rattle.std.proofs.Common.{add-one}
use lib.Seq.{take-suc, take_at, length-take-le}
use borrow.Author.Tests.{le-leb, lt-leb}
use lib.Dec.{leb}
use lib.ListN.{length, get_or, take, drop, length-append}
use Rattle.spec.specs.Status.{ok, refuse_if, first_of}
use Rattle.buffers.specs.Bytes.{le_bytes, put_at}
use Rattle.buffers.proofs.Lists.{behind}
use Rattle.keys.specs.KeyFile.{mark, key_file_header, format_key_file}
use Rattle.keys.specs.Calls.{format_tests}
use Rattle.keys.specs.declared.key_file.KeyAttributes.{KeyAttributes}

pub file-length : (a : KeyAttributes) (m : List ℕ) → length (format_key_file a m) ≡ 36 + length m
unfolding format_key_file key_file_header
file-length a m = length-append (key_file_header a (length m)) m

-- the mark and the first fields, written over a buffer
abbrev pub with_fields : ℕ → List ℕ → List ℕ → List ℕ
with_fields i fields d = (mark ++ flat_map (le_bytes 4) (take i fields)) ++ drop (8 + 4 * i) d

fields_length : (fields : List ℕ) → length (flat_map (le_bytes 4) fields) ≡ 4 * length fields
fields_length [] = refl
fields_length (x ∷ fields) = omega (arith, fields_length fields)

pub one-more-field : (i : ℕ) (fields d was is : List ℕ) → i < length fields → was ≡ with_fields i fields d
    → is ≡ put_at was (8 + 4 * i) (le_bytes 4 (get_or fields i 0)) → is ≡ with_fields (i + 1) fields d
one-more-field i fields d was is h p q =
    let bytes = flat_map (le_bytes 4) (take i fields) in
    let size : length (mark ++ bytes) ≡ 8 + 4 * i = omega (arith, fields_length (take i fields), length-take-le i fields (omega arith)) in
    let next : flat_map (le_bytes 4) (take (i + 1) fields) ≡ bytes ++ le_bytes 4 (get_or fields i 0) =
    rw (add-one, take-suc fields i 0 h) (flat_map-append (le_bytes 4) (take i fields) (get_or fields i 0 ∷ [])) in
    let place : 8 + 4 * i + 4 ≡ 8 + 4 * (i + 1) = omega arith in
    behind d (mark ++ bytes) (le_bytes 4 (get_or fields i 0)) was is (8 + 4 * i) p q size
    ∙ rw (next, place) (ap (λ (l : List ℕ). l ++ drop (8 + 4 * (i + 1)) d) (append_assoc mark bytes (le_bytes 4 (get_or fields i 0))))

-- the test that both calls with a key buffer begin with
pub short_buffer : (buf : List ℕ) (rest : ℕ) → length buf < 480 → refuse_if (not (leb 480 (length buf))) 1 rest ≡ 1
unfolding refuse_if
short_buffer buf rest h = rw (lt-leb 480 (length buf) h)

-- ---- writing a file

pub long-material : (m buf : List ℕ) → 480 ≤ length buf → 444 < length m → first_of (format_tests m buf) ≡ 13
unfolding format_tests refuse_if
long-material m buf h k = rw (le-leb 480 (length buf) h, lt-leb (length m) 444 k)

pub writes : (m buf : List ℕ) → 480 ≤ length buf → length m ≤ 444 → first_of (format_tests m buf) ≡ ok
unfolding format_tests refuse_if
writes m buf h k = rw (le-leb 480 (length buf) h, le-leb (length m) 444 k)

-- the file's part of the buffer that it was written to
pub file-part : (a : KeyAttributes) (m d out : List ℕ) → out ≡ format_key_file a m ++ drop (36 + length m) d
    → take (36 + length m) out ≡ format_key_file a m
file-part a m d out e = rw e (take_at (format_key_file a m) (drop (36 + length m) d) (36 + length m) (file-length a m))
