-- A file and what it says determine each other. Assumes nothing.
use mathlib.Core.Path.{◌≡◌, refl, sym, ap, subst, ◌∙◌}
use mathlib.Core.List.{List, ◌++◌}
use Prim.Native.Nat.{ℕ, zero, suc, ◌+◌, ◌*◌, ◌^◌, ◌≤◌, ◌<◌}
use native.Mathlib.Omega.{arith}
use lib.ListN.{length, take, drop, length-drop, take-append-drop}
use Rattle.buffers.specs.Bytes.{le_bytes, u32_at}
use Rattle.spec.specs.Shapes.{AreBytes}
use Rattle.buffers.proofs.Bytes.{le-value}
use Rattle.buffers.proofs.LittleEndian.{number-part, number_small}
use Rattle.keys.specs.KeyFile.{mark, key_file_header, format_key_file, attributes_of, key_file_valid, parse_key_file, file_answer}
use Rattle.keys.specs.Reader.{Taken, read_material}
use Rattle.keys.specs.Laws.{Fits, WellFormed, WrittenFile, FileLayout, ParseExact, ReaderExact}
use Rattle.keys.specs.declared.key_file.KeyAttributes.{KeyAttributes}
use Rattle.keys.specs.declared.parse.Header.{Header}
use Rattle.keys.proofs.Header.{header-there, header-long, header-marked, header_read, header-refused, reads-on, is_well_formed, parse_done, parse_refused}
use Rattle.keys.proofs.Written.{file-length}
use Rattle.buffers.proofs.Split.{split}
use Rattle.std.specs.Prelude.{Ok, IsOk}

pub file-layout : FileLayout
unfolding format_key_file key_file_header
file-layout = record { bytes = λ a m. refl; one = refl }

pub accepted-formed : (f : List ℕ) → IsOk (parse_key_file f) → WellFormed f
unfolding parse_key_file
accepted-formed f h = split (key_file_valid f) (is_well_formed f) (λ e. let z = rw e at h in absurd cc)

-- ---- a written file

module _ (a : KeyAttributes) (m : List ℕ) where
  written-mark : take 8 (format_key_file a m) ≡ mark
  unfolding format_key_file key_file_header
  written-mark = refl

  written_version : u32_at (format_key_file a m) 8 ≡ 0
  unfolding format_key_file key_file_header
  written_version = refl

  written-size : length m ≤ 444 → u32_at (format_key_file a m) 32 ≡ length m
  unfolding format_key_file key_file_header
  written-size h = le-value 4 (length m) (omega arith)

  written-attributes : Fits a → attributes_of (format_key_file a m) ≡ a
  unfolding format_key_file key_file_header
  written-attributes h = λ i. record {
    lifetime = le-value 4 a.lifetime h.lifetime i;
    key_type = le-value 4 a.key_type h.key_type i;
    usage = le-value 4 a.usage h.usage i;
    alg = le-value 4 a.alg h.alg i;
    enrollment_alg = le-value 4 a.enrollment_alg h.enrollment_alg i;
  }

  pub written-formed : length m ≤ 444 → WellFormed (format_key_file a m)
  written-formed h =
      let n = file-length a m in
      let s = written-size h in
      record { header = omega arith; marked = written-mark; version_0 = written_version; material_short = omega arith; whole = omega arith }

  written_parsed : Fits a → length m ≤ 444 → parse_key_file (format_key_file a m) ≡ Ok (record { attributes = a; material_len = length m })
  written_parsed f h =
      parse_done (format_key_file a m) (written-formed h)
      ∙ λ i. Ok (record { attributes = written-attributes f i; material_len = written-size h i })

-- ---- an accepted file

-- the numbers from a place on, one behind the other, and what stands behind them
abbrev numbers_from : ℕ → ℕ → List ℕ → List ℕ
numbers_from zero i f = drop i f
numbers_from (suc k) i f = le_bytes 4 (u32_at f i) ++ numbers_from k (i + 4) f

numbers : (k i : ℕ) (f : List ℕ) → AreBytes f → i + 4 * k ≤ length f → drop i f ≡ numbers_from k i f
numbers zero i f b h = refl
numbers (suc k) i f b h =
    number-part 4 i f b (omega arith) ∙ ap (λ (l : List ℕ). le_bytes 4 (u32_at f i) ++ l) (numbers k (i + 4) f b (omega arith))

module _ (f : List ℕ) (b : AreBytes f) (w : WellFormed f) where
  small : (i : ℕ) → u32_at f i < 2 ^ 32
  small i = number_small 4 i f b

  material-long : u32_at f 32 ≡ length (drop 36 f)
  material-long = omega (arith, length-drop 36 f, w.whole)

  header : f ≡ mark ++ numbers_from 7 8 f
  header =
      let size = w.header in
      sym (take-append-drop 8 f) ∙ λ i. w.marked i ++ numbers 7 8 f b (omega arith) i

  -- the version and the material's length are the two numbers that a file is told apart by
  formed : f ≡ format_key_file (attributes_of f) (drop 36 f)
  unfolding format_key_file key_file_header
  formed =
      header
      ∙ λ i. mark ++ (le_bytes 4 (w.version_0 i) ++ (le_bytes 4 (u32_at f 12) ++ (le_bytes 4 (u32_at f 16) ++ (le_bytes 4 (u32_at f 20)
      ++ (le_bytes 4 (u32_at f 24) ++ (le_bytes 4 (u32_at f 28) ++ (le_bytes 4 (material-long i) ++ drop 36 f)))))))

  formed-written : WrittenFile f
  formed-written = record {
    attributes = attributes_of f;
    material = drop 36 f;
    fits = record { lifetime = small 12; key_type = small 16; usage = small 20; alg = small 24; enrollment_alg = small 28 };
    short = omega (arith, material-long, w.material_short);
    bytes = formed;
  }

formed-accepted : (f : List ℕ) → WellFormed f → IsOk (parse_key_file f)
formed-accepted f w = rw (parse_done f w)

pub parse_exact : ParseExact
parse_exact = record {
  condition = λ f b. (
    λ h. formed-written f b (accepted-formed f h),
    λ w. formed-accepted f (subst WellFormed (sym w.bytes) (written-formed w.attributes w.material w.short)),
  );
  rules = λ f. (accepted-formed f, formed-accepted f);
  gives = written_parsed;
  refusal = parse_refused;
  refusal_numbers = λ f n. ap file_answer (parse_refused f n);
}

pub reader-exact : ReaderExact
unfolding read_material
reader-exact = record {
  condition = λ file. (
    λ e. (header-long file e, header-marked file e),
    λ h. ap (λ (t : Taken Header). t.after.pos) (header-there file h.0 h.1),
  );
  fields = header_read;
  material = λ file e. rw (header_read file e);
  refused = λ file n. header-refused file (λ e. n (header-long file e, header-marked file e));
  read_on = reads-on;
}
