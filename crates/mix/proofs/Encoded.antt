-- A mix's bytes in a buffer. Assumes nothing.
use mathlib.Core.Path.{◌≡◌, sym, ap, ◌∙◌}
use mathlib.Core.Logic.{◌≢◌}
use mathlib.Core.Bool.{Bool, true, false}
use mathlib.Core.List.{List, [], ◌∷◌, ◌++◌, map, flatten}
use Prim.Native.Nat.{ℕ, ◌+◌, ◌-◌, ◌*◌, ◌≤◌, ◌<◌}
use native.Mathlib.Omega.{arith}
use lib.Dec.{leb}
use lib.ListN.{length, get_or, take, drop}
use lib.Seq.{drop-drop, take-append_seam}
use borrow.Author.Tests.{leb-true, le-leb, lt-leb}
use Rattle.buffers.specs.Bytes.{every, zeros, zero_fill, le_bytes}
use Rattle.buffers.proofs.Bytes.{drop-zeros}
use Rattle.buffers.proofs.Split.{both, split, clash}
use Rattle.spec.specs.Status.{ok, refuse_if, first_of, Answer, bytes_given}
use Rattle.mix.specs.Send.{send_in_range, send_bytes}
use Rattle.mix.specs.Mix.{counted, mix_in_range, mix_bytes, encode_tests, encode_mix}
use Rattle.mix.specs.Laws.{holding}
use Rattle.mix.proofs.MixLaws.{mix-range-to, mix-range-of, encode-exact}
use Rattle.mix.specs.declared.monitor.MonitorMix.{MonitorMix}

pub range-parts : (m : MonitorMix) → mix_in_range m ≡ true → (m.count ≤ 16) × (every send_in_range (counted m) ≡ true)
unfolding mix_in_range
range-parts m h = let p = both (leb m.count 16) (every send_in_range (counted m)) h in (leb-true m.count 16 p.0, p.1)

-- the header and the sends behind it are all of the bytes
pub bytes-filled : (m : MonitorMix) → length (mix_bytes m) ≡ 9 + 9 * m.count → (r head : List ℕ)
    → head ≡ zero_fill 153 (le_bytes 8 m.session_id ++ (m.count ∷ []))
    → r ≡ (take 9 head ++ flatten (map send_bytes (counted m))) ++ drop (9 + 9 * m.count) head → r ≡ zero_fill 153 (mix_bytes m)
unfolding mix_bytes
bytes-filled m n r head h e =
    let front = le_bytes 8 m.session_id ++ (m.count ∷ []) in
    let all = flatten (map send_bytes (counted m)) in
    let left : 144 - 9 * m.count ≡ 153 - length (mix_bytes m) = omega (arith, n) in
    let rest : drop (9 + 9 * m.count) (zero_fill 153 front) ≡ zeros (153 - length (mix_bytes m)) =
    sym (drop-drop (9 * m.count) 9 (zero_fill 153 front)) ∙ drop-zeros 144 (9 * m.count)
    ∙ ap zeros left in
    e ∙ ap (λ (l : List ℕ). (take 9 l ++ all) ++ drop (9 + 9 * m.count) l) h ∙ ap (λ (l : List ℕ). (front ++ all) ++ l) rest

-- the part of the array that the bytes are
pub bytes-part : (m : MonitorMix) → length (mix_bytes m) ≡ 9 + 9 * m.count → (r : List ℕ) → r ≡ zero_fill 153 (mix_bytes m)
    → take (9 + 9 * m.count) r ≡ mix_bytes m
bytes-part m n r e =
    ap (λ (l : List ℕ). take (9 + 9 * m.count) l) e ∙ ap (λ (k : ℕ). take k (zero_fill 153 (mix_bytes m))) (sym n)
    ∙ take-append_seam (mix_bytes m) (zeros (153 - length (mix_bytes m)))

-- the tests of an encoding
pub short_buffer : (good : Bool) (buf : List ℕ) → length buf < 153 → first_of (encode_tests good buf) ≡ 1
unfolding encode_tests refuse_if
short_buffer good buf h = rw (lt-leb 153 (length buf) h)

pub out_of_range : (good : Bool) (buf : List ℕ) → 153 ≤ length buf → good ≡ false → first_of (encode_tests good buf) ≡ 20
unfolding encode_tests refuse_if
out_of_range good buf h g = rw (le-leb 153 (length buf) h, g)

pub encodes : (good : Bool) (buf : List ℕ) → 153 ≤ length buf → good ≡ true → first_of (encode_tests good buf) ≡ ok
unfolding encode_tests refuse_if
encodes good buf h g = rw (le-leb 153 (length buf) h, g)

-- what an encoding into enough room was
module _ (m : MonitorMix) (buf : List ℕ) (long : 153 ≤ length buf) (g : Answer) (e : g ≡ encode_mix m buf) where
  pub not-encoded : g.status ≢ ok → (mix_in_range m ≡ false) × (g.status ≡ 20)
  not-encoded h = split (mix_in_range m)
      (λ t. absurd (h (ap (λ (a : Answer). a.status) (e ∙ encode-exact.gives m buf long (mix-range-to m t)))))
      (λ f. (f, ap (λ (a : Answer). a.status) (e ∙ encode-exact.out_of_range m buf long (λ r. clash (mix_in_range m) (mix-range-of m r) f))))

  module _ (h : g.status ≡ ok) where
    pub encoded-range : mix_in_range m ≡ true
    encoded-range = split (mix_in_range m) (λ t. t) (λ f. absurd (omega (
      arith,
      h,
      ap (λ (a : Answer). a.status)
          (e ∙ encode-exact.out_of_range m buf long (λ r. clash (mix_in_range m) (mix-range-of m r) f)),
    )))

    held : g ≡ holding buf (mix_bytes m)
    held = e ∙ encode-exact.gives m buf long (mix-range-to m encoded-range)

    pub encoded-bytes : bytes_given g ≡ mix_bytes m
    encoded-bytes = ap bytes_given held ∙ take-append_seam (mix_bytes m) (drop (length (mix_bytes m)) buf)

    pub encoded-fits : length m.sends ≡ 16 → get_or g.numbers 0 0 ≤ 153
    encoded-fits n = omega (arith, ap (λ (a : Answer). get_or a.numbers 0 0) held, (encode-exact.fits_in m n (mix-range-to m encoded-range)).1)
