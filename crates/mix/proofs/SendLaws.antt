-- A send and its nine bytes determine each other. Assumes nothing.
use mathlib.Core.Path.{◌≡◌, refl, sym, ap, ◌∙◌}
use mathlib.Core.Bool.{Bool, true, ◌&&◌}
use mathlib.Core.List.{List, [], ◌∷◌, ◌++◌, append-nil}
use Prim.Native.Nat.{ℕ, ◌+◌, ◌^◌, ◌<◌}
use native.Mathlib.Omega.{arith}
use borrow.Author.Tests.{eqb-true}
use lib.Dec.{T, eqb}
use lib.Ieee.{Float, binary32, fits, to_bits, of_bits}
use lib.Ieee.Bits.{is_true, of_bits-to_bits, to_bits-lt, of_bits-fits}
use lib.ListN.{length, drop, length-drop, drop_of_length-le}
use lib.Seq.{take_all, drop-cons}
use Rattle.buffers.specs.Bytes.{zeros, all_zero, le_bytes, le_value, u32_at}
use Rattle.buffers.proofs.Bytes.{le-value}
use Rattle.buffers.proofs.LittleEndian.{number-part, number_small}
use Rattle.buffers.proofs.Split.{split, both}
use Rattle.spec.specs.Shapes.{AreBytes}
use Rattle.mix.specs.Range.{level_in_range, pan_in_range}
use Rattle.mix.specs.Send.{send_in_range, send_bytes, tag_at, level_at, pan_at, send_valid, send_of}
use Rattle.mix.specs.Laws.{LevelBits, PanBits, FloatsFit, SendInRange, Zeros, SendFormed, is_muted, is_level, is_level_pan}
use Rattle.mix.specs.declared.monitor.AuxSend.{AuxSend}
use Rattle.mix.specs.declared.monitor.AuxSend.TheVariants.{Muted, Level, LevelPan}
use Rattle.mix.proofs.RangeLaws.{level_bits, pan_bits, level-kept, pan-kept}

holds : (b : Bool) → b ≡ true → T b
holds b e = rw e tt

-- ---- from a send to bytes and back

float_back : (x : Float) → fits binary32 x ≡ true → of_bits binary32 (le_value (le_bytes 4 (to_bits binary32 x))) ≡ x
float_back x f =
    let t = holds (fits binary32 x) f in
    ap (of_bits binary32) (le-value 4 (to_bits binary32 x) (to_bits-lt binary32 x t)) ∙ of_bits-to_bits binary32 x t

pub send-back : (s : AuxSend) → FloatsFit s ≡ true → send_of (send_bytes s) ≡ s
unfolding send_of
send-back Muted f = refl
send-back (Level l) f = ap Level (float_back l f)
send-back (LevelPan l p) f =
    let k = both (fits binary32 l) (fits binary32 p) f in
    λ i. LevelPan (float_back l k.0 i) (float_back p k.1 i)

pub send-valid-bytes : (s : AuxSend) → FloatsFit s ≡ true → send_in_range s ≡ true → send_valid (send_bytes s) ≡ true
unfolding send_valid
send-valid-bytes Muted f e = refl
send-valid-bytes (Level l) f e = rw (float_back l f, e)
send-valid-bytes (LevelPan l p) f e =
    let k = both (fits binary32 l) (fits binary32 p) f in
    rw (float_back l k.0, float_back p k.1) e

pub send-long : (s : AuxSend) → length (send_bytes s) ≡ 9
send-long Muted = refl
send-long (Level l) = refl
send-long (LevelPan l p) = refl

-- ---- in range, as a test and as a statement

pub range-to : (s : AuxSend) → send_in_range s ≡ true → SendInRange s
range-to Muted e = tt
range-to (Level l) e = e
range-to (LevelPan l p) e = both (level_in_range l) (pan_in_range p) e

pub range-of : (s : AuxSend) → SendInRange s → send_in_range s ≡ true
range-of Muted h = refl
range-of (Level l) h = h
range-of (LevelPan l p) h = rw (h.0, h.1)

-- ---- from nine bytes to a send and back

zeros_of : (l : List ℕ) → all_zero l ≡ true → l ≡ zeros (length l)
zeros_of [] h = refl
zeros_of (x ∷ l) h =
    let p = both (eqb x 0) (all_zero l) h in
    λ i. eqb-true x 0 p.0 i ∷ zeros_of l p.1 i

fit : (n : ℕ) → fits binary32 (of_bits binary32 n) ≡ true
fit n = is_true (fits binary32 (of_bits binary32 n)) (of_bits-fits binary32 n)

module _ (b : List ℕ) where
  pub floats-fit : FloatsFit (send_of b) ≡ true
  unfolding send_of
  floats-fit = split (eqb (tag_at b) 0)
      (λ t. rw t)
      (λ t. split (eqb (tag_at b) 1) (λ u. rw (t, u) (fit (u32_at b 1))) (λ u. rw (t, u, fit (u32_at b 1)) (fit (u32_at b 5))))

module _ (b : List ℕ) (size : length b ≡ 9) where
  zeros-at : (i k : ℕ) → i + k ≡ 9 → all_zero (drop i b) ≡ true → Zeros i k b
  zeros-at i k e h =
      let n : length (drop i b) ≡ k = length-drop i b ∙ omega arith in
      take_all k (drop i b) (omega arith) ∙ zeros_of (drop i b) h ∙ ap zeros n

  at-zeros : (i k : ℕ) → i + k ≡ 9 → Zeros i k b → drop i b ≡ zeros k
  at-zeros i k e z =
      let n : length (drop i b) ≡ k = length-drop i b ∙ omega arith in
      sym (take_all k (drop i b) (omega arith)) ∙ z

  whole : b ≡ tag_at b ∷ drop 1 b
  whole = drop-cons b 0 0 (omega arith)

  module _ (bytes : AreBytes b) where
    small : (i : ℕ) → u32_at b i < 2 ^ 32
    small i = number_small 4 i b bytes

    pub valid-formed : send_valid b ≡ true → SendFormed b
    unfolding send_valid
    valid-formed e = split (eqb (tag_at b) 0)
        (λ t. is_muted (eqb-true (tag_at b) 0 t) (zeros-at 1 8 refl (rw t at e)))
        (λ t. split (eqb (tag_at b) 1)
        (λ u.
        let k = both (level_in_range (level_at b)) (all_zero (drop 5 b)) (rw (t, u) at e) in
        is_level (eqb-true (tag_at b) 1 u) ((level_bits (u32_at b 1) (small 1)).0 k.0) (zeros-at 5 4 refl k.1))
        (λ u.
        let k = both (eqb (tag_at b) 2) (level_in_range (level_at b) && pan_in_range (pan_at b)) (rw (t, u) at e) in
        let r = both (level_in_range (level_at b)) (pan_in_range (pan_at b)) k.1 in
        is_level_pan (eqb-true (tag_at b) 2 k.0) ((level_bits (u32_at b 1) (small 1)).0 r.0) ((pan_bits (u32_at b 5) (small 5)).0 r.1)))

    pub formed-valid : SendFormed b → send_valid b ≡ true
    unfolding send_valid
    formed-valid (is_muted t z) = rw (t, at-zeros 1 8 refl z)
    formed-valid (is_level t l z) = rw (t, (level_bits (u32_at b 1) (small 1)).1 l, at-zeros 5 4 refl z)
    formed-valid (is_level_pan t l p) = rw (t, (level_bits (u32_at b 1) (small 1)).1 l, (pan_bits (u32_at b 5) (small 5)).1 p)

    pub read_in_range : SendFormed b → send_in_range (send_of b) ≡ true
    unfolding send_of
    read_in_range (is_muted t z) = rw t
    read_in_range (is_level t l z) = rw (t, (level_bits (u32_at b 1) (small 1)).1 l)
    read_in_range (is_level_pan t l p) = rw (t, (level_bits (u32_at b 1) (small 1)).1 l, (pan_bits (u32_at b 5) (small 5)).1 p)

    level-part : drop 1 b ≡ le_bytes 4 (u32_at b 1) ++ drop 5 b
    level-part = number-part 4 1 b bytes (omega arith)

    pan-part : drop 5 b ≡ le_bytes 4 (u32_at b 5)
    pan-part =
        number-part 4 5 b bytes (omega arith)
        ∙ ap (λ (l : List ℕ). le_bytes 4 (u32_at b 5) ++ l) (drop_of_length-le b {i = 9} (omega arith))
        ∙ append-nil (le_bytes 4 (u32_at b 5))

    level-same : LevelBits (u32_at b 1) → to_bits binary32 (level_at b) ≡ u32_at b 1
    level-same l = level-kept (u32_at b 1) (small 1) ((level_bits (u32_at b 1) (small 1)).1 l)

    pan-same : PanBits (u32_at b 5) → to_bits binary32 (pan_at b) ≡ u32_at b 5
    pan-same p = pan-kept (u32_at b 5) (small 5) ((pan_bits (u32_at b 5) (small 5)).1 p)

    pub bytes_back : SendFormed b → send_bytes (send_of b) ≡ b
    unfolding send_of
    bytes_back (is_muted t z) =
        let s : send_of b ≡ Muted = rw t in
        ap send_bytes s ∙ sym (whole ∙ λ i. t i ∷ at-zeros 1 8 refl z i)
    bytes_back (is_level t l z) =
        let s : send_of b ≡ Level (level_at b) = rw t in
        ap send_bytes s
        ∙ (λ i. 1 ∷ (le_bytes 4 (level-same l i) ++ zeros 4))
        ∙ sym (whole ∙ λ i. t i ∷ (level-part ∙ ap (λ (x : List ℕ). le_bytes 4 (u32_at b 1) ++ x) (at-zeros 5 4 refl z)) i)
    bytes_back (is_level_pan t l p) =
        let s : send_of b ≡ LevelPan (level_at b) (pan_at b) = rw t in
        ap send_bytes s
        ∙ (λ i. 2 ∷ (le_bytes 4 (level-same l i) ++ le_bytes 4 (pan-same p i)))
        ∙ sym (whole ∙ λ i. t i ∷ (level-part ∙ ap (λ (x : List ℕ). le_bytes 4 (u32_at b 1) ++ x) pan-part) i)
