-- A mix as three arrays: what the loops fill from the front, what encoding and decoding answer, and that what was encoded is given back. Assumes nothing.
use mathlib.Core.Path.{◌≡◌, refl, sym, ap, ◌∙◌}
use mathlib.Core.Logic.{◌≢◌}
use mathlib.Core.Bool.{true, false}
use mathlib.Core.List.{List, [], ◌∷◌, ◌++◌, map, zip_with, append_assoc}
use Prim.Native.Nat.{ℕ, zero, suc, ◌-◌, ◌≤◌, ◌<◌}
use native.Mathlib.Omega.{arith}
use borrow.Author.Tests.{leb-true, leb-false, le-leb, lt-leb, eqb-true, eqb-false, eq-eqb, ne_eqb, not-false}
use lib.Dec.{eqb, leb}
use lib.Ieee.{Float, nan, binary32, fits}
use lib.ListN.{length, get_or, set, take, drop, replicate, length-map, length-append, length-replicate, get_or-append}
use lib.Seq.{drop-cons, set_at, take_at, length-take-le, take_all, take-length}
use Rattle.buffers.specs.Bytes.{every}
use Rattle.buffers.proofs.Split.{split, both, clash}
use Rattle.spec.specs.Status.{refuse_if, on_ok, Answer, buffer_answer}
use Rattle.spec.proofs.Status.{all-passed}
use Rattle.spec.proofs.First.{every-index, index-every}
use Rattle.mix.specs.Range as range
use Rattle.mix.specs.Range.{level_in_range, pan_in_range}
use Rattle.mix.specs.Mix.{MixAnswer, mix_in_range, mix_bytes, mix_valid, mix_of, decode_mix, encode_tests, encode_mix}
use Rattle.mix.specs.Arrays.{send_tag, send_level, send_pan, send_from, sends_from, mix_from, encode_sends_tests, encode_sends}
use Rattle.mix.specs.Arrays.{SendArrays, DecodedSends, spread_over, decode_sends_tests, decode_sends}
use Rattle.mix.specs.Laws.{FloatsFit, MixFits, SendInRange, InRange, cut, holding, refusing}
use Rattle.mix.specs.Laws.{kept_level, kept_pan, ArraysInRange, SendsFit, ArraysSized, given, SendsExact}
use Rattle.mix.specs.declared.monitor.AuxSend.{AuxSend}
use Rattle.mix.specs.declared.monitor.AuxSend.TheVariants.{Muted}
use Rattle.mix.proofs.Parts.{valid-parts}
use Rattle.mix.proofs.MixLaws.{mix-range-to, mix-range-of, decode-done, decode-refused, decode-valid, valid-decode, decode-exact, encode-exact}

-- one more element behind the front that is written
pub front-more : {A : Type 0} (front d : List A) (x : A) (i : ℕ) → length front ≡ i → i < length d
    → set (front ++ drop i d) i x ≡ (front ++ (x ∷ [])) ++ drop (suc i) d
front-more front d x i h k =
    rw (drop-cons d i x k) (set_at front (get_or d i x) (drop (suc i) d) x i h ∙ sym (append_assoc front (x ∷ []) (drop (suc i) d)))

pub drop-replicate : {A : Type 0} (i n : ℕ) (a : A) → drop i (replicate n a) ≡ replicate (n - i) a
drop-replicate zero n a = let e : n - 0 ≡ n = omega arith in rw e
drop-replicate (suc i) zero a = let e : 0 - suc i ≡ 0 = omega arith in rw e
drop-replicate (suc i) (suc n) a = let e : suc n - suc i ≡ n - i = omega arith in rw e (drop-replicate i n a)

-- ---- sends made of arrays

pub from-length : (ts : List ℕ) (ls ps : List Float) → length ls ≡ length ts → length ps ≡ length ts → length (sends_from ts ls ps) ≡ length ts
from-length [] ls ps h k = refl
from-length (t ∷ ts) [] ps h k = absurd (omega (arith, h))
from-length (t ∷ ts) (l ∷ ls) [] h k = absurd (omega (arith, k))
from-length (t ∷ ts) (l ∷ ls) (p ∷ ps) h k = ap suc (from-length ts ls ps (omega (arith, h)) (omega (arith, k)))

-- one send, as an element of the list
abbrev pub slot_from : List ℕ → List Float → List Float → ℕ → AuxSend
slot_from ts ls ps i = send_from (get_or ts i 0) (get_or ls i nan) (get_or ps i nan)

from_next : (i : ℕ) (ts : List ℕ) (ls ps : List Float) → i < length ts → length ls ≡ length ts → length ps ≡ length ts
    → sends_from (take (suc i) ts) (take (suc i) ls) (take (suc i) ps) ≡ sends_from (take i ts) (take i ls) (take i ps) ++ (slot_from ts ls ps i ∷ [])
from_next i [] ls ps h k j = absurd (omega (arith, h))
from_next i (t ∷ ts) [] ps h k j = absurd (omega (arith, k))
from_next i (t ∷ ts) (l ∷ ls) [] h k j = absurd (omega (arith, j))
from_next zero (t ∷ ts) (l ∷ ls) (p ∷ ps) h k j = refl
from_next (suc i) (t ∷ ts) (l ∷ ls) (p ∷ ps) h k j =
    ap (λ (r : List AuxSend). send_from t l p ∷ r) (from_next i ts ls ps (omega (arith, h)) (omega (arith, k)) (omega (arith, j)))

module _ (ts : List ℕ) (ls ps : List Float) (k : length ls ≡ length ts) (j : length ps ≡ length ts) (d : List AuxSend) (i : ℕ) where
  front_length : i ≤ length ts → length (sends_from (take i ts) (take i ls) (take i ps)) ≡ i
  front_length h =
      let a = length-take-le i ts h in
      let b = length-take-le i ls (omega arith) in
      let e = length-take-le i ps (omega arith) in
      from-length (take i ts) (take i ls) (take i ps) (b ∙ sym a) (e ∙ sym a) ∙ a

  -- the next send is written
  pub send-more : (was : List AuxSend) (x : AuxSend) → i < length ts → i < length d → x ≡ slot_from ts ls ps i
      → was ≡ sends_from (take i ts) (take i ls) (take i ps) ++ drop i d
      → set was i x ≡ sends_from (take (suc i) ts) (take (suc i) ls) (take (suc i) ps) ++ drop (suc i) d
  send-more was x h s e w =
      let front = sends_from (take i ts) (take i ls) (take i ps) in
      rw (w, from_next i ts ls ps h k j, sym e) (front-more front d x i (front_length (omega arith)) s)

  pub sends-whole : (was : List AuxSend) → i ≡ length ts → d ≡ replicate 16 Muted → was ≡ sends_from (take i ts) (take i ls) (take i ps) ++ drop i d
      → was ≡ sends_from ts ls ps ++ replicate (16 - length ts) Muted
  sends-whole was e n w =
      rw (w, e, n, take-length ts, take_all (length ts) ls (omega arith), take_all (length ts) ps (omega arith))
      (ap (λ (r : List AuxSend). sends_from ts ls ps ++ r) (drop-replicate (length ts) 16 Muted))

-- ---- arrays made of sends

module _ {A C : Type 0} (f : A → C) where
  map_next : (i : ℕ) (l : List A) (a : A) → i < length l → map f (take (suc i) l) ≡ map f (take i l) ++ (f (get_or l i a) ∷ [])
  map_next i [] a h = absurd (omega (arith, h))
  map_next zero (x ∷ l) a h = refl
  map_next (suc i) (x ∷ l) a h = ap (λ (r : List C). f x ∷ r) (map_next i l a (omega (arith, h)))

  pub parts-length : (i : ℕ) (l : List A) → i ≤ length l → length (map f (take i l)) ≡ i
  parts-length i l h = length-map (take i l) f ∙ length-take-le i l h

  -- the next send's part is written
  pub part-more : (i : ℕ) (l : List A) (a : A) (d was : List C) (x : C) → i < length l → i < length d → x ≡ f (get_or l i a)
      → was ≡ map f (take i l) ++ drop i d → set was i x ≡ map f (take (suc i) l) ++ drop (suc i) d
  part-more i l a d was x h k e w =
      rw (w, map_next i l a h, sym e) (front-more (map f (take i l)) d x i (parts-length i l (omega arith)) k)

-- ---- what encoding answers

module _ (session : ℕ) (ts : List ℕ) (ls ps : List Float) (buf : List ℕ) where
  pub encode-short : length buf < 153 → encode_sends session ts ls ps buf ≡ refusing 1 buf
  unfolding encode_sends encode_sends_tests buffer_answer refuse_if on_ok
  encode-short h = rw (lt-leb 153 (length buf) h)

  module _ (long : 153 ≤ length buf) where
    pub other_levels : length ls ≢ length ts → encode_sends session ts ls ps buf ≡ refusing 1 buf
    unfolding encode_sends encode_sends_tests buffer_answer refuse_if on_ok
    other_levels h = rw (le-leb 153 (length buf) long, ne_eqb (length ls) (length ts) h)

    module _ (k : length ls ≡ length ts) where
      pub other_pans : length ps ≢ length ts → encode_sends session ts ls ps buf ≡ refusing 1 buf
      unfolding encode_sends encode_sends_tests buffer_answer refuse_if on_ok
      other_pans h = rw (le-leb 153 (length buf) long, eq-eqb (length ls) (length ts) k, ne_eqb (length ps) (length ts) h)

      module _ (j : length ps ≡ length ts) where
        pub too_many : 16 < length ts → encode_sends session ts ls ps buf ≡ refusing 20 buf
        unfolding encode_sends encode_sends_tests buffer_answer refuse_if on_ok
        too_many h =
            rw (le-leb 153 (length buf) long, eq-eqb (length ls) (length ts) k, eq-eqb (length ps) (length ts) j, lt-leb (length ts) 16 h)

        module _ (few : length ts ≤ 16) where
          pub bad-tag : every (λ t. leb t 2) ts ≡ false → encode_sends session ts ls ps buf ≡ refusing 20 buf
          unfolding encode_sends encode_sends_tests buffer_answer refuse_if on_ok
          bad-tag e =
              rw (le-leb 153 (length buf) long, eq-eqb (length ls) (length ts) k, eq-eqb (length ps) (length ts) j, le-leb (length ts) 16 few, e)

          pub is-encode : every (λ t. leb t 2) ts ≡ true → encode_sends session ts ls ps buf ≡ encode_mix (mix_from session ts ls ps) buf
          unfolding encode_sends encode_sends_tests encode_mix encode_tests refuse_if
          is-encode e =
              rw (le-leb 153 (length buf) long, eq-eqb (length ls) (length ts) k, eq-eqb (length ps) (length ts) j, le-leb (length ts) 16 few, e)

-- ---- what decoding answers

-- a number alone: the arrays as before
abbrev pub not_decoded : ℕ → SendArrays → DecodedSends
not_decoded status a = record { status = status; session = 0; count = 0; arrays = a }

pub decoded_small : (b : List ℕ) (r : MixAnswer) → r ≡ decode_mix b → r.status ≡ 0 → r.mix.count ≤ 16
unfolding mix_valid mix_of
decoded_small b r e h =
    let valid = decode-valid b (ap (λ (x : MixAnswer). x.status) (sym e) ∙ h) in
    rw (e ∙ decode-done b valid) (valid-parts b valid).small

module _ (b : List ℕ) (a : SendArrays) where
  pub short-tags : length a.tags < 16 → decode_sends b a ≡ not_decoded 1 a
  unfolding decode_sends decode_sends_tests refuse_if on_ok
  short-tags h = rw (lt-leb 16 (length a.tags) h)

  module _ (t : 16 ≤ length a.tags) where
    pub short-levels : length a.levels < 16 → decode_sends b a ≡ not_decoded 1 a
    unfolding decode_sends decode_sends_tests refuse_if on_ok
    short-levels h = rw (le-leb 16 (length a.tags) t, lt-leb 16 (length a.levels) h)

    module _ (l : 16 ≤ length a.levels) where
      pub short-pans : length a.pans < 16 → decode_sends b a ≡ not_decoded 1 a
      unfolding decode_sends decode_sends_tests refuse_if on_ok
      short-pans h = rw (le-leb 16 (length a.tags) t, le-leb 16 (length a.levels) l, lt-leb 16 (length a.pans) h)

      module _ (p : 16 ≤ length a.pans) (r : MixAnswer) (e : r ≡ decode_mix b) where
        pub is_no_mix : r.status ≢ 0 → decode_sends b a ≡ not_decoded r.status a
        unfolding decode_sends decode_sends_tests refuse_if on_ok
        is_no_mix h = split (mix_valid b)
            (λ v. absurd (h (ap (λ (x : MixAnswer). x.status) e ∙ valid-decode b v)))
            (λ v.
            rw (e ∙ decode-refused b v, le-leb 16 (length a.tags) t, le-leb 16 (length a.levels) l, le-leb 16 (length a.pans) p, v))

        pub is-spread : r.status ≡ 0
            → decode_sends b a ≡ record { status = 0; session = r.mix.session_id; count = r.mix.count; arrays = spread_over r.mix a }
        unfolding decode_sends decode_sends_tests refuse_if on_ok mix_of
        is-spread h =
            let v = decode-valid b (ap (λ (x : MixAnswer). x.status) (sym e) ∙ h) in
            rw (e ∙ decode-done b v, le-leb 16 (length a.tags) t, le-leb 16 (length a.levels) l, le-leb 16 (length a.pans) p, v)

-- ---- what was encoded is given back

-- one send
module _ (l p : Float) where
  send-back : (t : ℕ) → t ≤ 2
      → (send_tag (send_from t l p) ≡ t) × (send_level (send_from t l p) ≡ kept_level t l) × (send_pan (send_from t l p) ≡ kept_pan t p)
  unfolding send_from
  send-back zero h = (refl, refl, refl)
  send-back (suc zero) h = (refl, refl, refl)
  send-back (suc (suc zero)) h = (refl, refl, refl)
  send-back (suc (suc (suc t))) h = absurd (omega (arith, h))

  parts_in : (t : ℕ) → t ≤ 2 → (t ≢ 0 → level_in_range l ≡ true) → (t ≡ 2 → pan_in_range p ≡ true) → SendInRange (send_from t l p)
  unfolding send_from
  parts_in zero h f g = tt
  parts_in (suc zero) h f g = f (λ z. omega (arith, z))
  parts_in (suc (suc zero)) h f g = (f (λ z. omega (arith, z)), g refl)
  parts_in (suc (suc (suc t))) h f g = absurd (omega (arith, h))

  level_in : (t : ℕ) → t ≤ 2 → SendInRange (send_from t l p) → t ≢ 0 → level_in_range l ≡ true
  unfolding send_from
  level_in zero h r n = absurd (n refl)
  level_in (suc zero) h r n = r
  level_in (suc (suc zero)) h r n = r.0
  level_in (suc (suc (suc t))) h r n = absurd (omega (arith, h))

  pan_in : (t : ℕ) → SendInRange (send_from t l p) → t ≡ 2 → pan_in_range p ≡ true
  unfolding send_from
  pan_in t r e = (rw e at r).1

  send-fits : (t : ℕ) → fits binary32 l ≡ true → fits binary32 p ≡ true → FloatsFit (send_from t l p) ≡ true
  unfolding send_from
  send-fits t f g = split (eqb t 0) (λ e. rw e) (λ e. split (eqb t 1) (λ o. rw (e, o) f) (λ o. rw (e, o, f) g))

-- a send, of the list and with what stands behind it
from_at : (i : ℕ) (ts : List ℕ) (ls ps : List Float) (d : AuxSend) → i < length ts → length ls ≡ length ts → length ps ≡ length ts
    → get_or (sends_from ts ls ps) i d ≡ send_from (get_or ts i 0) (get_or ls i range.zero) (get_or ps i range.zero)
from_at i [] ls ps d h k j = absurd (omega (arith, h))
from_at i (t ∷ ts) [] ps d h k j = absurd (omega (arith, k))
from_at i (t ∷ ts) (l ∷ ls) [] d h k j = absurd (omega (arith, j))
from_at zero (t ∷ ts) (l ∷ ls) (p ∷ ps) d h k j = refl
from_at (suc i) (t ∷ ts) (l ∷ ls) (p ∷ ps) d h k j = from_at i ts ls ps d (omega (arith, h)) (omega (arith, k)) (omega (arith, j))

send_at : (i : ℕ) (ts : List ℕ) (ls ps : List Float) (rest : List AuxSend) (d : AuxSend) → i < length ts → length ls ≡ length ts → length ps ≡ length ts
    → get_or (sends_from ts ls ps ++ rest) i d ≡ send_from (get_or ts i 0) (get_or ls i range.zero) (get_or ps i range.zero)
send_at i ts ls ps rest d h k j =
    get_or-append (sends_from ts ls ps) rest d i (omega (arith, from-length ts ls ps k j)) ∙ from_at i ts ls ps d h k j

arrays-back : (ts : List ℕ) (ls ps : List Float) → length ls ≡ length ts → length ps ≡ length ts → every (λ t. leb t 2) ts ≡ true
    → (map send_tag (sends_from ts ls ps) ≡ ts)
    × (map send_level (sends_from ts ls ps) ≡ zip_with kept_level ts ls) × (map send_pan (sends_from ts ls ps) ≡ zip_with kept_pan ts ps)
unfolding zip_with
arrays-back [] ls ps k j e = (refl, refl, refl)
arrays-back (t ∷ ts) [] ps k j e = absurd (omega (arith, k))
arrays-back (t ∷ ts) (l ∷ ls) [] k j e = absurd (omega (arith, j))
arrays-back (t ∷ ts) (l ∷ ls) (p ∷ ps) k j e =
    let b = both (leb t 2) (every (λ t. leb t 2) ts) e in
    let x = send-back l p t (leb-true t 2 b.0) in
    let r = arrays-back ts ls ps (omega (arith, k)) (omega (arith, j)) b.1 in
    (rw (x.0, r.0), rw (x.1, r.1), rw (x.2, r.2))

muted-fit : (n : ℕ) → every FloatsFit (replicate n Muted) ≡ true
muted-fit zero = refl
muted-fit (suc n) = muted-fit n

sends-fit : (ts : List ℕ) (ls ps : List Float) (n : ℕ) → every (fits binary32) ls ≡ true → every (fits binary32) ps ≡ true
    → every FloatsFit (sends_from ts ls ps ++ replicate n Muted) ≡ true
sends-fit [] ls ps n f g = muted-fit n
sends-fit (t ∷ ts) [] ps n f g = muted-fit n
sends-fit (t ∷ ts) (l ∷ ls) [] n f g = muted-fit n
sends-fit (t ∷ ts) (l ∷ ls) (p ∷ ps) n f g =
    let x = both (fits binary32 l) (every (fits binary32) ls) f in
    let y = both (fits binary32 p) (every (fits binary32) ps) g in
    rw (send-fits l p t x.0 y.0) (sends-fit ts ls ps n x.1 y.1)

module _ (session : ℕ) (ts : List ℕ) (ls ps : List Float) where
  -- arrays in range are a mix in range
  module _ (r : ArraysInRange ts ls ps) where
    sends-long : length (sends_from ts ls ps) ≡ length ts
    sends-long = from-length ts ls ps r.same_levels r.same_pans

    tags-known : every (λ t. leb t 2) ts ≡ true
    tags-known = index-every (λ t. leb t 2) ts 0 (λ i h. le-leb (get_or ts i 0) 2 (r.known i h))

    mix_in : InRange (mix_from session ts ls ps)
    unfolding mix_from
    mix_in = record {
      count = r.few;
      sends = λ i h.
          rw (send_at i ts ls ps (replicate (16 - length ts) Muted) Muted h r.same_levels r.same_pans)
          (parts_in (get_or ls i range.zero) (get_or ps i range.zero) (get_or ts i 0) (r.known i h) (r.level i h) (r.pan i h));
    }

    mix-fits : SendsFit session ls ps → MixFits (mix_from session ts ls ps)
    unfolding mix_from
    mix-fits f = record {
      session = f.session_fits;
      count = omega (arith, r.few);
      sends = length-append (sends_from ts ls ps) (replicate (16 - length ts) Muted)
          ∙ omega (arith, sends-long, length-replicate (16 - length ts) Muted, r.few);
      floats = sends-fit ts ls ps (16 - length ts) f.levels_fit f.pans_fit;
    }

    arrays-given : (a : SendArrays) → spread_over (cut (mix_from session ts ls ps)) a ≡ (given session ts ls ps a).arrays
    unfolding mix_from spread_over
    arrays-given a =
        let rest = replicate (16 - length ts) Muted in
        let at = take_at (sends_from ts ls ps) rest (length ts) sends-long in
        let b = arrays-back ts ls ps r.same_levels r.same_pans tags-known in
        rw (at, at, b.0, b.1, b.2)

  module _ (buf : List ℕ) (long : 153 ≤ length buf) where
    encode-gives : ArraysInRange ts ls ps → encode_sends session ts ls ps buf ≡ holding buf (mix_bytes (mix_from session ts ls ps))
    encode-gives r =
        is-encode session ts ls ps buf long r.same_levels r.same_pans r.few (tags-known r)
        ∙ encode-exact.gives (mix_from session ts ls ps) buf long (mix_in r)

    encode_in : (encode_sends session ts ls ps buf).status ≡ 0 → ArraysInRange ts ls ps
    unfolding encode_sends encode_sends_tests buffer_answer mix_from
    encode_in e =
        let m = mix_from session ts ls ps in
        let p = all-passed (encode_sends_tests m ts ls ps buf) refl e in
        let k = eqb-true (length ls) (length ts) (not-false (eqb (length ls) (length ts)) p.1.0) in
        let j = eqb-true (length ps) (length ts) (not-false (eqb (length ps) (length ts)) p.1.1.0) in
        let few = leb-true (length ts) 16 (not-false (leb (length ts) 16) p.1.1.1.0) in
        let tags = not-false (every (λ t. leb t 2) ts) p.1.1.1.1.0 in
        let known : (i : ℕ) → i < length ts → get_or ts i 0 ≤ 2 = λ i h. leb-true (get_or ts i 0) 2 (every-index (λ t. leb t 2) ts 0 tags i h) in
        let r = mix-range-to m (not-false (mix_in_range m) p.1.1.1.1.1.0) in
        let sends : (i : ℕ) → i < length ts → SendInRange (send_from (get_or ts i 0) (get_or ls i range.zero) (get_or ps i range.zero))
        = λ i h. rw (send_at i ts ls ps (replicate (16 - length ts) Muted) Muted h k j) at (r.sends i h) in
        record {
          same_levels = k;
          same_pans = j;
          few = few;
          known = known;
          level = λ i h. level_in (get_or ls i range.zero) (get_or ps i range.zero) (get_or ts i 0) (known i h) (sends i h);
          pan = λ i h. pan_in (get_or ls i range.zero) (get_or ps i range.zero) (get_or ts i 0) (sends i h);
        }

    decode-back : SendsFit session ls ps → ArraysInRange ts ls ps → (a : SendArrays) → ArraysSized a
        → decode_sends (mix_bytes (mix_from session ts ls ps)) a ≡ given session ts ls ps a
    unfolding mix_from
    decode-back f r a s =
        let m = mix_from session ts ls ps in
        let b = mix_bytes m in
        let read = sym (decode-exact.gives m (mix-fits r f) (mix_in r)) in
        is-spread b a s.tags s.levels s.pans _ read refl
        ∙ ap {B = DecodedSends} (λ (x : SendArrays). record { status = 0; session = session; count = length ts; arrays = x }) (arrays-given r a)

-- ---- refusals

module _ (session : ℕ) (ts : List ℕ) (ls ps : List Float) (buf : List ℕ) where
  by_length : {P : Type 0} → (length buf < 153 → P) → (153 ≤ length buf → P) → P
  by_length f g = split (leb 153 (length buf)) (λ e. g (leb-true 153 (length buf) e)) (λ e. f (leb-false 153 (length buf) e))

  levels-refused : length ls ≢ length ts → encode_sends session ts ls ps buf ≡ refusing 1 buf
  levels-refused h = by_length (encode-short session ts ls ps buf) (λ l. other_levels session ts ls ps buf l h)

  pans-refused : length ps ≢ length ts → encode_sends session ts ls ps buf ≡ refusing 1 buf
  pans-refused h = by_length (encode-short session ts ls ps buf) (λ l. split (eqb (length ls) (length ts))
      (λ e. other_pans session ts ls ps buf l (eqb-true (length ls) (length ts) e) h)
      (λ e. other_levels session ts ls ps buf l (eqb-false (length ls) (length ts) e)))

  range-refused : 153 ≤ length buf → length ls ≡ length ts → length ps ≡ length ts → (¬ ArraysInRange ts ls ps)
      → encode_sends session ts ls ps buf ≡ refusing 20 buf
  range-refused l k j n = split (leb (length ts) 16)
      (λ few. split (every (λ t. leb t 2) ts)
      (λ known.
      let is = is-encode session ts ls ps buf l k j (leb-true (length ts) 16 few) known in
      split (mix_in_range (mix_from session ts ls ps))
      (λ r. absurd (n (encode_in session ts ls ps buf l
      (ap (λ (a : Answer). a.status) (is ∙ encode-exact.gives (mix_from session ts ls ps) buf l (mix-range-to (mix_from session ts ls ps) r))))))
      (λ r. is ∙ encode-exact.out_of_range (mix_from session ts ls ps) buf l
      (λ x. clash (mix_in_range (mix_from session ts ls ps)) (mix-range-of (mix_from session ts ls ps) x) r)))
      (λ known. bad-tag session ts ls ps buf l k j (leb-true (length ts) 16 few) known))
      (λ many. too_many session ts ls ps buf l k j (leb-false (length ts) 16 many))

unsized-refused : (b : List ℕ) (a : SendArrays) → (¬ ArraysSized a) → decode_sends b a ≡ not_decoded 1 a
unsized-refused b a n = split (leb 16 (length a.tags))
    (λ t. split (leb 16 (length a.levels))
    (λ l. split (leb 16 (length a.pans))
    (λ p. absurd (n (record {
      tags = leb-true 16 (length a.tags) t;
      levels = leb-true 16 (length a.levels) l;
      pans = leb-true 16 (length a.pans) p;
    })))
    (λ p. short-pans b a (leb-true 16 (length a.tags) t) (leb-true 16 (length a.levels) l) (leb-false 16 (length a.pans) p)))
    (λ l. short-levels b a (leb-true 16 (length a.tags) t) (leb-false 16 (length a.levels) l)))
    (λ t. short-tags b a (leb-false 16 (length a.tags) t))

bytes-refused : (b : List ℕ) (a : SendArrays) → ArraysSized a → (decode_mix b).status ≢ 0 → decode_sends b a ≡ not_decoded 20 a
bytes-refused b a s h =
    is_no_mix b a s.tags s.levels s.pans (decode_mix b) refl h
    ∙ ap (λ (n : ℕ). not_decoded n a) (ap (λ (r : MixAnswer). r.status) (decode-exact.refusal b h))

pub sends-exact : SendsExact
unfolding send_from mix_from
sends-exact = record {
  muted = λ l p. refl;
  level = λ l p. refl;
  level_pan = λ l p. refl;
  header = λ session ts ls ps. (refl, refl);
  sends = λ session ts ls ps i d h k l. send_at i ts ls ps (replicate (16 - length ts) Muted) d l h k;
  short = encode-short;
  other_levels = levels-refused;
  other_pans = pans-refused;
  out_of_range = range-refused;
  unsized = unsized-refused;
  is_no_mix = bytes-refused;
  condition = λ session ts ls ps buf h. (
    encode_in session ts ls ps buf h,
    λ r. ap (λ (e : Answer). e.status) (encode-gives session ts ls ps buf h r),
  );
  gives = encode-gives;
  back = λ session ts ls ps a f r s. decode-back session ts ls ps (replicate 153 0) (omega arith) f r a s;
}
