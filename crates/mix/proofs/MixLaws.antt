-- A mix and its bytes determine each other; what the calls on them answer. Assumes nothing.
use mathlib.Core.Path.{◌≡◌, refl, sym, ap, ◌∙◌}
use mathlib.Core.Bool.{Bool, true, false, ◌&&◌}
use mathlib.Core.List.{List, [], ◌∷◌, ◌++◌, map, flatten}
use Prim.Native.Nat.{ℕ, zero, suc, ◌+◌, ◌-◌, ◌*◌, ◌≤◌, ◌<◌}
use native.Mathlib.Nat.{mul_comm}
use native.Mathlib.Omega.{arith}
use borrow.Author.Tests.{ltb-true, ltb-false, leb-true, le-leb, lt-leb, eqb-true, eq-eqb}
use lib.Dec.{eqb, leb, ltb}
use lib.ListN.{length, get_or, take, drop, replicate, length-append, length-take, length-drop, length-map, length-replicate, get_or-eq_default}
use lib.Seq.{take_at, drop-cons, length-take-le, get_or-take, drop-drop}
use Rattle.buffers.specs.Bytes.{every, le_bytes}
use Rattle.buffers.proofs.Bytes.{le-value}
use Rattle.buffers.proofs.LittleEndian.{number-part, number_small}
use Rattle.buffers.proofs.Split.{split, both}
use Rattle.spec.specs.Slots.{chunks, join_slots}
use Rattle.spec.specs.Status.{refuse_if, on_ok, buffer_answer}
use Rattle.spec.specs.Shapes.{AreBytes}
use Rattle.spec.proofs.Chunks.{wide, length-chunks, length-join, chunks-join, chunk-at, join-chunks}
use Rattle.spec.proofs.First.{every-index, index-every}
use Rattle.spec.proofs.Shapes.{bytes_drop, bytes-part}
use Rattle.mix.specs.Send.{send_in_range, send_bytes, send_valid, send_of}
use Rattle.mix.specs.Mix.{MixAnswer, counted, mix_in_range, mix_bytes, session_at, count_at, sends_at, mix_valid, read_sends, mix_of}
use Rattle.mix.specs.Mix.{zero_mix, decode_mix, encode_tests, encode_mix}
use Rattle.mix.specs.Laws.{FloatsFit, MixFits, InRange, SendFormed, WellFormed, KeptMix, cut, DecodeExact, EncodeExact, holding, refusing}
use Rattle.mix.specs.declared.monitor.AuxSend.{AuxSend}
use Rattle.mix.specs.declared.monitor.AuxSend.TheVariants.{Muted}
use Rattle.mix.specs.declared.monitor.MonitorMix.{MonitorMix}
use Rattle.mix.proofs.SendLaws.{send-back, send-valid-bytes, send-long, range-to, range-of}
use Rattle.mix.proofs.SendLaws.{floats-fit, valid-formed, formed-valid, read_in_range, bytes_back}

-- ---- in range, as a test and as a statement

module _ (m : MonitorMix) where
  pub mix-range-to : mix_in_range m ≡ true → InRange m
  unfolding mix_in_range
  mix-range-to e =
      let k = both (leb m.count 16) (every send_in_range (counted m)) e in
      record {
        count = leb-true m.count 16 k.0;
        sends = λ i h. split (ltb i (length m.sends))
            (λ t.
            let l = ltb-true i (length m.sends) t in
            let at : get_or (counted m) i Muted ≡ get_or m.sends i Muted = get_or-take m.count m.sends i Muted h in
            range-to (get_or m.sends i Muted)
            (rw at at (every-index send_in_range (counted m) Muted k.1 i (simp length-take (omega arith)))))
            (λ t. rw (get_or-eq_default m.sends Muted {n = i} (ltb-false i (length m.sends) t)) tt);
      }

  pub mix-range-of : InRange m → mix_in_range m ≡ true
  unfolding mix_in_range
  mix-range-of h =
      rw (le-leb m.count 16 h.count)
      (index-every send_in_range (counted m) Muted
      (λ i l.
      let j : i < m.count = omega (arith, length-take m.count m.sends) in
      rw (get_or-take m.count m.sends i Muted j) (range-of (get_or m.sends i Muted) (h.sends i j))))

-- ---- from a mix to bytes and back

flat-joined : (ss : List (List ℕ)) → flatten ss ≡ join_slots ss
unfolding flatten
flat-joined [] = refl
flat-joined (s ∷ ss) = ap (λ (l : List ℕ). s ++ l) (flat-joined ss)

wide-sends : (l : List AuxSend) → every (wide 9) (map send_bytes l) ≡ true
wide-sends [] = refl
wide-sends (s ∷ l) = rw (send-long s) (wide-sends l)

valid-sends : (l : List AuxSend) → every FloatsFit l ≡ true → every send_in_range l ≡ true → every send_valid (map send_bytes l) ≡ true
valid-sends [] f r = refl
valid-sends (s ∷ l) f r =
    let a = both (FloatsFit s) (every FloatsFit l) f in
    let b = both (send_in_range s) (every send_in_range l) r in
    rw (send-valid-bytes s a.0 b.0) (valid-sends l a.1 b.1)

sends-back : (l : List AuxSend) → every FloatsFit l ≡ true → map send_of (map send_bytes l) ≡ l
sends-back [] f = refl
sends-back (s ∷ l) f =
    let a = both (FloatsFit s) (every FloatsFit l) f in
    λ i. send-back s a.0 i ∷ sends-back l a.1 i

every_take : {A : Type 0} (t : A → Bool) (n : ℕ) (l : List A) → every t l ≡ true → every t (take n l) ≡ true
every_take t zero l e = refl
every_take t (suc n) [] e = refl
every_take t (suc n) (x ∷ l) e = let a = both (t x) (every t l) e in rw a.0 (every_take t n l a.1)

counted-long : (m : MonitorMix) → length m.sends ≡ 16 → m.count ≤ 16 → length (counted m) ≡ m.count
counted-long m n h = length-take-le m.count m.sends (omega arith)

pub sends-size : (l : List AuxSend) → length (flatten (map send_bytes l)) ≡ 9 * length l
sends-size l =
    ap length (flat-joined (map send_bytes l))
    ∙ length-join 9 (map send_bytes l) (wide-sends l)
    ∙ ap (λ (n : ℕ). n * 9) (length-map l send_bytes)
    ∙ mul_comm (length l) 9

sends-cut : (l : List AuxSend) (n : ℕ) → length l ≡ n → chunks 9 n (flatten (map send_bytes l)) ≡ map send_bytes l
sends-cut l n e =
    (λ i. chunks 9 (sym e i) (flat-joined (map send_bytes l) i))
    ∙ ap (λ (k : ℕ). chunks 9 k (join_slots (map send_bytes l))) (sym (length-map l send_bytes))
    ∙ chunks-join 9 (map send_bytes l) (wide-sends l)

pub bytes-size : (m : MonitorMix) → length m.sends ≡ 16 → m.count ≤ 16 → length (mix_bytes m) ≡ 9 + 9 * m.count
unfolding mix_bytes
bytes-size m n h = omega (arith, sends-size (counted m), counted-long m n h)

module _ (m : MonitorMix) (f : MixFits m) (r : InRange m) where
  fit : every FloatsFit (counted m) ≡ true
  fit = every_take FloatsFit m.count m.sends f.floats

  long : length (counted m) ≡ m.count
  long = counted-long m f.sends r.count

  written-sends : sends_at m.count (mix_bytes m) ≡ map send_bytes (counted m)
  unfolding mix_bytes
  written-sends = sends-cut (counted m) m.count long

  written_count : count_at (mix_bytes m) ≡ m.count
  unfolding mix_bytes
  written_count = refl

  written-session : session_at (mix_bytes m) ≡ m.session_id
  unfolding mix_bytes
  written-session = le-value 8 m.session_id f.session

  pub written-valid : mix_valid (mix_bytes m) ≡ true
  unfolding mix_valid
  written-valid =
      let n = bytes-size m f.sends r.count in
      let in_range = both (leb m.count 16) (every send_in_range (counted m)) (unfold mix_in_range in mix-range-of m r) in
      rw (
        written_count,
        le-leb 9 (length (mix_bytes m)) (omega arith),
        le-leb m.count 16 r.count,
        eq-eqb (length (mix_bytes m)) (9 + 9 * m.count) n,
        written-sends,
      )
      (valid-sends (counted m) fit in_range.1)

  pub written_read : mix_of (mix_bytes m) ≡ cut m
  unfolding mix_of read_sends
  written_read =
      let sends : (c : ℕ) → c ≡ m.count → read_sends c (mix_bytes m) ≡ counted m ++ replicate (16 - m.count) Muted
      = λ c e. rw (e, written-sends, sends-back (counted m) fit) in
      λ i. record { session_id = written-session i; count = written_count i; sends = sends (count_at (mix_bytes m)) written_count i }

-- ---- from bytes to a mix and back

-- what is asked of each of the parts: nine bytes of a send
abbrev Formed : List (List ℕ) → Type 0
Formed [] = Unit {0}
Formed (s ∷ ss) = (length s ≡ 9) × AreBytes s × SendFormed s × Formed ss

parts-read : (ss : List (List ℕ)) → Formed ss → map send_bytes (map send_of ss) ≡ ss
parts-read [] h = refl
parts-read (s ∷ ss) h = λ i. bytes_back s h.0 h.1 h.2 i ∷ parts-read ss h.3 i

parts-valid : (ss : List (List ℕ)) → Formed ss → every send_valid ss ≡ true
parts-valid [] h = refl
parts-valid (s ∷ ss) h = rw (formed-valid s h.0 h.1 h.2) (parts-valid ss h.3)

parts_in-range : (ss : List (List ℕ)) → Formed ss → every send_in_range (map send_of ss) ≡ true
parts_in-range [] h = refl
parts_in-range (s ∷ ss) h = rw (read_in_range s h.0 h.1 h.2) (parts_in-range ss h.3)

parts-fit : (ss : List (List ℕ)) (k : ℕ) → every FloatsFit (map send_of ss ++ replicate k Muted) ≡ true
parts-fit [] zero = refl
parts-fit [] (suc k) = parts-fit [] k
parts-fit (s ∷ ss) k = rw (floats-fit s) (parts-fit ss k)

parts-formed : (n : ℕ) (l : List ℕ) → AreBytes l → length l ≡ 9 * n
    → ((i : ℕ) → i < n → SendFormed (take 9 (drop (9 * i) l))) → Formed (chunks 9 n l)
parts-formed zero l a h f = tt
parts-formed (suc n) l a h f = (
  length-take-le 9 l (omega arith),
  bytes-part l a 0 9,
  f 0 (omega arith),
  parts-formed n (drop 9 l) (bytes_drop l a 9) (length-drop 9 l ∙ omega arith)
      (λ i k.
      let e : 9 + 9 * i ≡ 9 * suc i = omega arith in
      rw (drop-drop (9 * i) 9 l, e) (f (suc i) (omega arith))),
)

abbrev parts_of : List ℕ → List (List ℕ)
parts_of b = sends_at (count_at b) b

module _ (b : List ℕ) (a : AreBytes b) where
  pub valid-well : mix_valid b ≡ true → WellFormed b
  unfolding mix_valid
  valid-well e =
      let n = count_at b in
      let parts = parts_of b in
      let k = both (leb 9 (length b)) (leb n 16 && (eqb (length b) (9 + 9 * n) && every send_valid parts)) e in
      let c = both (leb n 16) (eqb (length b) (9 + 9 * n) && every send_valid parts) k.1 in
      let d = both (eqb (length b) (9 + 9 * n)) (every send_valid parts) c.1 in
      let size = eqb-true (length b) (9 + 9 * n) d.0 in
      record {
        header = leb-true 9 (length b) k.0;
        count_small = leb-true n 16 c.0;
        whole = size;
        sends = λ i h.
            let part : get_or parts i [] ≡ take 9 (drop (9 + 9 * i) b)
            = chunk-at 9 n i (drop 9 b) h ∙ ap (take 9) (drop-drop (i * 9) 9 b ∙ ap (λ (j : ℕ). drop (9 + j) b) (mul_comm i 9)) in
            valid-formed (take 9 (drop (9 + 9 * i) b)) (length-take-le 9 (drop (9 + 9 * i) b) (simp length-drop (omega arith))) (bytes-part b a (9 + 9 * i) 9)
            (rw part at (every-index send_valid parts [] d.1 i (rw (length-chunks 9 n (drop 9 b)) h)));
      }

  module _ (w : WellFormed b) where
    parts : Formed (parts_of b)
    parts =
        let size = w.whole in
        parts-formed (count_at b) (drop 9 b) (bytes_drop b a 9) (length-drop 9 b ∙ omega arith)
        (λ i h. rw (drop-drop (9 * i) 9 b) (w.sends i h))

    pub well-valid : mix_valid b ≡ true
    unfolding mix_valid
    well-valid =
        rw (
          le-leb 9 (length b) w.header,
          le-leb (count_at b) 16 w.count_small,
          eq-eqb (length b) (9 + 9 * count_at b) w.whole,
        )
        (parts-valid (parts_of b) parts)

    read-long : length (map send_of (parts_of b)) ≡ count_at b
    read-long = length-map (parts_of b) send_of ∙ length-chunks 9 (count_at b) (drop 9 b)

    read-counted : counted (mix_of b) ≡ map send_of (parts_of b)
    unfolding mix_of read_sends
    read-counted = take_at (map send_of (parts_of b)) (replicate (16 - count_at b) Muted) (count_at b) read-long

    pub read_in : InRange (mix_of b)
    read_in =
        mix-range-to (mix_of b)
        (unfold mix_in_range mix_of in rw (le-leb (count_at b) 16 w.count_small, read-counted) (parts_in-range (parts_of b) parts))

    pub read_fits : MixFits (mix_of b)
    unfolding mix_of read_sends
    read_fits = record {
      session = number_small 8 0 b a;
      count = a 8;
      sends =
          length-append (map send_of (parts_of b)) (replicate (16 - count_at b) Muted)
          ∙ omega (arith, read-long, length-replicate (16 - count_at b) Muted, w.count_small);
      floats = parts-fit (parts_of b) (16 - count_at b);
    }

    sends-joined : flatten (parts_of b) ≡ drop 9 b
    sends-joined =
        let size = w.whole in
        flat-joined (parts_of b) ∙ join-chunks 9 (count_at b) (drop 9 b) (length-drop 9 b ∙ omega arith)

    header : b ≡ le_bytes 8 (session_at b) ++ (count_at b ∷ drop 9 b)
    header =
        let size = w.header in
        number-part 8 0 b a (omega arith) ∙ ap (λ (l : List ℕ). le_bytes 8 (session_at b) ++ l) (drop-cons b 8 0 (omega arith))

    pub written_back : mix_bytes (mix_of b) ≡ b
    unfolding mix_bytes mix_of
    written_back =
        ap (λ (l : List AuxSend). le_bytes 8 (session_at b) ++ (count_at b ∷ flatten (map send_bytes l))) read-counted
        ∙ ap (λ (l : List (List ℕ)). le_bytes 8 (session_at b) ++ (count_at b ∷ flatten l)) (parts-read (parts_of b) parts)
        ∙ ap (λ (l : List ℕ). le_bytes 8 (session_at b) ++ (count_at b ∷ l)) sends-joined
        ∙ sym header

-- ---- what decoding answers

module _ (b : List ℕ) where
  pub decode-done : mix_valid b ≡ true → decode_mix b ≡ record { status = 0; mix = mix_of b }
  unfolding decode_mix
  decode-done e = rw e

  pub decode-refused : mix_valid b ≡ false → decode_mix b ≡ record { status = 20; mix = zero_mix }
  unfolding decode_mix
  decode-refused e = rw e

  pub decode-valid : (decode_mix b).status ≡ 0 → mix_valid b ≡ true
  decode-valid e = split (mix_valid b)
      (λ t. t)
      (λ t. let z : ◌≡◌ {A = ℕ} 20 0 = sym (ap (λ (x : MixAnswer). x.status) (decode-refused t)) ∙ e in absurd (omega arith))

  pub valid-decode : mix_valid b ≡ true → (decode_mix b).status ≡ 0
  valid-decode e = ap (λ (x : MixAnswer). x.status) (decode-done e)

decoded_kept : (b : List ℕ) → AreBytes b → (decode_mix b).status ≡ 0 → KeptMix b
decoded_kept b a e =
    let w = valid-well b a (decode-valid b e) in
    record { mix = mix_of b; has_widths = read_fits b a w; in_range = read_in b a w; bytes = sym (written_back b a w) }

pub decode-exact : DecodeExact
decode-exact = record {
  valid = λ b. (valid-decode b, decode-valid b);
  condition = λ b a. (
    decoded_kept b a,
    λ k. rw k.bytes (valid-decode (mix_bytes k.mix) (written-valid k.mix k.has_widths k.in_range)),
  );
  rules = λ b a. (λ e. valid-well b a (decode-valid b e), λ w. valid-decode b (well-valid b a w));
  gives = λ m f r. decode-done (mix_bytes m) (written-valid m f r) ∙ ap (λ (x : MonitorMix). record { status = 0; mix = x }) (written_read m f r);
  back = λ b a e.
      let v = decode-valid b e in
      ap (λ (x : MixAnswer). mix_bytes x.mix) (decode-done b v) ∙ written_back b a (valid-well b a v);
  refusal = λ b h. split (mix_valid b) (λ t. absurd (h (valid-decode b t))) (decode-refused b);
}

-- ---- what encoding answers

module _ (m : MonitorMix) (buf : List ℕ) where
  encode-short : length buf < 153 → encode_mix m buf ≡ refusing 1 buf
  unfolding encode_mix encode_tests buffer_answer refuse_if on_ok
  encode-short h = rw (lt-leb 153 (length buf) h)

  encode-out : 153 ≤ length buf → mix_in_range m ≡ false → encode_mix m buf ≡ refusing 20 buf
  unfolding encode_mix encode_tests buffer_answer refuse_if on_ok
  encode-out h e = rw (le-leb 153 (length buf) h, e)

  encode-done : 153 ≤ length buf → mix_in_range m ≡ true → encode_mix m buf ≡ holding buf (mix_bytes m)
  unfolding encode_mix encode_tests buffer_answer refuse_if on_ok
  encode-done h e = rw (le-leb 153 (length buf) h, e)

pub encode-exact : EncodeExact
encode-exact = record {
  in_range = λ m. (mix-range-to m, mix-range-of m);
  send_is_in_range = λ x. (range-to x, range-of x);
  short = encode-short;
  out_of_range = λ m buf h n. encode-out m buf h (split (mix_in_range m) (λ t. absurd (n (mix-range-to m t))) (λ t. t));
  gives = λ m buf h r. encode-done m buf h (mix-range-of m r);
  fits_in = λ m n r. let size = bytes-size m n r.count in let small = r.count in (size, omega arith);
}
