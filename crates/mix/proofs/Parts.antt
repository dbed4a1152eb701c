-- The nine bytes that the code takes out of a mix, and those that the definition reads. Assumes nothing.
use mathlib.Core.Path.{◌≡◌, sym, ap, ◌∙◌}
use mathlib.Core.Bool.{true}
use mathlib.Core.List.{List, [], ◌∷◌, ◌++◌, map, map-append, append_assoc}
use Prim.Native.Nat.{ℕ, zero, suc, ◌+◌, ◌-◌, ◌*◌, ◌≤◌, ◌<◌}
use native.Mathlib.Nat.{mul-suc, mul-zero, mul_comm}
use native.Mathlib.Numerals.{add-one}
use native.Mathlib.Omega.{arith}
use lib.Dec.{eqb, leb}
use lib.ListN.{length, get_or, take, drop, set, replicate, length-drop, length-map}
use lib.Seq.{drop-drop, length-take-le, set_at}
use borrow.Author.Tests.{leb-true, eqb-true}
use Rattle.buffers.specs.Bytes.{every}
use Rattle.buffers.proofs.Split.{both}
use Rattle.spec.specs.Slots.{chunks}
use Rattle.spec.proofs.Chunks.{length-chunks, chunk-at}
use Rattle.mix.specs.Send.{send_valid, send_of}
use Rattle.mix.specs.Mix.{count_at, sends_at, mix_valid, read_sends}
use Rattle.mix.specs.declared.monitor.AuxSend.{AuxSend}
use Rattle.mix.specs.declared.monitor.AuxSend.TheVariants.{Muted}

-- as the code has them: from `at` up to `at + 9`
abbrev pub taken : List ℕ → ℕ → List ℕ
taken b i = take (9 + 9 * i + 9 - (9 + 9 * i)) (drop (9 + 9 * i) b)

module _ (b : List ℕ) (n i : ℕ) where
  width : 9 + 9 * i + 9 - (9 + 9 * i) ≡ 9
  width = omega arith

  pub part-size : length b ≡ 9 + 9 * n → i < n → length (taken b i) ≡ 9
  part-size s h =
      ap (λ (w : ℕ). length (take w (drop (9 + 9 * i) b))) width
      ∙ length-take-le 9 (drop (9 + 9 * i) b) (omega (arith, s, h, length-drop (9 + 9 * i) b))

  pub part-is : i < n → taken b i ≡ get_or (sends_at n b) i []
  part-is h =
      ap (λ (w : ℕ). take w (drop (9 + 9 * i) b)) width
      ∙ sym (chunk-at 9 n i (drop 9 b) h ∙ ap (λ (k : ℕ). take 9 (drop k (drop 9 b))) (mul_comm i 9) ∙ ap (take 9) (drop-drop (9 * i) 9 b))

-- one send more
chunks-next : (w k : ℕ) (l : List ℕ) → chunks w (suc k) l ≡ chunks w k l ++ (take w (drop (w * k) l) ∷ [])
chunks-next w zero l = ap (λ (n : ℕ). take w (drop n l) ∷ []) (sym (mul-zero w))
chunks-next w (suc k) l =
    let e : w + w * k ≡ w * suc k = omega (arith, mul-suc w k) in
    ap (λ (m : List (List ℕ)). take w l ∷ m) (chunks-next w k (drop w l)
    ∙ ap (λ (x : List ℕ). chunks w k (drop w l) ++ (take w x ∷ [])) (drop-drop (w * k) w l ∙ ap (λ (n : ℕ). drop n l) e))

pub read_next : (b : List ℕ) (i : ℕ) → i < 16 → set (read_sends i b) i (send_of (taken b i)) ≡ read_sends (i + 1) b
unfolding read_sends
read_next b i h =
    let p = map send_of (sends_at i b) in
    let rest = replicate (16 - suc i) Muted in
    let x = take 9 (drop (9 * i) (drop 9 b)) in
    let left : 16 - i ≡ suc (16 - suc i) = omega (arith, h) in
    let size = length-map (sends_at i b) send_of ∙ length-chunks 9 i (drop 9 b) in
    let part : taken b i ≡ x = ap (λ (w : ℕ). take w (drop (9 + 9 * i) b)) (width b i i) ∙ ap (take 9) (sym (drop-drop (9 * i) 9 b)) in
    ap (λ (n : ℕ). set (p ++ replicate n Muted) i (send_of (taken b i))) left
    ∙ set_at p Muted rest (send_of (taken b i)) i size
    ∙ ap (λ (y : List ℕ). p ++ (send_of y ∷ rest)) part
    ∙ sym (append_assoc p (send_of x ∷ []) rest)
    ∙ ap (λ (l : List AuxSend). l ++ rest) (sym (ap (map send_of) (chunks-next 9 i (drop 9 b)) ∙ map-append send_of (sends_at i b) (x ∷ [])))
    ∙ ap (λ (n : ℕ). map send_of (sends_at n b) ++ replicate (16 - n) Muted) (sym (add-one i))

-- what a valid mix's bytes are
pub record ValidParts (b : List ℕ) : Type 0 where
  pub header : 9 ≤ length b
  pub small : count_at b ≤ 16
  pub whole : length b ≡ 9 + 9 * count_at b
  pub sends : every send_valid (sends_at (count_at b) b) ≡ true

pub valid-parts : (b : List ℕ) → mix_valid b ≡ true → ValidParts b
unfolding mix_valid
valid-parts b v =
    let h = both (leb 9 (length b)) _ v in
    let s = both (leb (count_at b) 16) _ h.1 in
    let w = both (eqb (length b) (9 + 9 * count_at b)) _ s.1 in
    record {
      header = leb-true 9 (length b) h.0;
      small = leb-true (count_at b) 16 s.0;
      whole = eqb-true (length b) (9 + 9 * count_at b) w.0;
      sends = w.1;
    }
