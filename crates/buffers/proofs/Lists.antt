-- Parts of byte strings, and byte strings put into a buffer one after the other. Assumes nothing.
use mathlib.Core.Path.{◌≡◌, sym, ap, ◌∙◌}
use mathlib.Core.List.{List, ◌++◌, append_assoc}
use Prim.Native.Nat.{ℕ, ◌+◌, ◌-◌}
use native.Mathlib.Omega.{arith}
use lib.ListN.{length, take, drop, length-drop}
use lib.Seq.{take_all, take_at, drop-append-add, drop-drop}
use borrow.Rule.Slice.PartMut.{put_mid}
use Rattle.buffers.specs.Bytes.{zeros, zero_fill, put_at}
use Rattle.buffers.proofs.Bytes.{drop-zeros}

-- `&l[o..o + n]`
pub part : (o n : ℕ) (l : List ℕ) → take (o + n - o) (drop o l) ≡ take n (drop o l)
part o n l = let e : o + n - o ≡ n = omega arith in rw e

-- a part that goes on to the end
pub rest_part : (l : List ℕ) (a : ℕ) → take (length l - a) (drop a l) ≡ drop a l
rest_part l a = take_all (length l - a) (drop a l) (rw length-drop (omega arith))

-- a part of n bytes, where it comes back
pub part-back : (d last s : List ℕ) (at n : ℕ) → last ≡ s → length s ≡ n → put_mid at (at + n - at) d last ≡ put_at d at s
part-back d last s at n e h =
    let k : at + n - at ≡ length s = omega arith in
    rw (e, k, drop-drop (length s) at d)

-- the next byte string, behind those that are there
pub put_next : (d front s : List ℕ) (at : ℕ) → length front ≡ at → put_at (front ++ drop at d) at s ≡ (front ++ s) ++ drop (at + length s) d
put_next d front s at h =
    let e : drop (at + length s) (front ++ drop at d) ≡ drop (at + length s) d =
    ap (λ (k : ℕ). drop (k + length s) (front ++ drop at d)) (sym h) ∙ drop-append-add front (drop at d) (length s) ∙ drop-drop (length s) at d in
    rw (take_at front (drop at d) at h, e) (sym (append_assoc front s (drop (at + length s) d)))

-- the same where the buffer was written before
pub behind : (d front s was is : List ℕ) (at : ℕ) → was ≡ front ++ drop at d → is ≡ put_at was at s → length front ≡ at
    → is ≡ (front ++ s) ++ drop (at + length s) d
behind d front s was is at p q h = q ∙ ap (λ (l : List ℕ). put_at l at s) p ∙ put_next d front s at h

-- a part that begins at the front, as the code has it
pub front : (n : ℕ) (l : List ℕ) → take (n - 0) (drop 0 l) ≡ take n l
front n l = let e : n - 0 ≡ n = omega arith in rw e

-- a part put at the front of a buffer
pub in_front : (src s d out : List ℕ) → out ≡ put_at d 0 src → src ≡ s → out ≡ s ++ drop (length s) d
in_front src s d out e h = let z : 0 + length src ≡ length s = omega (arith, ap (λ (l : List ℕ). length l) h) in e ∙ rw (z, h)

-- what a buffer of zeros holds behind its front
pub fill : (n k : ℕ) (l : List ℕ) → length l ≡ k → l ++ drop k (zeros n) ≡ zero_fill n l
fill n k l h = rw (drop-zeros n k, h)
