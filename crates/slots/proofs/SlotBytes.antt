-- The bytes of a slot as they are written: cleared, then the header, the name and the payload over them.
use mathlib.Core.Path.{◌≡◌, refl, ap, ◌∙◌}
use mathlib.Core.List.{List, [], ◌∷◌, ◌++◌, append_assoc}
use Prim.Native.Nat.{ℕ, ◌+◌, ◌-◌, ◌≤◌}
use native.Mathlib.Omega.{arith}
use lib.ListN.{length, take, drop}
use lib.Seq.{take_at, drop_at, drop-drop, take-append-add, drop-append-add}
use Rattle.buffers.specs.Bytes.{zeros, zero_fill, le_bytes, put_at}
use Rattle.spec.specs.Area.{Format, kv_format, rbp_format, payload_size, make_slot}
use Rattle.buffers.proofs.Bytes.{take-zeros, drop-zeros}
use Rattle.spec.proofs.Slot.{FormatLaws}

pub header-kv : (n p s : List ℕ) → 4 ≤ length s
    → put_at (put_at s 0 (1 ∷ length n ∷ [])) 2 (le_bytes 2 (length p)) ≡ kv_format.header n p ++ drop 4 s
header-kv n p [] h = absurd (omega arith)
header-kv n p (a ∷ []) h = absurd (omega arith)
header-kv n p (a ∷ b ∷ []) h = absurd (omega arith)
header-kv n p (a ∷ b ∷ c ∷ []) h = absurd (omega arith)
header-kv n p (a ∷ b ∷ c ∷ d ∷ s) h = refl

pub header-rbp : (n p s : List ℕ) → 2 ≤ length s → put_at s 0 (1 ∷ length n ∷ []) ≡ rbp_format.header n p ++ drop 2 s
header-rbp n p [] h = absurd (omega arith)
header-rbp n p (a ∷ []) h = absurd (omega arith)
header-rbp n p (a ∷ b ∷ s) h = refl

module _ (F : Format) (L : FormatLaws F) (n p : List ℕ) (hn : length n ≤ 64) (hp : length p ≤ payload_size F) where
  -- the header over zeros, then the name
  headed : List ℕ
  headed = F.header n p ++ drop F.name_offset (zeros F.slot_size)

  named : List ℕ
  named = take F.name_offset headed ++ (n ++ drop (F.name_offset + length n) headed)

  -- what is left after the name
  rest : ℕ
  rest = F.slot_size - F.name_offset - length n

  is-named : named ≡ F.header n p ++ (n ++ zeros rest)
  unfolding named headed rest
  is-named =
      let o = L.offsets in
      let t = L.total in
      rw (
        drop-zeros F.slot_size F.name_offset,
        take_at (F.header n p) (zeros (F.slot_size - F.name_offset)) F.name_offset (L.header_length n p),
        ← (drop-drop (length n) F.name_offset (F.header n p ++ zeros (F.slot_size - F.name_offset))),
        drop_at (F.header n p) (zeros (F.slot_size - F.name_offset)) F.name_offset (L.header_length n p),
        drop-zeros (F.slot_size - F.name_offset) (length n),
      )

  front : take F.payload_offset (F.header n p ++ (n ++ zeros rest)) ≡ F.header n p ++ zero_fill 64 n
  unfolding rest
  front =
      let o = L.offsets in
      let t = L.total in
      let h = L.header_length n p in
      let a : F.payload_offset ≡ length (F.header n p) + 64 = omega arith in
      let b : 64 ≡ length n + (64 - length n) = omega arith in
      rw (a, take-append-add (F.header n p) (n ++ zeros rest) 64)
      (ap (λ (l : List ℕ). F.header n p ++ l)
      (ap (λ (k : ℕ). take k (n ++ zeros rest)) b ∙ take-append-add n (zeros rest) (64 - length n)
      ∙ ap (λ (l : List ℕ). n ++ l) (take-zeros (64 - length n) rest (omega arith))))

  back : drop (F.payload_offset + length p) (F.header n p ++ (n ++ zeros rest)) ≡ zeros (payload_size F - length p)
  unfolding rest
  back =
      let o = L.offsets in
      let t = L.total in
      let h = L.header_length n p in
      let a : F.payload_offset + length p ≡ length (F.header n p) + (length n + (64 + length p - length n)) = omega arith in
      let b : F.slot_size - F.name_offset - length n - (64 + length p - length n) ≡ payload_size F - length p = omega arith in
      rw (
        a,
        drop-append-add (F.header n p) (n ++ zeros rest) (length n + (64 + length p - length n)),
        drop-append-add n (zeros rest) (64 + length p - length n),
        drop-zeros rest (64 + length p - length n),
        b,
      )

  -- all of it
  pub written-slot : (z h m s : List ℕ) → z ≡ zeros F.slot_size → h ≡ F.header n p ++ drop F.name_offset z
      → m ≡ take F.name_offset h ++ (n ++ drop (F.name_offset + length n) h)
      → s ≡ take F.payload_offset m ++ (p ++ drop (F.payload_offset + length p) m) → s ≡ make_slot F n p
  unfolding make_slot named headed
  written-slot z h m s ez eh em es =
      let eh' : h ≡ headed = rw ez at eh in
      let em' : m ≡ F.header n p ++ (n ++ zeros rest) = rw eh' at em ∙ is-named in
      rw em' at es ∙ rw (front, back) (append_assoc (F.header n p) (zero_fill 64 n) (zero_fill (payload_size F) p))
