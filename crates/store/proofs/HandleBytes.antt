-- A handle's bytes, written one field behind the other. Assumes nothing.
use mathlib.Core.Path.{◌≡◌, refl, ap, ◌∙◌}
use mathlib.Core.List.{List, [], ◌++◌, append_assoc, append-nil}
use Prim.Native.Nat.{ℕ, ◌+◌}
use native.Mathlib.Omega.{arith}
use lib.ListN.{length, drop, length-append, drop_of_length-le}
use Rattle.buffers.specs.Bytes.{le_bytes, put_at}
use Rattle.buffers.proofs.Lists.{put_next}
use Rattle.spec.specs.Incremental.{handle_bytes}
use Rattle.spec.specs.declared.incremental.IncSetHandle.{IncSetHandle}

-- a field of k bytes, put behind those that stand in front
next : (d front s before after : List ℕ) (at k : ℕ) → before ≡ front ++ drop at d → after ≡ put_at before at s → length front ≡ at → length s ≡ k
    → after ≡ (front ++ s) ++ drop (at + k) d
next d front s before after at k b a f l =
    a ∙ ap (λ (x : List ℕ). put_at x at s) b ∙ put_next d front s at f ∙ ap (λ (j : ℕ). (front ++ s) ++ drop (at + j) d) l

module _ (h : IncSetHandle) (n : length h.name ≡ 64) (v : length h.iv ≡ 8) (d : List ℕ) (z : length d ≡ 88) where
  abbrev f1 : List ℕ
  f1 = h.name ++ le_bytes 4 h.name_len

  abbrev f2 : List ℕ
  f2 = f1 ++ le_bytes 4 h.flags

  abbrev f3 : List ℕ
  f3 = f2 ++ h.iv

  abbrev f4 : List ℕ
  f4 = f3 ++ le_bytes 4 h.final_data_size

  abbrev f5 : List ℕ
  f5 = f4 ++ le_bytes 4 h.offset

  l1 : length f1 ≡ 68
  l1 = rw (length-append h.name (le_bytes 4 h.name_len), n)

  l2 : length f2 ≡ 72
  l2 = rw (length-append f1 (le_bytes 4 h.flags), l1)

  l3 : length f3 ≡ 80
  l3 = rw (length-append f2 h.iv, l2, v)

  l4 : length f4 ≡ 84
  l4 = rw (length-append f3 (le_bytes 4 h.final_data_size), l3)

  joined : f5 ++ drop 88 d ≡ handle_bytes h
  unfolding handle_bytes
  joined = ap (λ (x : List ℕ). f5 ++ x) (drop_of_length-le d {i = 88} (omega arith)) ∙ append-nil f5 ∙ simp append_assoc

  pub encoded : (b0 b1 b2 b3 b4 b5 : List ℕ) → b0 ≡ put_at d 0 h.name → b1 ≡ put_at b0 64 (le_bytes 4 h.name_len)
      → b2 ≡ put_at b1 68 (le_bytes 4 h.flags) → b3 ≡ put_at b2 72 h.iv → b4 ≡ put_at b3 80 (le_bytes 4 h.final_data_size)
      → b5 ≡ put_at b4 84 (le_bytes 4 h.offset) → b5 ≡ handle_bytes h
  encoded b0 b1 b2 b3 b4 b5 w0 w1 w2 w3 w4 w5 =
      let e0 = next d [] h.name d b0 0 64 refl w0 refl n in
      let e1 = next d h.name (le_bytes 4 h.name_len) b0 b1 64 4 e0 w1 n refl in
      let e2 = next d f1 (le_bytes 4 h.flags) b1 b2 68 4 e1 w2 l1 refl in
      let e3 = next d f2 h.iv b2 b3 72 8 e2 w3 l2 v in
      let e4 = next d f3 (le_bytes 4 h.final_data_size) b3 b4 80 4 e3 w4 l3 refl in
      next d f4 (le_bytes 4 h.offset) b4 b5 84 4 e4 w5 l4 refl ∙ joined
