-- A number's eight bytes, as the library writes and reads them. Assumes nothing.
use mathlib.Core.Path.{◌≡◌}
use mathlib.Core.List.{List, [], ◌∷◌}
use Prim.Native.Nat.{ℕ, ◌/◌}
use native.Mathlib.Omega.{arith}
use lib.ListN.{length}
use Rattle.std.specs.Int.{w64, to_le_bytes, from_le_bytes}
use Rattle.buffers.specs.Bytes.{le_bytes, le_value}

pub eight-bytes : (n : ℕ) → to_le_bytes w64 n ≡ le_bytes 8 n
eight-bytes n =
    let a : n / 256 / 256 ≡ n / 65536 = omega arith in
    let b : n / 65536 / 256 ≡ n / 16777216 = omega arith in
    let c : n / 16777216 / 256 ≡ n / 4294967296 = omega arith in
    let d : n / 4294967296 / 256 ≡ n / 1099511627776 = omega arith in
    let e : n / 1099511627776 / 256 ≡ n / 281474976710656 = omega arith in
    let f : n / 281474976710656 / 256 ≡ n / 72057594037927936 = omega arith in
    rw (a, b, c, d, e, f)

pub eight-value : (l : List ℕ) → length l ≡ 8 → from_le_bytes w64 l ≡ le_value l
eight-value [] h = absurd (omega (arith, h))
eight-value (a ∷ []) h = absurd (omega (arith, h))
eight-value (a ∷ b ∷ []) h = absurd (omega (arith, h))
eight-value (a ∷ b ∷ c ∷ []) h = absurd (omega (arith, h))
eight-value (a ∷ b ∷ c ∷ d ∷ []) h = absurd (omega (arith, h))
eight-value (a ∷ b ∷ c ∷ d ∷ e ∷ []) h = absurd (omega (arith, h))
eight-value (a ∷ b ∷ c ∷ d ∷ e ∷ f ∷ []) h = absurd (omega (arith, h))
eight-value (a ∷ b ∷ c ∷ d ∷ e ∷ f ∷ g ∷ []) h = absurd (omega (arith, h))
eight-value (a ∷ b ∷ c ∷ d ∷ e ∷ f ∷ g ∷ x ∷ []) h = omega arith
eight-value (a ∷ b ∷ c ∷ d ∷ e ∷ f ∷ g ∷ x ∷ y ∷ l) h = absurd (omega (arith, h))
