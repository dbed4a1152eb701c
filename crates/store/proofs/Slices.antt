-- Lengths of what the areas hold, and parts of arrays that end in zeros. Assumes nothing.
use mathlib.Core.Path.{◌≡◌, refl, ◌∙◌}
use mathlib.Core.List.{List, ◌++◌}
use Prim.Native.Nat.{ℕ, ◌-◌, ◌≤◌}
use native.Mathlib.Omega.{arith}
use lib.Seq.{take_at, drop-append-le}
use lib.ListN.{length, take, drop, length-drop}
use native.Mathlib.Nat.{zero-add}
use Rattle.buffers.specs.Bytes.{put_at}

-- the front of an array that holds r and then zeros, and r's last sixteen bytes in it
pub front-part : (r z : List ℕ) (n : ℕ) → length r ≡ n → take (n - 0) (drop 0 (r ++ z)) ≡ r
front-part r z n h = let e : n - 0 ≡ n = omega arith in rw e (take_at r z n h)

pub tail-part : (r z : List ℕ) (n : ℕ) → length r ≡ n → 16 ≤ n → take (n - (n - 16)) (drop (n - 16) (r ++ z)) ≡ drop (length r - 16) r
tail-part r z n h k =
    rw (h, drop-append-le (n - 16) r z (omega arith)) (take_at (drop (n - 16) r) z (n - (n - 16)) (length-drop (n - 16) r ∙ omega arith))

-- the rest of p in an array that holds p and then zeros
pub data_part : (p z : List ℕ) (o : ℕ) → o ≤ length p → take (length p - o) (drop o (p ++ z)) ≡ drop o p
data_part p z o h = rw (drop-append-le o p z h) (take_at (drop o p) z (length p - o) (length-drop o p))

-- what a paste at the front leaves
pub paste-front : (dst src : List ℕ) → put_at dst 0 src ≡ src ++ drop (length src) dst
paste-front dst src = rw zero-add refl
