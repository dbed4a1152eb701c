-- Bytes added to a block, one by one. Assumes nothing.
use Rattle.std.proofs.Common.{◌≡◌, ℕ, suc, ◌+◌, ◌<◌, List, length, get_or, drop, sym, ap, add-one, arith, drop-cons}
use Rattle.cipher.specs.CmacState.{xor_at, xor_from}

pub xor-from-step : (c l : List ℕ) (p i : ℕ) → i < length l
    → xor_from (xor_at c (p + i) (get_or l i 0)) (p + (i + 1)) (drop (i + 1) l) ≡ xor_from c (p + i) (drop i l)
xor-from-step c l p i h =
    let next : p + (i + 1) ≡ suc (p + i) = omega arith in
    rw (next, add-one i) (sym (ap (xor_from c (p + i)) (drop-cons l i 0 h)))
