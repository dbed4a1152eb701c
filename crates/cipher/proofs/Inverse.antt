-- The inverse of FIPS 197's rule is one, by one test that is computed over all bytes. Assumes nothing.
use Rattle.std.proofs.Common.{◌≡◌, ℕ, ◌+◌, ◌-◌, ◌<◌, List, get_or, replicate, sym, refl, ap, ◌∙◌, arith}
use lib.ListN.{get_or-replicate}
use Rattle.cipher.specs.Field.{mul, times, xtime}
use Rattle.cipher.specs.Sbox.{inverse, table_from}
use Rattle.cipher.specs.Laws.{InverseLaw}
use Rattle.cipher.proofs.Words.{table_at}
use Rattle.cipher.proofs.Product.{mul-lt}

abbrev product : ℕ → ℕ
product b = mul b (inverse b)

all_ones : table_from product 255 1 ≡ replicate 255 1
unfolding table_from inverse mul times xtime
all_ones = refl

product-one : (b : ℕ) → 0 < b → b < 256 → product b ≡ 1
product-one b h k =
    let e : 1 + (b - 1) ≡ b = omega arith in
    let at : get_or (table_from product 255 1) (b - 1) 0 ≡ product (1 + (b - 1)) = table_at product 255 1 (b - 1) (omega arith) in
    ap product (sym e) ∙ sym at ∙ ap (λ (l : List ℕ). get_or l (b - 1) 0) all_ones ∙ get_or-replicate 255 (b - 1) 1 0 (omega arith)

zero-zero : inverse 0 ≡ 0
unfolding inverse mul times xtime
zero-zero = refl

inverse-lt : (b : ℕ) → b < 256 → inverse b < 256
unfolding inverse
inverse-lt b h = mul-lt _ _ (mul-lt _ _ (mul-lt _ _ (mul-lt _ _ (mul-lt _ _ (mul-lt _ _ (mul-lt _ _ (mul-lt _ _ (mul-lt _ _ (mul-lt _ _ (mul-lt b b h))))))))))

pub inverse-law : InverseLaw
inverse-law = record { of_zero = zero-zero; product = product-one; fits = inverse-lt }
