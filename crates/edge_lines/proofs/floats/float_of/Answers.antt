-- `floats::float_of` is safe: without its sign, a NaN's pattern is above the infinity's.
use Rattle.std.proofs.Common.{◌%◌, Bool, not, T, sym, subst}
use lib.Arith.{le→nltb}
use lib.Ieee.{binary32}
use lib.Ieee.Bits.{nan_bits_above}
use Rattle.edge_lines.proofs.floats.float_of.Goals as goal

pub float_from_bits-result : goal.float_from_bits-result
float_from_bits-result c =
    let n = c.args.bits in
    subst (λ (b : Bool). T (not b)) (sym (nan_bits_above binary32 n)) (le→nltb 2139095040 (n % 2147483648) c.if-bits-le2139095040.true)
