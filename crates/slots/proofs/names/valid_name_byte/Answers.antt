-- `slots::names::valid_name_byte`: the one place of the code that knows the rule for a name's byte. What it says of a byte, 0x20 or more and not 0x7f,
-- is what the law says of a number, but for the bound that a byte keeps.
use native.Mathlib.Omega.{arith}
use Rattle.std.proofs.lemmas.Bool.Decides.{nat_tests}
use Rattle.spec.specs.Name.{valid_name_byte}
use Rattle.slots.proofs.names.valid_name_byte.Goals as goal

pub returns-then-b-ge32 : goal.returns-then-b-ge32
unfolding valid_name_byte
returns-then-b-ge32 c = let fits = c.ranges.b.fits in grind (arith, nat_tests)

pub returns-else-b-ge32 : goal.returns-else-b-ge32
unfolding valid_name_byte
returns-else-b-ge32 c = let fits = c.ranges.b.fits in grind (arith, nat_tests)
