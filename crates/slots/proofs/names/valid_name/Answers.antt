-- `slots::names::valid_name`: a name that is not empty, and could be a prefix.
use native.Mathlib.Omega.{arith}
use Rattle.std.proofs.lemmas.Bool.Decides.{nat_tests}
use Rattle.spec.specs.Name.{valid_name, valid_prefix}
use Rattle.slots.proofs.names.valid_name.Goals as goal

pub returns-then-not-is_empty : goal.returns-then-not-is_empty
unfolding valid_name valid_prefix
returns-then-not-is_empty c = grind (arith, nat_tests)

pub returns-else-not-is_empty : goal.returns-else-not-is_empty
unfolding valid_name
returns-else-not-is_empty c = grind (arith, nat_tests)
