-- `text::hex::digit_value`: the bytes at the ends of the three ranges, and between them.
use native.Mathlib.Omega.{arith}
use Rattle.text.proofs.HexSteps.{value-below, value-decimal, value-between, value-upper, value-between-cases, value-lower, value-above}
use Rattle.text.proofs.hex.digit_value.Goals as goal

pub returns-in-48-to-57 : goal.returns-in-48-to-57
returns-in-48-to-57 c = omega (arith, value-decimal c.args.c (omega arith) (omega arith))

pub returns-in-65-to-70 : goal.returns-in-65-to-70
returns-in-65-to-70 c = omega (arith, value-upper c.args.c (omega arith) (omega arith))

pub returns-in-97-to-102 : goal.returns-in-97-to-102
returns-in-97-to-102 c = omega (arith, value-lower c.args.c (omega arith) (omega arith))

pub returns-in_default : goal.returns-in_default
returns-in_default c = omega (arith, value-below c.args.c (omega arith))

pub returns-in_default-2 : goal.returns-in_default-2
returns-in_default-2 c = omega (arith, value-between c.args.c (omega arith) (omega arith))

pub returns-in_default-3 : goal.returns-in_default-3
returns-in_default-3 c = omega (arith, value-between-cases c.args.c (omega arith) (omega arith))

pub returns-in_default-4 : goal.returns-in_default-4
returns-in_default-4 c = omega (arith, value-above c.args.c (omega arith))
