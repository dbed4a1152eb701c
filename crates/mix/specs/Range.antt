-- 02, No. 5: "Level lies from 0 to 4, pan from -1 to 1, both ends in, no NaN." Of the numbers that floats are, by IEEE 754's comparison: -0 is 0, and a NaN
-- is in no range.
--   zero, one, minus_one, four    the ends
--   level_in_range, pan_in_range     the ranges
use Rattle.std.specs.Prelude.{Bool, true, false, ◌&&◌, pos, Float}
use Rattle.std.specs.Float.{fin}
use Rattle.std.specs.Float.Ieee.{le}

abbrev pub zero : Float
zero = fin false 0 (pos 0)

abbrev pub one : Float
one = fin false 1 (pos 0)

abbrev pub minus_one : Float
minus_one = fin true 1 (pos 0)

abbrev pub four : Float
four = fin false 1 (pos 2)

unfoldable pub level_in_range : Float → Bool
level_in_range x = le zero x && le x four

unfoldable pub pan_in_range : Float → Bool
pan_in_range x = le minus_one x && le x one
