-- `mix::range::pan_bits_in_range`: the law of a pan's bits.
use mathlib.Core.Path.{sym}
use Rattle.mix.proofs.Bits.{pan-bits-is}
use Rattle.mix.proofs.range.pan_bits_in_range.Goals as goal

pub returns : goal.returns
returns c = sym (pan-bits-is c.args.bits c.ranges.bits.fits)
