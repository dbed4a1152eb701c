-- `mix::codec::mix_in_range`: count, then sends.
use borrow.Author.Tests.{le-leb, lt-leb}
use Rattle.mix.specs.Mix.{mix_in_range}
use Rattle.mix.proofs.codec.mix_in_range.Goals as goal

pub returns-then-count-le-MAX_SENDS : goal.returns-then-count-le-MAX_SENDS
unfolding mix_in_range
returns-then-count-le-MAX_SENDS c = rw (le-leb c.args.mix.count 16 c.if-count-le-MAX_SENDS.true) c.sends_in_range.ensures

pub returns-else-count-le-MAX_SENDS : goal.returns-else-count-le-MAX_SENDS
unfolding mix_in_range
returns-else-count-le-MAX_SENDS c = rw (lt-leb c.args.mix.count 16 c.if-count-le-MAX_SENDS.false)
