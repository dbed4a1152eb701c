-- `cipher::aes::next_constant`: the first byte is doubled; of the ten constants one is above 127.
use Rattle.std.proofs.Common.{add-one, arith}
use Rattle.cipher.proofs.KeySchedule.{constant-low, constant-high}
use Rattle.cipher.proofs.aes.next_constant.Goals as goal

pub returns-then-c-lt2147483648 : goal.returns-then-c-lt2147483648
returns-then-c-lt2147483648 c = rw add-one (constant-low c.args.i c.args.c c.requires.1 (omega arith))

pub returns-else-c-lt2147483648 : goal.returns-else-c-lt2147483648
returns-else-c-lt2147483648 c = rw add-one (constant-high c.args.i c.args.c c.requires.0 c.requires.1 (omega arith))
