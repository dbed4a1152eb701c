-- `cipher::tables::Tables::substitute` gives the byte that the S-box has for b.
use Rattle.std.proofs.Common.{arith}
use Rattle.cipher.proofs.Words.{sbox-at}
use Rattle.cipher.proofs.tables.Tables.substitute.Goals as goal

pub returns : goal.returns
returns c = rw c.args.self.now.right.1 (sbox-at c.args.b (omega arith))
