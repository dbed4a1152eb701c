-- `cipher::aes::mix_entry` gives the entry of the table for b, a word of four bytes.
use Rattle.std.proofs.Common.{arith}
use Rattle.cipher.specs.Sbox.{sub_byte}
use Rattle.cipher.proofs.Mix.{sub-lt, mix-at, number-entry}
use Rattle.cipher.proofs.tables.Tables.mix_entry.Goals as goal

pub returns : goal.returns
returns c =
    let b = c.args.b in rw (c.args.self.now.right.0, mix-at b (omega arith)) (number-entry (sub_byte b) (sub-lt b))
