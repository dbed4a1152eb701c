-- `keys::reader::KeyFileReader::part`: the two tests, and the part where both pass.
use Rattle.std.proofs.Common.{arith}
use Rattle.keys.proofs.Taken.{short-part, some-part}
use Rattle.keys.proofs.reader.KeyFileReader.part.Goals as goal
use Rattle.keys.proofs.reader.KeyFileReader.part.Goals.{then-file-self-via-then-file-self, then-file-self-via-else-file-self+then-file-self-2}

pub returns-then-file-self-clause-answer : goal.returns-then-file-self-clause-answer
returns-then-file-self-clause-answer c =
    short-part c.args.self.now c.args.n (λ h.
    elim c.then-file-self.branch [
      | then-file-self-via-then-file-self w ↦ omega (arith, w.if-file-self.true)
      | then-file-self-via-else-file-self+then-file-self-2 w ↦ omega (arith, w.if-file-self.false, w.if-file-self-2.true)
    ])

pub returns-clause-answer : goal.returns-clause-answer
returns-clause-answer c = some-part c.args.self.now c.args.n (omega arith)
