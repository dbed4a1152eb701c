-- `records::seal::sealed_iv`: the definition's two cases.
use Rattle.spec.specs.Record.{sealed_iv}
use Rattle.records.proofs.seal.sealed_iv.Goals as goal

pub returns-then-require_confidentiality : goal.returns-then-require_confidentiality
unfolding sealed_iv
returns-then-require_confidentiality c =
    let require-confidentiality = c.require_confidentiality in
    rw (← require-confidentiality.ensures, c.if-require_confidentiality.true)

pub returns-else-require_confidentiality : goal.returns-else-require_confidentiality
unfolding sealed_iv
returns-else-require_confidentiality c =
    let require-confidentiality = c.require_confidentiality in
    rw (← require-confidentiality.ensures, c.if-require_confidentiality.false)
