-- `records::keys::Keys::sealed_tag`: the definition's two cases.
use Rattle.records.specs.Parts.{tag_over}
use Rattle.records.proofs.keys.Keys.sealed_tag.Goals as goal

pub returns-then-require_integrity : goal.returns-then-require_integrity
unfolding tag_over
returns-then-require_integrity c =
    let if1 = c.if-require_integrity in
    let require-integrity = c.require_integrity in
    rw (← require-integrity.ensures, if1.true) c.record_cmac.ensures

pub returns-else-require_integrity : goal.returns-else-require_integrity
unfolding tag_over
returns-else-require_integrity c =
    let require-integrity = c.require_integrity in
    rw (← require-integrity.ensures, c.if-require_integrity.false)
