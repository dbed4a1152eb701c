-- `records::record::zeros_valid`: the IV and the CMAC are the parts that the definition names.
use mathlib.Core.Path.{◌∙◌}
use Prim.Native.Nat.{◌-◌}
use lib.ListN.{length}
use Rattle.records.specs.Parts.{zeros_valid}
use Rattle.buffers.proofs.Lists.{rest_part}
use Rattle.records.proofs.record.zeros_valid.Goals as goal

pub returns-then-zero_unless : goal.returns-then-zero_unless
unfolding zeros_valid
returns-then-zero_unless c =
    let require-integrity = c.require_integrity in
    let if1 = c.if-zero_unless in
    let zero-unless = c.zero_unless in
    let require-confidentiality = c.require_confidentiality in
    let le-at = c.le_at-flags in
    let r = c.args.r.now in
    c.zero_unless-then-zero_unless.ensures
    ∙ rw (
      ← le-at.ensures,
      ← require-confidentiality.ensures,
      ← zero-unless.ensures,
      if1.true,
      ← require-integrity.ensures,
      rest_part r (length r - 16),
    )

pub returns-else-zero_unless : goal.returns-else-zero_unless
unfolding zeros_valid
returns-else-zero_unless c =
    let zero-unless = c.zero_unless in
    let require-confidentiality = c.require_confidentiality in
    let le-at = c.le_at-flags in
    rw (← le-at.ensures, ← require-confidentiality.ensures, ← zero-unless.ensures, c.if-zero_unless.false)
