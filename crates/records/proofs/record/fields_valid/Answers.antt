-- `records::record::fields_valid`: the definition's tests, one by one.
use borrow.Author.Tests.{eq-eqb, ne_eqb, le-leb, lt-leb}
use Rattle.records.specs.Parts.{fields_valid}
use Rattle.records.proofs.record.fields_valid.Goals as goal

pub returns-then-size-le480 : goal.returns-then-size-le480
unfolding fields_valid
returns-then-size-le480 c =
    let if3 = c.if-valid_flags in
    let valid-flags = c.valid_flags in
    let le-at4 = c.le_at-then-le_at-eq-REVISION in
    let if2 = c.if-le_at-eq-REVISION in
    let le-at3 = c.le_at-then-le_at-eq20 in
    let if1 = c.if-le_at-eq20 in
    let le-at2 = c.le_at in
    let le-at = c.le_at-size in
    rw (
      ← le-at.ensures,
      ← le-at2.ensures,
      ← le-at3.ensures,
      eq-eqb _ _ if1.true,
      eq-eqb _ _ if2.true,
      ← le-at4.ensures,
      ← valid-flags.ensures,
      if3.true,
      le-leb _ _ c.if-size-le480.true,
    )

pub returns-else-size-le480 : goal.returns-else-size-le480
unfolding fields_valid
returns-else-size-le480 c =
    let if3 = c.if-valid_flags in
    let valid-flags = c.valid_flags in
    let le-at4 = c.le_at-then-le_at-eq-REVISION in
    let if2 = c.if-le_at-eq-REVISION in
    let le-at3 = c.le_at-then-le_at-eq20 in
    let if1 = c.if-le_at-eq20 in
    let le-at2 = c.le_at in
    let le-at = c.le_at-size in
    rw (
      ← le-at.ensures,
      ← le-at2.ensures,
      ← le-at3.ensures,
      eq-eqb _ _ if1.true,
      eq-eqb _ _ if2.true,
      ← le-at4.ensures,
      ← valid-flags.ensures,
      if3.true,
      lt-leb _ _ c.if-size-le480.false,
    )

pub returns-else-valid_flags : goal.returns-else-valid_flags
unfolding fields_valid
returns-else-valid_flags c =
    let valid-flags = c.valid_flags in
    let le-at4 = c.le_at-then-le_at-eq-REVISION in
    let if2 = c.if-le_at-eq-REVISION in
    let le-at3 = c.le_at-then-le_at-eq20 in
    let if1 = c.if-le_at-eq20 in
    let le-at2 = c.le_at in
    rw (
      ← le-at2.ensures,
      ← le-at3.ensures,
      eq-eqb _ _ if1.true,
      eq-eqb _ _ if2.true,
      ← le-at4.ensures,
      ← valid-flags.ensures,
      c.if-valid_flags.false,
    )

pub returns-else-le_at-eq-REVISION : goal.returns-else-le_at-eq-REVISION
unfolding fields_valid
returns-else-le_at-eq-REVISION c =
    let le-at3 = c.le_at-then-le_at-eq20 in
    let if1 = c.if-le_at-eq20 in
    let le-at2 = c.le_at in
    rw (← le-at2.ensures, ← le-at3.ensures, eq-eqb _ _ if1.true, ne_eqb _ _ c.if-le_at-eq-REVISION.false)

pub returns-else-le_at-eq20 : goal.returns-else-le_at-eq20
unfolding fields_valid
returns-else-le_at-eq20 c =
    let le-at2 = c.le_at in
    rw (← le-at2.ensures, ne_eqb _ _ c.if-le_at-eq20.false)
