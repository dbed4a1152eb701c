-- `text::parts::line_count`: as many as newlines, and one more where the last byte is none.
use mathlib.Core.Path.{◌≡◌, ap, sym, ◌∙◌}
use Prim.Native.Nat.{ℕ, ◌+◌}
use Rattle.std.specs.Prelude.{count_by, ◌==◌}
use Rattle.std.proofs.Common.{rules}
use Rattle.std.proofs.iter.runs.Made.{chains}
use Rattle.text.specs.Parts.{newline}
use Rattle.text.proofs.PartLaws.{count-ended, count-open}
use Rattle.text.proofs.parts.line_count.Goals as goal

pub returns-in-Some : goal.returns-in-Some
returns-in-Some c =
    let a = c.args in
    let n : c.count-ended.result ≡ count_by (λ x. x == newline) a.text.now = search (rules, chains) in
    ap (λ (k : ℕ). k + 1) n ∙ sym (count-open a.text.now c.in-Some.last.now c.in-Some.ensures.value c.if-last-ne-NEWLINE.true)

pub returns-in_default : goal.returns-in_default
returns-in_default c =
    let a = c.args in
    let n : c.count-ended.result ≡ count_by (λ x. x == newline) a.text.now = search (rules, chains) in
    n ∙ sym (count-ended a.text.now c.in-Some.last.now c.in-Some.ensures.value c.if-last-ne-NEWLINE.false)
