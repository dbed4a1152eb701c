-- `text::parts::line`: a line is the part of its number.
use mathlib.Core.Path.{sym, ◌∙◌}
use Rattle.text.proofs.PartSteps.{line-part}
use Rattle.text.proofs.parts.line.Goals as goal

pub returns : goal.returns
returns c =
    let a = c.args in
    (c.part.ensures.0 ∙ sym (line-part a.text.now a.k), c.part.ensures.1)
