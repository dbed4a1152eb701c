-- `mix::session::session_at`: the number of the library's bytes.
use mathlib.Core.Path.{ap, ◌∙◌}
use lib.ListN.{take}
use lib.Seq.{length-take-le}
use Rattle.std.specs.Int.{w64, from_le_bytes}
use Rattle.mix.proofs.Numbers.{eight-value}
use Rattle.mix.proofs.session.session_at.Goals as goal

pub returns : goal.returns
returns c =
    let b = c.args.b.now in
    c.from_le_bytes.ensures ∙ ap (from_le_bytes w64) c.array.ensures ∙ eight-value (take 8 b) (length-take-le 8 b c.requires)
