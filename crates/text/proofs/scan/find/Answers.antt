-- `text::scan::find`: where the library finds the byte in the part.
use mathlib.Core.Path.{◌≡◌, ap, ◌∙◌}
use Prim.Native.Nat.{ℕ, ◌+◌, ◌-◌}
use lib.ListN.{length, take, drop}
use Rattle.std.specs.Prelude.{position, ◌==◌}
use Rattle.std.specs.Option.{unwrap_or}
use Rattle.std.proofs.Common.{rules, Option}
use Rattle.std.proofs.lemmas.Iterator.{YieldsList-from_slice}
use Rattle.std.proofs.lemmas.Iterator.Search.{position_from_yields_List}
use Rattle.text.specs.Scan.{index_of}
use Rattle.text.proofs.ScanSteps.{index-found, slice-part}
use Rattle.text.proofs.scan.find.Goals as goal

pub returns-clause-place : goal.returns-clause-place
returns-clause-place c =
    let a = c.args in
    let part = take (a.to - a.from) (drop a.from a.s.now) in
    let place : c.position.result ≡ position (λ x. x == a.byte) part =
    position_from_yields_List (λ (x : ℕ). x == a.byte) _ _ c.position.result c.position.ensures.ran (YieldsList-from_slice part cc) (λ x b q k. search rules) in
    ap (λ (k : ℕ). a.from + k)
    (c.unwrap_or.ensures
    ∙ ap (λ (o : Option ℕ). unwrap_or o (length part)) place
    ∙ index-found a.byte part
    ∙ ap (index_of a.byte) (slice-part a.from a.to a.s.now c.requires.0))
