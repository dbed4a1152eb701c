-- `cipher::cmac::CmacState::finish`: the tag, and the key as it was.
use Rattle.std.proofs.Common.{ℕ, List, ap, ◌∙◌}
use Rattle.cipher.specs.declared.cmac.CmacState.{CmacState}
use Rattle.cipher.specs.CmacState.{finished}
use Rattle.cipher.specs.Pending.{state_with}
use Rattle.cipher.proofs.Fold.{state}
use Rattle.cipher.proofs.cmac.CmacState.finish.Goals as goal

pub returns : goal.returns
unfolding finished state_with
returns c =
    let from = ap (state_with c.pending_part.result) (c.new-mac.ensures ∙ c.new.ensures) ∙ c.pending_part.ensures in
    ap (λ (l : List ℕ). state l 0 c.args.self.keys) (c.close-block.ensures ∙ ap (λ (s : CmacState). (finished s).block) from)
