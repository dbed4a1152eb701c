-- `cipher::cmac::CmacState::feed`: what was absorbed, and the key as it was.
use Rattle.std.proofs.Common.{sym, ap, ◌∙◌}
use Rattle.cipher.specs.declared.cmac.CmacState.{CmacState}
use Rattle.cipher.specs.CmacState.{fed}
use Rattle.cipher.specs.Pending.{state_with}
use Rattle.cipher.proofs.cmac.CmacState.feed.Goals as goal

pub returns : goal.returns
unfolding state_with
returns c =
    let from = ap (state_with c.pending_part.result) c.new.ensures ∙ c.pending_part.ensures in
    sym (ap (state_with c.absorb-end.result) c.new.ensures) ∙ c.absorb-end.ensures ∙ ap (λ (s : CmacState). fed s c.args.«data».now) from
