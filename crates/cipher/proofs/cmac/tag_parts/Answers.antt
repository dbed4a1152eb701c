-- `cipher::cmac::tag_parts`: a state is made for the key, fed twice and finished, which `OneShot` is about.
use Rattle.std.proofs.Common.{◌≡◌, sym, replicate, ap, ◌∙◌, w8}
use Rattle.cipher.specs.declared.cmac.CmacState.{CmacState}
use Rattle.cipher.specs.CmacState.{keyed, begun, fed, finished}
use Rattle.cipher.specs.Pending.{state_with}
use Rattle.cipher.proofs.Fold.{state}
use Rattle.cipher.proofs.Arrays.{array_fits}
use Rattle.cipher.proofs.Tag.{one-shot-law}
use Rattle.cipher.proofs.cmac.tag_parts.Goals as goal

pub returns : goal.returns
unfolding begun keyed state_with
returns c =
    let key = c.args.key in
    let fresh = state (replicate 16 0) 0 in
    let a = c.args.first.now in
    let b = c.args.second.now in
    let e₀ : fresh _ ≡ keyed key = ap fresh (c.new-cipher.ensures ∙ c.expand_key-keys.ensures) in
    let e₁ : state_with c.absorb-start.result _ ≡ fed (keyed key) a = c.absorb-start.ensures ∙ ap (λ (s : CmacState). fed s a) e₀ in
    let e₂ : state_with c.absorb-end.result _ ≡ fed (fed (keyed key) a) b = c.absorb-end.ensures ∙ ap (λ (s : CmacState). fed s b) e₁ in
    let same = ap (state_with c.absorb-end.result) c.new.ensures in
    c.close.ensures ∙ ap (λ (s : CmacState). (finished s).block) (same ∙ e₂)
    ∙ sym (one-shot-law.parts key (array_fits w8 16 key _ c.well_formed.1.0) a b)
