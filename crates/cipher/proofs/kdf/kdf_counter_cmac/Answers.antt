-- `cipher::kdf::kdf_counter_cmac`: a state is made for the key, fed four times and finished, which `OneShot` is about.
use Rattle.std.proofs.Common.{◌≡◌, ℕ, List, [], ◌∷◌, sym, replicate, ap, ◌∙◌, w8}
use Rattle.cipher.specs.declared.cmac.CmacState.{CmacState}
use Rattle.cipher.specs.CmacState.{keyed, begun, fed, finished}
use Rattle.cipher.specs.Pending.{state_with}
use Rattle.cipher.proofs.Fold.{state}
use Rattle.cipher.proofs.Arrays.{array_fits}
use Rattle.cipher.proofs.Tag.{one-shot-law}
use Rattle.cipher.proofs.kdf.kdf_counter_cmac.Goals as goal

pub returns : goal.returns
unfolding begun keyed state_with
returns c =
    let key = c.args.key in
    let fresh = state (replicate 16 0) 0 in
    let a = c.args.first.now in
    let b = c.args.second.now in
    let counted = fed (keyed key) (1 ∷ []) in
    let labelled = fed (fed counted a) b in
    let end : List ℕ = 0 ∷ 0 ∷ 0 ∷ 0 ∷ 0x80 ∷ [] in
    let e₀ : fresh _ ≡ keyed key = ap fresh (c.new-cipher.ensures ∙ c.expand_key-keys.ensures) in
    let e₁ : state_with c.absorb-start.result _ ≡ counted = c.absorb-start.ensures ∙ ap (λ (s : CmacState). fed s (1 ∷ [])) e₀ in
    let e₂ : state_with c.absorb.result _ ≡ fed counted a = c.absorb.ensures ∙ ap (λ (s : CmacState). fed s a) e₁ in
    let e₃ : state_with c.absorb-label.result _ ≡ labelled = c.absorb-label.ensures ∙ ap (λ (s : CmacState). fed s b) e₂ in
    let e₄ : state_with c.absorb-end.result _ ≡ fed labelled end = c.absorb-end.ensures ∙ ap (λ (s : CmacState). fed s end) e₃ in
    let same = ap (state_with c.absorb-end.result) c.new.ensures in
    c.close.ensures ∙ ap (λ (s : CmacState). (finished s).block) (same ∙ e₄)
    ∙ sym (one-shot-law.label key (array_fits w8 16 key _ c.well_formed.0) a b)
