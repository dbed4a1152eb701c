-- `cipher::kdf::derive_prepared`: what was prepared is the expansion, and the zero block under it.
use Rattle.std.proofs.Common.{◌≡◌, ℕ, List, length, replicate, sym, ap, ◌∙◌, arith, take_all}
use Rattle.cipher.specs.Aes.{block_of, encrypt_with}
use Rattle.cipher.proofs.Prepared.{prepared-parts}
use Rattle.cipher.proofs.Lengths.{with-length}
use Rattle.cipher.proofs.States.{block-state}
use Rattle.cipher.proofs.kdf.derive_prepared.Goals as goal

pub invariant_of-mac : goal.invariant_of-mac
invariant_of-mac c =
    let d = c.args.device.now in
    let held = prepared-parts d c.requires in
    let sized : length d.zero ≡ 16 = ap length held.1 ∙ with-length _ _ in
    let zero =
    ap block_of c.load.ensures ∙ block-state d.zero (omega arith) ∙ take_all 16 d.zero (omega arith) ∙ held.1 in
    record { encrypted = zero ∙ ap (λ (k : List ℕ). encrypt_with k (replicate 16 0)) (sym c.new.ensures) }

pub derive-requires : goal.derive-requires
derive-requires c = c.new.ensures ∙ (prepared-parts c.args.device.now c.requires).0
