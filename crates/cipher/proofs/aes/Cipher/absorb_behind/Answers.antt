-- `cipher::aes::Cipher::absorb_behind`: the full block, whole blocks, and what is kept.
use Rattle.std.proofs.Common.{ℕ, List, length, ap, ◌∙◌, arith, length-take}
use Rattle.cipher.specs.Aes.{block_of, kept_key, cipher, encrypt_with}
use Rattle.cipher.specs.Columns.{columns_state}
use Rattle.cipher.specs.CmacState.{xor_from}
use Rattle.cipher.specs.Pending.{state_with}
use Rattle.cipher.proofs.Fold.{state}
use Rattle.cipher.proofs.Feeding.{to_end, absorbed_blocks}
use Rattle.cipher.proofs.aes.Cipher.absorb_behind.Goals as goal

pub slice_bounds-chain_blocks-end : goal.slice_bounds-chain_blocks-end
slice_bounds-chain_blocks-end c = simp length-take (omega arith)

pub returns : goal.returns
unfolding state_with columns_state encrypt_with
returns c =
    let ks = c.args.self.keys.now in
    let d = c.args.«data».now in
    let e = c.before_last-end.result in
    let full = ap block_of (c.encrypt-next.ensures ∙ ap (cipher (kept_key ks)) c.load.ensures) in
    let kept = c.add_bytes.ensures ∙ ap (xor_from _ 0) (to_end e d) in
    ap (λ (l : List ℕ). state c.add_bytes.result (length l) ks) (to_end e d)
    ∙ absorbed_blocks ks c.args.block d _ _ _ e c.requires full c.before_last-end.ensures
    (c.store.ensures ∙ c.chain_blocks-chained.ensures) kept
