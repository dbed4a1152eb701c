-- `cipher::mac_key::MacKey::tag_of`: the chain, and the last block closed apart from it.
use Rattle.std.proofs.Common.{ℕ, List, length, replicate, ap, ◌∙◌, arith, length-drop, length-take}
use Rattle.cipher.specs.Aes.{number_word, word_bytes, block_of}
use Rattle.cipher.specs.Columns.{columns_state}
use Rattle.cipher.specs.Cmac.{double}
use Rattle.cipher.specs.CmacState.{xor_from, closed_block}
use Rattle.cipher.proofs.States.{block-sum, encrypted}
use Rattle.cipher.proofs.Feeding.{to_end, tag-shape}
use Rattle.cipher.proofs.mac_key.MacKey.tag_of.Goals as goal

pub slice_bounds-chain_blocks-end : goal.slice_bounds-chain_blocks-end
slice_bounds-chain_blocks-end c = simp length-take (omega arith)

pub last_block-requires : goal.last_block-requires
last_block-requires c = simp (length-take, length-drop) (omega (arith, c.before_last-end.ensures))

pub returns : goal.returns
unfolding columns_state number_word block_of word_bytes
returns c =
    let ks = c.args.self.cipher.keys.now in
    let m = c.args.message.now in
    let e = c.before_last-end.result in
    let zeros : List ℕ = replicate 16 0 in
    let z = block_of (columns_state c.args.self.zero) in
    let whole = ap block_of c.bitxor-x.ensures ∙ block-sum _ _ in
    let last =
    c.last_block.ensures ∙ ap (λ (l : List ℕ). closed_block (xor_from zeros 0 l) (length l) (double z) (double (double z))) (to_end e m) in
    c.store.ensures ∙ encrypted ks _ _ _ c.encrypt.ensures whole
    ∙ tag-shape ks m _ _ z e c.before_last-end.ensures c.args.self.encrypted c.chain_blocks-chained.ensures last
