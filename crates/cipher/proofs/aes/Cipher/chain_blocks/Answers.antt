-- `cipher::aes::Cipher::chain_blocks`. The invariant: the chain over the blocks that are left, from the present state, is the chain over all.
use Rattle.std.proofs.Common.{◌≡◌, ℕ, ◌-◌, ◌/◌, ◌<◌, List, [], length, get_or, ap, ◌∙◌, arith}
use Rattle.cipher.specs.Aes.{State, block_of, encrypt_with, add_round_key}
use Rattle.cipher.specs.Columns.{columns_state}
use Rattle.cipher.specs.Cmac.{chain}
use Rattle.cipher.proofs.States.{chunk-at, chunk_link, chain-step}
use Rattle.cipher.proofs.aes.Cipher.chain_blocks.Goals as goal

pub loop-block-init : goal.loop-block-init
loop-block-init c =
    let d = c.args.«data».now in
    let all : length d / 16 - 0 ≡ length d / 16 = omega arith in
    rw all

pub loop-block-preserved : goal.loop-block-preserved
unfolding columns_state
loop-block-preserved c =
    let l = c.loop-block in
    let d = c.args.«data».now in
    let ks = c.args.self.keys.now in
    let i = l.block-index in
    let s = columns_state l.chained in
    let in_range : i < length d / 16 = omega (arith, c.as_chunks.ensures.front_len) in
    let block = ap (λ (bs : List (List ℕ)). get_or bs i []) c.as_chunks.ensures.front ∙ chunk-at (length d / 16) i d in_range in
    let sum = c.bitxor.ensures ∙ ap (λ (k : State). add_round_key k s) c.load.ensures in
    let link = chunk_link ks d _ i s _ _ in_range block sum c.encrypt-chained.ensures in
    chain-step (encrypt_with ks) d (block_of s) _ i in_range link ∙ l.invariant

pub returns : goal.returns
unfolding chain
returns c =
    let l = c.loop-block in
    let d = c.args.«data».now in
    let none : length d / 16 - l.block-index ≡ 0 = omega (arith, c.as_chunks.ensures.front_len) in
    rw none at l.invariant
