-- `cipher::aes::Cipher::chain_blocks`. The invariant: the chain over the blocks that are left, from the present state, is the chain over all.
use Rattle.std.proofs.Common.{◌≡◌, ◌-◌, ◌*◌, ◌/◌, length, drop}
use Rattle.cipher.specs.Aes.{block_of, encrypt_with}
use Rattle.cipher.specs.Columns.{columns_state}
use Rattle.cipher.specs.Cmac.{chain}
use Rattle.cipher.proofs.aes.Cipher.chain_blocks.Given as goal

abbrev pub invariant-loop-block : goal.invariant-loop-block
invariant-loop-block l =
    let ciph = encrypt_with l.self.keys.now in
    chain ciph (length l.«data» / 16 - l.block-index) (block_of (columns_state l.chained)) (drop (16 * l.block-index) l.«data»)
    ≡ chain ciph (length l.«data» / 16) (block_of (columns_state l.initial.chained)) l.«data»
