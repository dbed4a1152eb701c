-- `cipher::aes::aes128_encrypt`: what is encrypted under the expanded key is encrypted under the key.
use Rattle.std.proofs.Common.{◌∙◌, w8}
use Rattle.cipher.proofs.Arrays.{array_fits}
use Rattle.cipher.proofs.Expanded.{encrypt_expanded}
use Rattle.cipher.proofs.aes.aes128_encrypt.Goals as goal

pub returns : goal.returns
returns c =
    let a = c.args in
    let bytes = array_fits w8 16 a.key _ c.well_formed.0 in
    c.encrypt_block.ensures ∙ (rw (c.new.ensures ∙ c.expand_key-keys.ensures) (encrypt_expanded a.key bytes a.block))
