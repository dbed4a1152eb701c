-- How long blocks, tags, derived keys and encrypted messages are. Assumes nothing.
use Rattle.std.proofs.Common.{◌≡◌, ℕ, List, length, refl}
use Rattle.cipher.specs.Aes.{aes128, encrypt_with, block_of, word_bytes, State}
use Rattle.cipher.specs.Cmac.{cmac, cmac_over}
use Rattle.cipher.specs.Kdf.{kdf, derived_key}
use Rattle.cipher.specs.Laws.{LengthLaw}
use Rattle.cipher.proofs.CtrLaws.{ctr-length, ctr-at-length}

pub block-length : (s : State) → length (block_of s) ≡ 16
unfolding block_of word_bytes
block-length s = refl

pub aes_length : (key block : List ℕ) → length (aes128 key block) ≡ 16
unfolding aes128
aes_length key block = block-length _

pub with-length : (keys block : List ℕ) → length (encrypt_with keys block) ≡ 16
unfolding encrypt_with
with-length keys block = block-length _

cmac-length : (key m : List ℕ) → length (cmac key m) ≡ 16
unfolding cmac cmac_over
cmac-length key m = aes_length key _

derived-length : (key prefix name : List ℕ) → length (derived_key key prefix name) ≡ 16
unfolding derived_key kdf
derived-length key prefix name = cmac-length key _

pub length-law : LengthLaw
length-law = record { of_block = aes_length; of_tag = cmac-length; of_key = derived-length; of_ctr = ctr-length; of_ctr_at = ctr-at-length }
