-- `cipher::ctr::crypt_at`: the cipher under the expanded key is that under the key.
use Rattle.std.proofs.Common.{ℕ, List, ap, ◌∙◌, w8}
use Rattle.cipher.specs.Ctr.{ctr_from, ctr_at}
use Rattle.cipher.proofs.Arrays.{array_fits}
use Rattle.cipher.proofs.Expanded.{same-cipher}
use Rattle.cipher.proofs.ctr.crypt_at.Goals as goal

pub returns : goal.returns
unfolding ctr_at
returns c =
    let a = c.args in
    let same = same-cipher a.key _ (array_fits w8 16 a.key _ c.well_formed.1.0) (c.new.ensures ∙ c.expand_key-keys.ensures) in
    c.crypt_blocks.ensures ∙ ap (λ (f : List ℕ → List ℕ). ctr_from f a.iv a.count 0 a.buf.now) same
