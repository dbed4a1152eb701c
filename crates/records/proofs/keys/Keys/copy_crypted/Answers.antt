-- `records::keys::Keys::copy_crypted`: counter mode under the name's ENC key, or the data as lent.
use mathlib.Core.Path.{ap₂, ◌∙◌}
use mathlib.Core.List.{List}
use Prim.Native.Nat.{ℕ}
use Rattle.cipher.specs.Ctr.{ctr}
use Rattle.spec.specs.Record.{sealed_data, crypt, enc_key}
use Rattle.records.proofs.keys.Keys.copy_crypted.Goals as goal

pub returns-then-require_confidentiality : goal.returns-then-require_confidentiality
unfolding sealed_data crypt enc_key
returns-then-require_confidentiality c =
    let crypt = c.crypt in
    let derive-encryption-key = c.derive_encryption_key-key in
    let if1 = c.if-require_confidentiality in
    let require-confidentiality = c.require_confidentiality in
    let args = c.args in
    let same = c.copy_from_slice.ensures.after in
    let crypted = crypt.ensures ∙ ap₂ (λ (k v : List ℕ). ctr k args.iv v) derive-encryption-key.ensures same in
    rw (← require-confidentiality.ensures, if1.true) crypted

pub returns-else-require_confidentiality : goal.returns-else-require_confidentiality
unfolding sealed_data
returns-else-require_confidentiality c =
    let require-confidentiality = c.require_confidentiality in
    let args = c.args in
    rw (← require-confidentiality.ensures, c.if-require_confidentiality.false) c.copy_from_slice.ensures.after
