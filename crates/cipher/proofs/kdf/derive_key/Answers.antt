-- `cipher::kdf::derive_key`: under the key's expansion.
use Rattle.std.proofs.Common.{◌∙◌}
use Rattle.cipher.proofs.kdf.derive_key.Goals as goal

pub derive-requires : goal.derive-requires
derive-requires c = c.new-2.ensures ∙ c.new.ensures ∙ c.expand_key-keys.ensures
