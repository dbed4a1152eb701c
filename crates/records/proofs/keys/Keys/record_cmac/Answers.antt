-- `records::keys::Keys::record_cmac`: the CMAC under the name's AUTH key.
use mathlib.Core.Path.{ap, ◌∙◌}
use mathlib.Core.List.{List, ◌++◌}
use Prim.Native.Nat.{ℕ}
use Rattle.cipher.specs.Cmac.{cmac}
use Rattle.spec.specs.Record.{auth_key}
use Rattle.records.specs.Parts.{cmac_over}
use Rattle.records.proofs.keys.Keys.record_cmac.Goals as goal

pub returns : goal.returns
unfolding cmac_over auth_key
returns c =
    let derive-authentication-key = c.derive_authentication_key-key in
    let args = c.args in
    let tag : List ℕ → List ℕ = λ k. cmac k (args.self.now.name.now ++ args.covered.now) in
    c.tag_parts.ensures ∙ ap tag derive-authentication-key.ensures
