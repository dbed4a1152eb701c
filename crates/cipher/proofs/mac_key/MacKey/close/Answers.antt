-- `cipher::mac_key::MacKey::close`: the closed block, encrypted.
use Rattle.std.proofs.Common.{ℕ, List, ◌∙◌, ap₂}
use Rattle.cipher.specs.Cmac.{double, subkey1, subkey2}
use Rattle.cipher.specs.CmacState.{closed_block, finished}
use Rattle.cipher.specs.Pending.{state_with}
use Rattle.cipher.specs.Columns.{columns_state}
use Rattle.cipher.proofs.States.{encrypted}
use Rattle.cipher.proofs.mac_key.MacKey.close.Goals as goal

pub returns : goal.returns
unfolding finished state_with subkey1 subkey2 columns_state
returns c =
    let last =
    c.close_block-x.ensures
    ∙ ap₂ (λ (p : ℕ) (z : List ℕ). closed_block c.args.from.block p (double z) (double (double z))) c.min.ensures c.args.self.encrypted in
    c.store.ensures ∙ encrypted c.args.self.cipher.keys.now _ _ _ c.encrypt.ensures last
