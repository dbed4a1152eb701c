-- The running state as the code of CMAC passes it on: without its key, which is lent.
use Rattle.std.specs.Prelude.{ℕ, List}
use Rattle.cipher.specs.declared.cmac.CmacState.{CmacState}
use Rattle.cipher.specs.declared.cmac.Pending.{Pending}

unfoldable pub state_with : Pending → List ℕ → CmacState
state_with p ks = record { block = p.block; pending = p.count; keys = ks }
