-- One byte fed to a CMAC. Assumes nothing.
use Rattle.std.proofs.Common.{◌≡◌, ℕ, ◌+◌, ◌<◌, ◌≤◌, List, get_or, set, le-ltb, lt-ltb}
use lib.Bits.{bit_xor}
use Rattle.cipher.specs.declared.cmac.CmacState.{CmacState}
use Rattle.cipher.specs.Aes.{encrypt_with}
use Rattle.cipher.specs.CmacState.{fed_byte, xor_at}

abbrev pub state : List ℕ → ℕ → List ℕ → CmacState
state block pending keys = record { block = block; pending = pending; keys = keys }

pub fed_short : (block keys : List ℕ) (pending b : ℕ) → pending < 16
    → fed_byte (state block pending keys) b ≡ state (set block pending (bit_xor (get_or block pending 0) b)) (pending + 1) keys
unfolding fed_byte xor_at
fed_short block keys pending b h = rw (lt-ltb pending 16 h)

pub fed_full : (block keys : List ℕ) (pending b : ℕ) → 16 ≤ pending
    → let e = encrypt_with keys block in fed_byte (state block pending keys) b ≡ state (set e 0 (bit_xor (get_or e 0 0) b)) 1 keys
unfolding fed_byte xor_at
fed_full block keys pending b h = rw (le-ltb pending 16 h)
