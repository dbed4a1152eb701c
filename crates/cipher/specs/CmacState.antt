-- 01: a CMAC is begun, fed and finished, and its running state is handed back by value each time. The state is the chaining block with the
-- pending bytes already added to it, how many those are (01: "fill"), and the expanded key.
use Rattle.std.specs.Prelude.{ℕ, suc, ◌+◌, min, cond, List, [], ◌∷◌, replicate, bit_xor, nat_lt, slice_index, slice_set}
use mathlib.Core.List.{foldl}
use Rattle.cipher.specs.declared.cmac.CmacState.{CmacState}
use Rattle.cipher.specs.Aes.{expand_key, encrypt_with}
use Rattle.cipher.specs.Cmac.{xor_bytes, subkey1, subkey2}

-- the state for a 16-byte key
unfoldable pub keyed : List ℕ → CmacState
keyed key = record { block = replicate 16 0; pending = 0; keys = expand_key key }

-- a state for a new message under the same key
unfoldable pub begun : CmacState → CmacState
begun s = record { block = replicate 16 0; pending = 0; keys = s.keys }

-- 01: a state that claims more pending bytes than a block holds is taken as holding one full block
unfoldable pub clamped : CmacState → CmacState
clamped s = record { block = s.block; pending = min s.pending 16; keys = s.keys }

-- byte i of a block with b added to it
unfoldable pub xor_at : List ℕ → ℕ → ℕ → List ℕ
xor_at l i b = slice_set l i (bit_xor (slice_index l i) b)

-- bytes added from place p on
abbrev pub xor_from : List ℕ → ℕ → List ℕ → List ℕ
xor_from c p [] = c
xor_from c p (b ∷ w) = xor_from (xor_at c p b) (suc p) w

-- One byte more. A full block is encrypted only now, since it may have been the last one.
unfoldable pub fed_byte : CmacState → ℕ → CmacState
fed_byte s b =
    cond (nat_lt s.pending 16)
    (record { block = xor_at s.block s.pending b; pending = s.pending + 1; keys = s.keys })
    (record { block = xor_at (encrypt_with s.keys s.block) 0 b; pending = 1; keys = s.keys })

unfoldable pub fed : CmacState → List ℕ → CmacState
fed s m = foldl fed_byte (clamped s) m

-- the last block, made whole and added: K1 for a full one, the bit 1 and K2 for another
unfoldable pub closed_block : List ℕ → ℕ → List ℕ → List ℕ → List ℕ
closed_block block pending k1 k2 = cond (nat_lt pending 16) (xor_bytes (xor_at block pending 0x80) k2) (xor_bytes block k1)

-- the state after the message's end: its block is the tag
unfoldable pub finished : CmacState → CmacState
finished s =
    let ciph = encrypt_with s.keys in
    record { block = ciph (closed_block s.block (min s.pending 16) (subkey1 ciph) (subkey2 ciph)); pending = 0; keys = s.keys }
