-- SP 800-108, 5.1: key derivation in counter mode over CMAC, one block of output, with 01's salt and lengths.
use Rattle.std.specs.Prelude.{ℕ, List, [], ◌∷◌, ◌++◌, take}
use Rattle.cipher.specs.Cmac.{cmac}

-- 01: "ENC", "AUTH"
abbrev pub enc_prefix : List ℕ
enc_prefix = 0x45 ∷ 0x4e ∷ 0x43 ∷ []

abbrev pub auth_prefix : List ℕ
auth_prefix = 0x41 ∷ 0x55 ∷ 0x54 ∷ 0x48 ∷ []

-- 01: the prefix, then the name, cut so that the whole salt has at most 32 bytes
unfoldable pub salt : List ℕ → List ℕ → List ℕ
salt prefix name = take 32 (prefix ++ name)

-- [1]_8 ‖ Label ‖ 0x00 ‖ [L]_32, with an empty Context and L = 128. The Label is the salt.
unfoldable pub labelled : List ℕ → List ℕ
labelled label = 1 ∷ label ++ 0 ∷ 0 ∷ 0 ∷ 0 ∷ 0x80 ∷ []

-- K(1) = PRF(K, [1]_8 ‖ Label ‖ 0x00 ‖ [L]_32)
unfoldable pub kdf : List ℕ → List ℕ → List ℕ
kdf key label = cmac key (labelled label)

-- 01: the key derived from the device key for a prefix and a name
unfoldable pub derived_key : List ℕ → List ℕ → List ℕ → List ℕ
derived_key key prefix name = kdf key (salt prefix name)
