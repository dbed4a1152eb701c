-- 01, "Edges to try", those marked P, what 02, No. 1, makes of the one for 0x20, and the order of No. 7: one table of what the definitions give and what the
-- papers say, and one statement, that the two columns are equal (`edges`, `Edges`). Beside it a place and an entry in numerals (`Numerals`), since in 01's
-- "whole" several fields are alike. Calls are made under the all-zero device key, and but for those of No. 7 on one blank slot of each kind.
use Rattle.std.specs.Prelude.{◌≡◌, List, [], ◌∷◌, ◌++◌, map, ℕ, take, drop, replicate}
use Rattle.std.proofs.Math.Option.{some}
use Rattle.cipher.specs.Kdf.{salt, enc_prefix, auth_prefix}
use Rattle.spec.specs.Name.{Name, key_name}
use Rattle.spec.specs.Area.{rbp_format, lookup}
use Rattle.spec.specs.Layout.{record_bytes, place_bytes, entry_bytes}
use Rattle.spec.specs.Calls.{store_set, store_get, store_remove}

-- "a"; 29 bytes, the last one unlike the others
abbrev pub name_a : Name
name_a = 0x61 ∷ []

abbrev pub name29 : Name
name29 = replicate 28 0x61 ++ 0x62 ∷ []

-- a blank card and chip
abbrev pub blank_kv : List ℕ
blank_kv = replicate 584 0

abbrev pub blank_rbp : List ℕ
blank_rbp = replicate 82 0

-- the status of a set of a name, flags and data; the card after a set of "a" with flags 0
abbrev pub set_status : Name → ℕ → List ℕ → List ℕ
set_status name flags value = (store_set blank_kv blank_rbp (replicate 16 0) name flags (replicate 8 0) value).answer.status ∷ []

abbrev pub kv_after : List ℕ → List ℕ
kv_after value = (store_set blank_kv blank_rbp (replicate 16 0) name_a 0 (replicate 8 0) value).after.kv

-- the status and the count of a get at an offset, after a set of three bytes
abbrev pub read_at : ℕ → List ℕ
read_at offset =
    let a = (store_get (kv_after (1 ∷ 2 ∷ 3 ∷ [])) blank_rbp (replicate 16 0) name_a offset (replicate 8 0)).answer in
    a.status ∷ a.numbers

-- cards and chips of these names, in this order, the empty name for a free slot; the status of a get of "a" there
abbrev pub card_of : List Name → List ℕ
card_of [] = []
card_of ([] ∷ ns) = replicate 584 0 ++ card_of ns
card_of ((b ∷ n) ∷ ns) = place_bytes (b ∷ n) (record_bytes 0 0 (replicate 8 0) [] (replicate 16 0)) ++ card_of ns

abbrev pub chip_of : List Name → List ℕ
chip_of [] = []
chip_of ([] ∷ ns) = replicate 82 0 ++ chip_of ns
chip_of ((b ∷ n) ∷ ns) = entry_bytes (b ∷ n) (replicate 16 7) ++ chip_of ns

abbrev pub get_on : List Name → List Name → List ℕ
get_on card chip = (store_get (card_of card) (chip_of chip) (replicate 16 0) name_a 0 []).answer.status ∷ []

-- such a card after a set of a name with flags 0 and no data, and after a remove
abbrev pub set_on : List Name → Name → List ℕ
set_on card name = (store_set (card_of card) blank_rbp (replicate 16 0) name 0 (replicate 8 0) []).after.kv

abbrev pub remove_on : List Name → Name → List ℕ
remove_on card name = (store_remove (card_of card) blank_rbp name).after.kv

-- "b", "ab"
abbrev pub name_b : Name
name_b = 0x62 ∷ []

abbrev pub name_ab : Name
name_ab = 0x61 ∷ 0x62 ∷ []

abbrev pub edges : List (List ℕ × List ℕ)
edges =
    -- a name of 64 bytes: good; 0 or 65: 3; by 02, No. 1, a byte 0x20, 0x80 or 0xff: good; 0x1f or 0x7f: 3; one space: good
    (set_status (replicate 64 0x61) 0 [], 0 ∷ [])
    ∷ (set_status [] 0 [], 3 ∷ [])
    ∷ (set_status (replicate 65 0x61) 0 [], 3 ∷ [])
    ∷ (set_status (0x61 ∷ 0x20 ∷ []) 0 [], 0 ∷ [])
    ∷ (set_status (0x61 ∷ 0x1f ∷ []) 0 [], 3 ∷ [])
    ∷ (set_status (0x61 ∷ 0x7f ∷ []) 0 [], 3 ∷ [])
    ∷ (set_status (0x61 ∷ 0x80 ∷ []) 0 [], 0 ∷ [])
    ∷ (set_status (0x61 ∷ 0xff ∷ []) 0 [], 0 ∷ [])
    ∷ (set_status (0x20 ∷ []) 0 [], 0 ∷ [])
    -- data of 480: record length 516, bytes 04 02; 481: 5
    ∷ (take 2 (drop 2 (kv_after (replicate 480 0))), 0x04 ∷ 0x02 ∷ [])
    ∷ (set_status name_a 0 (replicate 480 0), 0 ∷ [])
    ∷ (set_status name_a 0 (replicate 481 0), 5 ∷ [])
    -- flags 8: 4; flags 12: good; flags 16: 4
    ∷ (set_status name_a 8 [], 4 ∷ [])
    ∷ (set_status name_a 12 [], 0 ∷ [])
    ∷ (set_status name_a 16 [], 4 ∷ [])
    -- whole: name "a", flags 0, empty data
    ∷ (kv_after [], 0x01 ∷ 0x01 ∷ 0x24 ∷ 0x00 ∷ 0x61 ∷ (replicate 63 0 ++ 0x14 ∷ 0x00 ∷ 0x01 ∷ 0x00 ∷ replicate 512 0))
    -- salt for a name of 29 bytes: "AUTH" drops its last byte, "ENC" keeps all
    ∷ (salt auth_prefix name29, 0x41 ∷ 0x55 ∷ 0x54 ∷ 0x48 ∷ replicate 28 0x61)
    ∷ (salt enc_prefix name29, 0x45 ∷ 0x4e ∷ 0x43 ∷ (replicate 28 0x61 ++ 0x62 ∷ []))
    -- 02, No. 7: in order of names, on card and chip; out of order, a free slot in front, a name twice, a prefix behind, signed bytes: 2
    ∷ (get_on (name_a ∷ name_b ∷ []) ([] ∷ []), 0 ∷ [])
    ∷ (get_on (name_a ∷ name_ab ∷ []) (name_b ∷ []), 0 ∷ [])
    ∷ (get_on (name_b ∷ name_a ∷ []) ([] ∷ []), 2 ∷ [])
    ∷ (get_on ([] ∷ name_a ∷ []) ([] ∷ []), 2 ∷ [])
    ∷ (get_on (name_a ∷ name_a ∷ []) ([] ∷ []), 2 ∷ [])
    ∷ (get_on (name_ab ∷ name_a ∷ []) ([] ∷ []), 2 ∷ [])
    ∷ (get_on (name_a ∷ (0x80 ∷ []) ∷ []) ([] ∷ []), 0 ∷ [])
    ∷ (get_on ((0x80 ∷ []) ∷ name_a ∷ []) ([] ∷ []), 2 ∷ [])
    ∷ (get_on (name_a ∷ []) (name_b ∷ name_ab ∷ []), 2 ∷ [])
    ∷ (get_on (name_a ∷ []) ([] ∷ name_b ∷ []), 2 ∷ [])
    -- a new name in front, between and behind a prefix, last; a known one stays; a full card stays as it is; one that is removed leaves no hole
    ∷ (set_on (name_ab ∷ name_b ∷ [] ∷ []) name_a, card_of (name_a ∷ name_ab ∷ name_b ∷ []))
    ∷ (set_on (name_a ∷ name_b ∷ [] ∷ []) name_ab, card_of (name_a ∷ name_ab ∷ name_b ∷ []))
    ∷ (set_on (name_a ∷ [] ∷ []) (0xff ∷ []), card_of (name_a ∷ (0xff ∷ []) ∷ []))
    ∷ (set_on (name_a ∷ name_b ∷ []) name_b, card_of (name_a ∷ name_b ∷ []))
    ∷ (set_on (name_a ∷ name_b ∷ []) name_ab, card_of (name_a ∷ name_b ∷ []))
    ∷ (remove_on (name_a ∷ name_ab ∷ name_b ∷ []) name_a, card_of (name_ab ∷ name_b ∷ [] ∷ []))
    ∷ (remove_on (name_a ∷ name_b ∷ []) name_b, card_of (name_a ∷ [] ∷ []))
    -- offset equal to data size: done, count 0; one more: 14
    ∷ (read_at 3, 0 ∷ 0 ∷ [])
    ∷ (read_at 4, 14 ∷ 0 ∷ [])
    -- key 42 is kept under 000000000000002a
    ∷ (key_name 42, replicate 14 0x30 ++ 0x32 ∷ 0x61 ∷ [])
    ∷ []

abbrev pub Edges : Type 0
Edges = map (λ row. row.0) edges ≡ map (λ row. row.1) edges

-- one place and one entry more in numerals that are all unlike, so that no two fields can stand for each other: what a set of "ab", flags 1, data
-- 07 08 09 leaves on the card; and a chip that holds "ab", which a get then finds
pub record Numerals : Type 0 where
  pub place : (store_set blank_kv blank_rbp (replicate 16 0) (0x61 ∷ 0x62 ∷ []) 1 (replicate 8 9) (7 ∷ 8 ∷ 9 ∷ [])).after.kv
      ≡ 0x01 ∷ 0x02 ∷ 0x27 ∷ 0x00 ∷ 0x61 ∷ 0x62 ∷ (replicate 62 0 ++ 0x14 ∷ 0x00 ∷ 0x01 ∷ 0x00 ∷ 0x03 ∷ 0x00 ∷ 0x00 ∷ 0x00
      ∷ 0x01 ∷ 0x00 ∷ 0x00 ∷ 0x00 ∷ (replicate 8 0 ++ 7 ∷ 8 ∷ 9 ∷ replicate 493 0))
  pub entry : lookup rbp_format (0x01 ∷ 0x02 ∷ 0x61 ∷ 0x62 ∷ (replicate 62 0 ++ 1 ∷ 2 ∷ 3 ∷ 4 ∷ 5 ∷ 6 ∷ 7 ∷ 8 ∷ 9 ∷ 10 ∷ 11 ∷ 12 ∷ 13 ∷ 14 ∷ 15 ∷ 16 ∷ []))
      (0x61 ∷ 0x62 ∷ []) ≡ some (1 ∷ 2 ∷ 3 ∷ 4 ∷ 5 ∷ 6 ∷ 7 ∷ 8 ∷ 9 ∷ 10 ∷ 11 ∷ 12 ∷ 13 ∷ 14 ∷ 15 ∷ 16 ∷ [])
