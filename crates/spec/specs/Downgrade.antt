-- 02, No. 4, "A record that disowns its protection": what an entry of the chip gives for its name, whatever card is put in.
--   Vouched           the card's record of a name: it has flag 8, it verifies, and its CMAC is the chip's entry
--   OldCardRefused    of a name that the chip holds no other record is given out
--   OldCardLater      so after a done set with flag 8 none but one with that set's CMAC, until the name is set or removed again
--   EntryKept         what a remove of a record without flag 8 leaves
--   EntryLost         what alone takes an entry out of the chip
--   plants, Planted   the bench's plant in numbers: what the definitions give and what the papers say
use Rattle.std.specs.Prelude.{◌≡◌, ◌≢◌, true, false, ℕ, length, replicate}
use mathlib.Core.List.{List, [], ◌∷◌, ◌++◌, map, Memᴰ}
use Rattle.std.proofs.Math.Option.{none, some}
use Rattle.cipher.specs.Cmac.{cmac}
use Rattle.cipher.specs.Kdf.{derived_key, auth_prefix}
use Rattle.spec.specs.Status.{Answer}
use Rattle.spec.specs.Record.{require_replay_protection, flags_of, metadata_of, stored_data_of, tag_of, well_formed}
use Rattle.spec.specs.Area.{kv_format, rbp_format, lookup}
use Rattle.spec.specs.Layout.{record_bytes, place_bytes, entry_bytes}
use Rattle.spec.specs.Interleaving.{Outcome, final}
use Rattle.spec.specs.Calls.{areas, store_set, store_get, store_get_info, store_remove}
use Rattle.spec.specs.Model.{Call, remove_call, call_name, store_step}
use Rattle.spec.specs.Demand2.{done, tag_made, Cleared}
use Rattle.spec.specs.Demand3.{is_set}
use Rattle.spec.specs.Edges.{name_a, blank_kv}

pub record Vouched (kv key name entry : List ℕ) : Type 0 where
  pub r : List ℕ
  pub found : lookup kv_format kv name ≡ some r
  pub valid : well_formed r ≡ true
  pub flagged : require_replay_protection (flags_of r) ≡ true
  pub authentic : tag_of r ≡ cmac (derived_key key auth_prefix name) (name ++ (metadata_of r ++ stored_data_of r))
  pub fresh : tag_of r ≡ entry

-- for every chip that holds an entry of a name, every card whatsoever and every device key; by a get and by an info
abbrev pub OldCardRefused : Type 0
OldCardRefused = (rbp name entry : List ℕ) → lookup rbp_format rbp name ≡ some entry → (kv key : List ℕ)
    → ((offset : ℕ) (output : List ℕ) → (store_get kv rbp key name offset output).answer.status ≡ 0 → Vouched kv key name entry)
    × ((store_get_info kv rbp key name).answer.status ≡ 0 → Vouched kv key name entry)

-- after the set any calls, none a set or a remove of the name, each on whatever card is in the box by then, so that only the chip is handed on; then a get,
-- on any card too
abbrev pub OldCardLater : Type 0
OldCardLater = (kv rbp key name : List ℕ) (flags : ℕ) (iv value : List ℕ) → let o = store_set kv rbp key name flags iv value in
    o.answer.status ≡ 0 → require_replay_protection flags ≡ true
    → (calls : List (List ℕ × Call))
    → ((x : List ℕ × Call) → Memᴰ x calls → name ≡ call_name x.1 → (is_set x.1 ≡ false) × (x.1 ≢ remove_call name))
    → let step : List ℕ → List ℕ × Call → Outcome (List ℕ) Answer = λ chip x.
    let p = store_step (areas x.0 chip) x.1 in record { answer = p.answer; after = p.after.rbp } in
    (card key' : List ℕ) (offset : ℕ) (output : List ℕ) → (store_get card (final step o.after.rbp calls) key' name offset output).answer.status ≡ 0
    → Vouched card key' name (tag_made key name flags iv value)

-- "Remove of such a record clears the card's place and keeps the chip's entry": a get of the name, with a key of 16 bytes, then gives 12
pub record EntryKept (kv rbp name : List ℕ) : Type 0 where
  pub slot : Cleared kv_format kv name (store_remove kv rbp name).after.kv
  pub entry : (store_remove kv rbp name).after.rbp ≡ rbp
  pub then_get : (key : List ℕ) (offset : ℕ) (output : List ℕ) → length key ≡ 16
      → (store_get (store_remove kv rbp name).after.kv (store_remove kv rbp name).after.rbp key name offset output).answer.status ≡ 12

-- the call that took a name's entry out of the chip: a remove of the name, where the card's record of it has flag 8. A reset, which is no call on a name,
-- clears all.
pub record EntryLost (kv name : List ℕ) (c : Call) : Type 0 where
  pub call : c ≡ remove_call name
  pub r : List ℕ
  pub found : lookup kv_format kv name ≡ some r
  pub flagged : require_replay_protection (flags_of r) ≡ true

-- ---- the bench's plant: one slot of each kind, under the all-zero device key

-- the chip holds "a"; a card that has a record of a name with these flags, three bytes and no CMAC
abbrev pub chip_of_a : List ℕ
chip_of_a = entry_bytes name_a (replicate 16 5)

abbrev pub card_with : List ℕ → ℕ → List ℕ
card_with name flags = place_bytes name (record_bytes 3 flags (replicate 8 0) (1 ∷ 2 ∷ 3 ∷ []) (replicate 16 0))

-- the status of a get, an info and a set of "a" beside that chip
abbrev pub got_at : ℕ → ℕ → ℕ
got_at flags offset = (store_get (card_with name_a flags) chip_of_a (replicate 16 0) name_a offset (9 ∷ 9 ∷ [])).answer.status

abbrev pub info_of : ℕ → ℕ
info_of flags = (store_get_info (card_with name_a flags) chip_of_a (replicate 16 0) name_a).answer.status

abbrev pub set_on : List ℕ → ℕ → ℕ
set_on kv flags = (store_set kv chip_of_a (replicate 16 0) name_a flags (replicate 8 0) (7 ∷ [])).answer.status

abbrev pub plants : List (ℕ × ℕ)
plants =
    -- flags 0 and 1: at the front, at the end of the data, and past it, where 12 comes before 14
    (got_at 0 0, 12) ∷ (got_at 0 3, 12) ∷ (got_at 0 4, 12) ∷ (got_at 1 0, 12) ∷ (got_at 1 4, 12) ∷ (info_of 0, 12) ∷ (info_of 1, 12)
    -- set again with the same flags; with write once; of a record that is; with other flags
    ∷ (set_on (card_with name_a 0) 0, 12) ∷ (set_on (card_with name_a 0) 1, 7) ∷ (set_on (card_with name_a 1) 0, 7) ∷ (set_on (card_with name_a 0) 12, 9)
    -- a stale entry: on a blank card, and on one that another name fills, where 12 comes before 10
    ∷ (set_on blank_kv 0, 12) ∷ (set_on blank_kv 1, 7) ∷ (set_on blank_kv 12, 0)
    ∷ (set_on (card_with (0x62 ∷ []) 0) 0, 12) ∷ (set_on (card_with (0x62 ∷ []) 0) 1, 7) ∷ (set_on (card_with (0x62 ∷ []) 0) 12, 10)
    ∷ []

pub record Planted : Type 0 where
  pub numbers : map (λ row. row.0) plants ≡ map (λ row. row.1) plants
  -- a remove of the planted record
  pub removed : store_remove (card_with name_a 0) chip_of_a name_a ≡ done (areas blank_kv chip_of_a) [] []

pub record Downgrade : Type 0 where
  pub old_card_refused : OldCardRefused
  pub old_card_later : OldCardLater
  pub entry_kept : (kv rbp name r entry : List ℕ) → lookup kv_format kv name ≡ some r → require_replay_protection (flags_of r) ≡ false
      → lookup rbp_format rbp name ≡ some entry → (store_remove kv rbp name).answer.status ≡ 0 → EntryKept kv rbp name
  pub entry_lost : (kv rbp name entry : List ℕ) (c : Call) → lookup rbp_format rbp name ≡ some entry
      → lookup rbp_format (store_step (areas kv rbp) c).after.rbp name ≡ none → EntryLost kv name c
  pub planted : Planted
