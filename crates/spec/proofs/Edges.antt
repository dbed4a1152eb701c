-- The table and the numerals, by computation.
use mathlib.Core.Path.{refl}
use Rattle.cipher.specs.Kdf.{salt}
use Rattle.spec.specs.Status.{refuse_if, on_ok}
use Rattle.spec.specs.Name.{valid_name_byte, valid_name, key_name}
use Rattle.spec.specs.Record.{valid_flags, metadata, well_formed, sealed_iv, sealed_data, sealed_tag, seal_record, mac_ok, plaintext}
use Rattle.spec.specs.Area.{slot_free, slot_used, slot_valid, slot_holder, make_slot, sized, intact, lookup, has_space, insert_slot, erase_slot}
use Rattle.spec.specs.Decisions.{set_held, set_effect, get_held, read_count, read_output, remove_held, remove_effect}
use Rattle.spec.specs.Calls.{store_set, store_get, store_remove}
use Rattle.spec.specs.Edges.{Edges, Numerals}

pub edges-hold : Edges
unfolding salt refuse_if on_ok valid_name_byte valid_name key_name valid_flags metadata well_formed sealed_iv sealed_data sealed_tag seal_record mac_ok plaintext
    slot_free slot_used slot_valid slot_holder make_slot sized intact lookup has_space insert_slot erase_slot
    set_held set_effect get_held read_count read_output remove_held remove_effect store_set store_get store_remove
edges-hold = refl

pub numerals-hold : Numerals
unfolding refuse_if on_ok valid_name_byte valid_name valid_flags metadata sealed_iv sealed_data sealed_tag seal_record
    slot_free slot_used slot_valid slot_holder make_slot sized intact lookup has_space insert_slot set_held set_effect store_set
numerals-hold = record { place = refl; entry = refl }
