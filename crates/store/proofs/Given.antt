-- What a name has, as the code hands it on. Assumes nothing.
use mathlib.Core.Path.{◌≡◌, refl, sym, ◌∙◌}
use mathlib.Core.Bool.{Bool, true, false, cond}
use mathlib.Core.List.{List, []}
use mathlib.Core.Option.{Option, none, some}
use Prim.Native.Nat.{ℕ}
use Rattle.std.specs.Prelude as rust
use Rattle.std.specs.Borrow.{Bor}
use Rattle.buffers.specs.Bytes.{is_some}
use Rattle.spec.specs.Area.{Format, intact, lookup, slot_payload}
use Rattle.spec.specs.Status.{first_of}
use Rattle.spec.specs.Record.{require_replay_protection}
use Rattle.spec.specs.Request.{Room}
use Rattle.spec.specs.Decisions.{record_of, set_held, space_tests}
use Rattle.slots.specs.declared.areas.Found.{Found}
use Rattle.slots.specs.Found.{found_in, slot_at, payload}
use Rattle.store.specs.declared.judge.Held.{Held}
use Rattle.store.specs.Parts.{option_of, given, given_if, binding, binding_given, keyless_tests}
use Rattle.store.proofs.Judged.{held-is, payload-is}

pub some_option : {A : Type 0} (o : rust.Option A) → is_some (option_of o) ≡ rust.is_some o
some_option rust.None = refl
some_option (rust.Some x) = refl

some_given : (o : rust.Option (Bor (List ℕ))) → is_some (given o) ≡ rust.is_some o
some_given rust.None = refl
some_given (rust.Some x) = refl

pub in_chip_given : (held : Bool) (bytes : List ℕ) → is_some (given_if held bytes) ≡ held
in_chip_given true bytes = refl
in_chip_given false bytes = refl

-- what is asked of a name comes to the same, whether or not the entry's bytes are at hand
module _ (held : Held) (tag_held : Bool) (e : tag_held ≡ rust.is_some held.tag) where
  asked : is_some (given_if tag_held []) ≡ is_some (option_of held.tag)
  asked = in_chip_given tag_held [] ∙ e ∙ sym (some_option held.tag)

  pub keyless_given : first_of (keyless_tests (binding_given (given held.stored) tag_held)) ≡ first_of (keyless_tests (binding held))
  keyless_given = rw asked

  pub set_given : (flags : ℕ) → first_of (set_held require_replay_protection flags (binding_given (given held.stored) tag_held)) ≡ first_of (set_held require_replay_protection flags (binding held))
  unfolding set_held
  set_given flags = rw asked

  pub space_given : (flags : ℕ) (card : Bool) (room : Room) → card ≡ rust.is_some held.stored
      → first_of (space_tests require_replay_protection flags (binding_given (given_if card []) tag_held) room) ≡ first_of (space_tests require_replay_protection flags (binding held) room)
  space_given flags card room h = rw (asked, in_chip_given card [] ∙ h ∙ sym (some_given held.stored))

given_is : (o : Option (List ℕ)) (held : Bool) (bytes : List ℕ) → held ≡ is_some o → cond held bytes [] ≡ record_of o
    → option_of (cond held (rust.Some bytes) rust.None) ≡ o
given_is none held bytes h b = rw h
given_is (some r) held bytes h b = let k = rw h at b in rw (h, k)

-- what is read at the slot that a search found
pub payload_known : (F : Format) (l name : List ℕ) (f : Found) → f ≡ found_in F l name → intact F l ≡ true → option_of (payload F l f) ≡ lookup F l name
payload_known F l name f e g = given_is (lookup F l name) f.held (slot_payload F (slot_at F l f.at)) (held-is F l name f e) (payload-is F l name f e g _ refl)
