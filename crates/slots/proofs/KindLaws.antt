-- What both kinds of area obey.
use mathlib.Core.Path.{◌≡◌, refl}
use Prim.Native.Nat.{◌+◌, ◌≤◌}
use native.Mathlib.Omega.{arith}
use Rattle.slots.specs.declared.AreaKind.{AreaKind}
use Rattle.slots.specs.declared.AreaKind.TheVariants.{Kv, Rbp}
use Rattle.spec.proofs.Slot.{FormatLaws, kv-laws, rbp-laws}
use Rattle.slots.specs.Kind.{format_of}

pub kind-laws : (k : AreaKind) → FormatLaws (format_of k)
kind-laws Kv = kv-laws
kind-laws Rbp = rbp-laws

-- the numbers, so far as an index needs them
pub record Numbers (k : AreaKind) : Type 0 where
  pub name : 2 ≤ (format_of k).name_offset
  pub payload : (format_of k).payload_offset ≡ (format_of k).name_offset + 64
  pub room : (format_of k).payload_offset + 16 ≤ (format_of k).slot_size
  pub size : (format_of k).slot_size ≤ 584
  pub length : (format_of k).slot_size ≤ (format_of k).payload_offset + 516

pub numbers : (k : AreaKind) → Numbers k
numbers Kv = record { name = omega arith; payload = refl; room = omega arith; size = omega arith; length = omega arith }
numbers Rbp = record { name = omega arith; payload = refl; room = omega arith; size = omega arith; length = omega arith }
