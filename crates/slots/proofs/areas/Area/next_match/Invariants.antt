-- `slots::areas::Area::next_match`. The invariant: what is found from i on is what is found from the start on.
use mathlib.Core.Path.{◌≡◌}
use Prim.Native.Nat.{◌+◌, ◌≤◌, max}
use lib.ListN.{drop}
use Rattle.spec.specs.Slots.{first_index}
use Rattle.spec.specs.Area.{slots, kv_format}
use Rattle.spec.specs.Calls.{slot_has_prefix}
use Rattle.slots.proofs.areas.Area.next_match.Given as goal

abbrev pub invariant-loop-i : goal.invariant-loop-i
invariant-loop-i l =
    let ss = slots kv_format l.self.bytes.now in
    (l.i ≤ max l.start l.k)
    × (l.i + first_index (slot_has_prefix l.prefix) (drop l.i ss) ≡ l.start + first_index (slot_has_prefix l.prefix) (drop l.start ss))
