-- `keys::key_name::key_digits`. The invariant: the digits still to come, then those in place, are the identifier's.
use Rattle.std.proofs.Common.{◌≡◌, ◌++◌, length, drop}
use Rattle.spec.specs.Name.{hex_digits}
use Rattle.keys.proofs.key_name.key_digits.Given as goal

abbrev pub invariant-loop-i : goal.invariant-loop-i
invariant-loop-i l = (length l.digits ≡ 16) × (hex_digits l.i l.rest ++ drop l.i l.digits ≡ hex_digits 16 l.key_id)
