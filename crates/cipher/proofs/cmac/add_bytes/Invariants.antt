-- `cipher::cmac::add_bytes`. The invariant: what is left of the data, added to the present sum, gives what all of it gives.
use Rattle.std.proofs.Common.{◌≡◌, ◌+◌, length, drop}
use Rattle.cipher.specs.CmacState.{xor_from}
use Rattle.cipher.proofs.cmac.add_bytes.Given as goal

abbrev pub invariant-loop-i : goal.invariant-loop-i
invariant-loop-i l = (length l.sum ≡ 16) × (xor_from l.sum (l.at + l.i) (drop l.i l.«data») ≡ xor_from l.initial.sum l.at l.«data»)
