-- `cipher::ctr::add_front`. The invariant: the bytes before i are done, and those from i on as lent.
use Rattle.std.proofs.Common.{◌≡◌, ◌++◌, length, take, drop}
use Rattle.cipher.specs.Cmac.{xor_bytes}
use Rattle.cipher.proofs.ctr.add_front.Given as goal

abbrev pub invariant-loop-i : goal.invariant-loop-i
invariant-loop-i l =
    (length l.part ≡ length l.initial.part) × (length l.stream ≡ 16)
    × (take l.i l.part ++ xor_bytes (drop l.i l.part) (drop l.i l.stream) ≡ xor_bytes l.initial.part l.stream)
