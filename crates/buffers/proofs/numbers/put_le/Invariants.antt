-- `buffers::numbers::put_le`. The invariant: the bytes in place, then those of the rest, are the value's.
use mathlib.Core.Path.{◌≡◌}
use mathlib.Core.List.{◌++◌}
use Prim.Native.Nat.{◌-◌}
use lib.ListN.{length, take}
use Rattle.buffers.specs.Bytes.{le_bytes}
use Rattle.buffers.proofs.numbers.put_le.Given as goal

abbrev pub invariant-loop-byte : goal.invariant-loop-byte
invariant-loop-byte l =
    let n = length l.initial.dst in take l.byte-index l.dst ++ le_bytes (n - l.byte-index) l.rest ≡ le_bytes n l.value
