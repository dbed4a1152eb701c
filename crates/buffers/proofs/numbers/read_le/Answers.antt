-- `buffers::numbers::read_le`: the bytes joined from the last to the first.
use mathlib.Core.Path.{◌≡◌, ◌∙◌}
use mathlib.Core.List.{reverse}
use Prim.Native.Nat.{◌*◌, ◌%◌, ◌^◌}
use lib.Bits.{bit_or}
use Rattle.std.specs.List.{fold}
use Rattle.std.proofs.Common.{rules}
use Rattle.std.proofs.iter.runs.Made.{chains}
use Rattle.buffers.proofs.LittleEndian.{joined}
use Rattle.buffers.proofs.numbers.read_le.Goals as goal

pub returns : goal.returns
returns c =
    let value : c.fold.result ≡ fold (λ v b. bit_or (v * 2 ^ 8 % 2 ^ 32) b) 0 (reverse c.args.src.now) = search (rules, chains) in
    value ∙ joined c.args.src.now c.requires (λ i. (c.type_inv.src i).fits)
