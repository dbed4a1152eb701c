-- `mix::codec::header_bytes`: session number, count, zeros.
use mathlib.Core.Path.{ap}
use mathlib.Core.List.{List}
use Prim.Native.Nat.{ℕ}
use lib.ListN.{set}
use Rattle.mix.proofs.codec.header_bytes.Goals as goal

pub returns : goal.returns
returns c = ap (λ (l : List ℕ). set l 8 c.args.count) c.put_session.ensures
