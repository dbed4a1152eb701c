-- `mix::send::nine_bytes`: each part behind the one before it.
use mathlib.Core.Path.{ap, ◌∙◌}
use mathlib.Core.List.{List}
use Prim.Native.Nat.{ℕ}
use Rattle.buffers.specs.Bytes.{le_bytes, put_at}
use Rattle.mix.proofs.send.nine_bytes.Goals as goal

pub returns : goal.returns
returns c =
    let a = c.args in
    c.put_le_at-2.ensures ∙ ap (λ (l : List ℕ). put_at l 5 (le_bytes 4 a.pan)) c.put_le_at.ensures
