-- `slots::slot::put_header`: the bytes before the name.
use mathlib.Core.Path.{◌≡◌, ap, ◌∙◌}
use mathlib.Core.List.{List}
use Prim.Native.Nat.{ℕ}
use native.Mathlib.Omega.{arith}
use borrow.Author.Rules.{rules}
use lib.ListN.{length}
use Rattle.buffers.specs.Bytes.{le_bytes, put_at}
use Rattle.slots.specs.declared.AreaKind.TheVariants.{Kv, Rbp}
use Rattle.slots.proofs.KindLaws.{numbers}
use Rattle.slots.proofs.SlotBytes.{header-kv, header-rbp}
use Rattle.slots.proofs.slot.put_header.Goals as goal

pub paste-requires : goal.paste-requires
paste-requires c = let k = numbers c.args.kind in omega arith

pub put_le_at-requires : goal.put_le_at-requires
put_le_at-requires c =
    let k = numbers c.args.kind in
    search rules

pub returns-in-Kv : goal.returns-in-Kv
returns-in-Kv c =
    let put-le-at = c.put_le_at in
    let paste = c.paste in
    let args = c.args in
    let k = numbers args.kind in
    let e : args.kind ≡ Kv = c.in-Kv.is in
    let over : List ℕ → List ℕ = λ l. put_at l 2 (le_bytes 2 (length args.payload.now)) in
    rw e (put-le-at.ensures ∙ ap over paste.ensures ∙ header-kv args.name.now args.payload.now args.slot.now (omega arith))

pub returns-in-Rbp : goal.returns-in-Rbp
returns-in-Rbp c =
    let paste = c.paste in
    let args = c.args in
    let k = numbers args.kind in
    let e : args.kind ≡ Rbp = c.in-Rbp.is in
    rw e (paste.ensures ∙ header-rbp args.name.now args.payload.now args.slot.now (omega arith))
