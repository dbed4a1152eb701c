-- `records::seal::put_metadata`: each field stands behind the one before it.
use mathlib.Core.Path.{refl, ap, ◌∙◌}
use mathlib.Core.List.{List, ◌++◌}
use Prim.Native.Nat.{ℕ, ◌+◌}
use lib.ListN.{drop}
use mir.Syntax.{w8}
use borrow.Kind.Array.{e_int, good_length}
use Rattle.spec.specs.Record.{metadata}
use Rattle.buffers.specs.Bytes.{le_bytes, put_at}
use Rattle.buffers.proofs.Lists.{put_next}
use Rattle.records.proofs.seal.put_metadata.Goals as goal

pub returns : goal.returns
unfolding metadata
returns c =
    let a = c.args in
    let d = a.dst.now in
    let iv_is_sized = good_length (e_int w8) 8 a.iv _ c.well_formed.1.1.0 in
    let size = le_bytes 4 a.data_size in
    let flags = le_bytes 4 a.flags in
    let f2 = le_bytes 2 20 ++ le_bytes 2 1 in
    let over : (at : ℕ) (s : List ℕ) → List ℕ → List ℕ = λ at s l. put_at l at s in
    let w2 = c.put_le_at-2.ensures ∙ ap (over 2 (le_bytes 2 1)) c.put_le_at.ensures ∙ put_next d (le_bytes 2 20) (le_bytes 2 1) 2 refl in
    let w3 = c.put_le_at-3.ensures ∙ ap (over 4 size) w2 ∙ put_next d f2 size 4 refl in
    let w4 = c.put_le_at-4.ensures ∙ ap (over 8 flags) w3 ∙ put_next d (f2 ++ size) flags 8 refl in
    let f4 = (f2 ++ size) ++ flags in
    let w5 = c.paste.ensures ∙ ap (over 12 a.iv) w4 ∙ put_next d f4 a.iv 12 refl in
    w5 ∙ ap (λ (k : ℕ). (f4 ++ a.iv) ++ drop (12 + k) d) iv_is_sized
