-- `keys::persist::save_persistent_key`: 13 for the material, then as set.
use mathlib.Core.Path.{ap, ◌∙◌}
use mathlib.Core.List.{List}
use Prim.Native.Nat.{ℕ}
use lib.ListN.{length}
use borrow.Author.Tests.{le-leb, lt-leb}
use Rattle.spec.specs.Name.{key_name}
use Rattle.spec.specs.Calls.{store_set}
use Rattle.keys.specs.Calls.{save_key}
use Rattle.keys.proofs.Written.{file-part}
use Rattle.keys.proofs.persist.save_persistent_key.Goals as goal

pub returns-then-material-gt-MAX_KEY_MATERIAL : goal.returns-then-material-gt-MAX_KEY_MATERIAL
unfolding save_key
returns-then-material-gt-MAX_KEY_MATERIAL c =
    let a = c.args in
    rw (lt-leb (length a.material.now) 444 c.if-material-gt-MAX_KEY_MATERIAL.true)

pub returns : goal.returns
unfolding save_key
returns c =
    let a = c.args in
    let m = a.material.now in
    let part = file-part a.attributes m _ _ c.put_key_file.ensures in
    rw (le-leb (length m) 444 c.if-material-gt-MAX_KEY_MATERIAL.false)
    (c.set_key.ensures
    ∙ ap (λ (f : List ℕ). store_set a.kv.now a.rbp.now a.device_key.now (key_name a.key_id) a.flags a.iv.now f) part)
