-- `keys::format::format_key_file`: two tests, then the file.
use mathlib.Core.Path.{sym, ap, ◌∙◌}
use mathlib.Core.List.{◌++◌}
use Prim.Native.Nat.{ℕ}
use native.Mathlib.Omega.{arith}
use lib.ListN.{drop}
use Rattle.keys.specs.KeyFile.{format_key_file}
use Rattle.keys.specs.Calls.{format_tests, write_key_file}
use Rattle.spec.proofs.Status.{answer-refused, answer-done}
use Rattle.keys.proofs.Written.{file-length, short_buffer, long-material, writes}
use Rattle.keys.proofs.format.format_key_file.Goals as goal

pub returns-then-key_buf-lt-MAX_KEY_FILE : goal.returns-then-key_buf-lt-MAX_KEY_FILE
unfolding write_key_file format_tests
returns-then-key_buf-lt-MAX_KEY_FILE c =
    let buf = c.args.key_buf.now in
    answer-refused 1 _ _ buf (short_buffer buf _ c.if-key_buf-lt-MAX_KEY_FILE.true) (omega arith)

pub returns-then-material-gt-MAX_KEY_MATERIAL : goal.returns-then-material-gt-MAX_KEY_MATERIAL
unfolding write_key_file
returns-then-material-gt-MAX_KEY_MATERIAL c =
    let a = c.args in
    let buf = a.key_buf.now in
    answer-refused 13 _ _ buf (long-material a.material.now buf c.if-key_buf-lt-MAX_KEY_FILE.false c.if-material-gt-MAX_KEY_MATERIAL.true) (omega arith)

pub returns : goal.returns
unfolding write_key_file
returns c =
    let a = c.args in
    let buf = a.key_buf.now in
    let m = a.material.now in
    let f = format_key_file a.attributes m in
    let n = sym (file-length a.attributes m) in
    answer-done _ _ f buf _ (writes m buf c.if-key_buf-lt-MAX_KEY_FILE.false c.if-material-gt-MAX_KEY_MATERIAL.false) n (c.put_key_file.ensures ∙ ap (λ (k : ℕ). f ++ drop k buf) n)
