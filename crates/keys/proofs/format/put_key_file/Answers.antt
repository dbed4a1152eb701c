-- `keys::format::put_key_file`: the material stands behind the header.
use mathlib.Core.Path.{refl}
use lib.ListN.{length}
use Rattle.keys.specs.KeyFile.{key_file_header, format_key_file}
use Rattle.buffers.proofs.Lists.{behind}
use Rattle.keys.proofs.format.put_key_file.Goals as goal

pub returns : goal.returns
unfolding key_file_header format_key_file
returns c =
    let a = c.args in
    let m = a.material.now in
    behind a.dst.now (key_file_header a.attributes (length m)) m _ _ 36 c.put_header.ensures c.paste.ensures refl
