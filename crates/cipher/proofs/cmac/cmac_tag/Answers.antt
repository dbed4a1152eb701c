-- `cipher::cmac::cmac_tag`: the tag under the expanded key.
use Rattle.std.proofs.Common.{◌∙◌, w8}
use Rattle.cipher.proofs.Arrays.{array_fits}
use Rattle.cipher.proofs.Feeding.{under-key}
use Rattle.cipher.proofs.cmac.cmac_tag.Goals as goal

pub returns : goal.returns
returns c =
    let key = c.args.key in
    c.tag_of.ensures ∙ under-key key _ c.args.message.now (array_fits w8 16 key _ c.well_formed.0) (c.new-2.ensures ∙ c.new.ensures ∙ c.expand_key-keys.ensures)
