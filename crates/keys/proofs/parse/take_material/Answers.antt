-- `keys::parse::take_material`: the part behind the header.
use Rattle.keys.specs.Reader.{read_material}
use Rattle.keys.proofs.parse.take_material.Goals as goal

pub returns-clause-of_file : goal.returns-clause-of_file
unfolding read_material
returns-clause-of_file c = rw (← c.requires) c.take_material.ensures
