-- Every statement of `specs/Laws`, with its proof.
use Prim.Native.Nat.{ℕ}
use Rattle.text.specs.Laws.{PartLaws, LineLaws, WriteLaws, HexLaws, DecimalLaws}
use Rattle.text.proofs.PartLaws.{part-laws, line-laws}
use Rattle.text.proofs.Written.{write-laws}
use Rattle.text.proofs.HexLaws.{hex-laws}
use Rattle.text.proofs.DecimalLaws.{decimal-laws}

pub parts : (separator : ℕ) → PartLaws separator
parts = part-laws

pub lines : LineLaws
lines = line-laws

pub written : WriteLaws
written = write-laws

pub hex : HexLaws
hex = hex-laws

pub decimal : DecimalLaws
decimal = decimal-laws
