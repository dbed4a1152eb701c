-- A name that code hands out, as the definitions have it.
use Rattle.std.specs.Prelude.{Option, Some, None}
use Rattle.std.specs.Borrow.{Bor}
use Rattle.std.proofs.Math.Option as maybe
use Rattle.spec.specs.Name.{Name}

abbrev pub lent : Option (Bor Name) → maybe.Option Name
lent None = maybe.none
lent (Some name) = maybe.some name.now
