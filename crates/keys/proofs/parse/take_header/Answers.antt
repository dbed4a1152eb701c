-- `keys::parse::take_header`: each field from where the one before it left the reader.
use Rattle.keys.specs.Reader.{header_at}
use Rattle.store.proofs.Tests.{handed_on}
use Rattle.keys.proofs.parse.take_header.Goals as goal

pub returns-in_err-take_mark : goal.returns-in_err-take_mark
unfolding header_at
returns-in_err-take_mark c = rw (handed_on c.from_residual.result c.in_err-take_mark.field-0.0 c.from_residual.ensures, ← c.in_err-take_mark.ensures)

pub returns-in_err-version : goal.returns-in_err-version
unfolding header_at
returns-in_err-version c = rw (handed_on c.from_residual-in_err-version.result c.in_err-version.field-0.0 c.from_residual-in_err-version.ensures, ← c.in_ok-take_mark.ensures, ← c.in_err-version.ensures)

pub returns-in_err-lifetime : goal.returns-in_err-lifetime
unfolding header_at
returns-in_err-lifetime c = rw (handed_on c.from_residual-in_err-lifetime.result c.in_err-lifetime.field-0.0 c.from_residual-in_err-lifetime.ensures, ← c.in_ok-take_mark.ensures, ← c.in_ok-version.ensures, ← c.in_err-lifetime.ensures)

pub returns-in_err-key_type : goal.returns-in_err-key_type
unfolding header_at
returns-in_err-key_type c = rw (handed_on c.from_residual-in_err-key_type.result c.in_err-key_type.field-0.0 c.from_residual-in_err-key_type.ensures, ← c.in_ok-take_mark.ensures, ← c.in_ok-version.ensures, ← c.in_ok-lifetime.ensures, ← c.in_err-key_type.ensures)

pub returns-in_err-usage : goal.returns-in_err-usage
unfolding header_at
returns-in_err-usage c = rw (handed_on c.from_residual-in_err-usage.result c.in_err-usage.field-0.0 c.from_residual-in_err-usage.ensures, ← c.in_ok-take_mark.ensures, ← c.in_ok-version.ensures, ← c.in_ok-lifetime.ensures, ← c.in_ok-key_type.ensures, ← c.in_err-usage.ensures)

pub returns-in_err-alg : goal.returns-in_err-alg
unfolding header_at
returns-in_err-alg c = rw (handed_on c.from_residual-in_err-alg.result c.in_err-alg.field-0.0 c.from_residual-in_err-alg.ensures, ← c.in_ok-take_mark.ensures, ← c.in_ok-version.ensures, ← c.in_ok-lifetime.ensures, ← c.in_ok-key_type.ensures, ← c.in_ok-usage.ensures, ← c.in_err-alg.ensures)

pub returns-in_err-enrollment_alg : goal.returns-in_err-enrollment_alg
unfolding header_at
returns-in_err-enrollment_alg c = rw (handed_on c.from_residual-in_err-enrollment_alg.result c.in_err-enrollment_alg.field-0.0 c.from_residual-in_err-enrollment_alg.ensures, ← c.in_ok-take_mark.ensures, ← c.in_ok-version.ensures, ← c.in_ok-lifetime.ensures, ← c.in_ok-key_type.ensures, ← c.in_ok-usage.ensures, ← c.in_ok-alg.ensures, ← c.in_err-enrollment_alg.ensures)

pub returns-in_err-material_len : goal.returns-in_err-material_len
unfolding header_at
returns-in_err-material_len c = rw (handed_on c.from_residual-in_err-material_len.result c.in_err-material_len.field-0.0 c.from_residual-in_err-material_len.ensures, ← c.in_ok-take_mark.ensures, ← c.in_ok-version.ensures, ← c.in_ok-lifetime.ensures, ← c.in_ok-key_type.ensures, ← c.in_ok-usage.ensures, ← c.in_ok-alg.ensures, ← c.in_ok-enrollment_alg.ensures, ← c.in_err-material_len.ensures)

pub returns : goal.returns
unfolding header_at
returns c = rw (← c.in_ok-take_mark.ensures, ← c.in_ok-version.ensures, ← c.in_ok-lifetime.ensures, ← c.in_ok-key_type.ensures, ← c.in_ok-usage.ensures, ← c.in_ok-alg.ensures, ← c.in_ok-enrollment_alg.ensures, ← c.in_ok-material_len.ensures)
