-- `mix::find::Records::search`. The invariant: the slots that are left give what all give.
use mathlib.Core.Path.{◌≡◌}
use lib.ListN.{drop}
use Rattle.spec.specs.Area.{kv_format, slots}
use Rattle.mix.specs.Search.{scan}
use Rattle.mix.specs.declared.find.Matches.TheVariants.{Zero}
use Rattle.mix.proofs.find.Records.search.Given as goal

abbrev pub invariant-loop-i : goal.invariant-loop-i
invariant-loop-i l =
    scan l.self.kv.now l.self.rbp.now l.self.device.now.key l.session_id l.i (drop l.i (slots kv_format l.self.kv.now)) l.seen
    ≡ scan l.self.kv.now l.self.rbp.now l.self.device.now.key l.session_id 0 (slots kv_format l.self.kv.now) Zero
