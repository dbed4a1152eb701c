-- `replay::player::Player::next_line`. The invariant: no answer changes.
use mathlib.Core.Path.{◌≡◌}
use Rattle.replay.proofs.player.Player.next_line.Given as goal

abbrev pub invariant-loop : goal.invariant-loop
invariant-loop g l = l.self.output.answers ≡ l.fn.self.output.answers
