-- What the steps of the program do with its buffers. Which bytes the system reads and writes, no contract can say.
--   text, unused, Taken     a line takes of what was read and not used as `gather` does
--   Waits                   nothing was taken, and a read is awaited
--   RoomMade, Appended      an answer stands behind those that are to be written, or it is the first where there was no room for it behind them
use Rattle.std.specs.Prelude.{◌≡◌, ◌⊎◌, Bool, false, List, ℕ, ◌+◌, ◌-◌, ◌≤◌, ◌<◌, length, take, drop, IfOk, Result}
use Rattle.buffers.specs.Bytes.{put_at}
use Rattle.script_replay.specs.Script.{at_front}
use Rattle.script_replay.specs.Stream.{ends_line, taken, held, held_size}
use Rattle.replay.specs.declared.input.Input.{Input}
use Rattle.replay.specs.declared.line.Line.{Line}
use Rattle.replay.specs.declared.output.Output.{Output}

abbrev pub text : Line → List ℕ
text l = take l.len l.bytes

abbrev pub unused : {R : Type 0} → Input R → List ℕ
unused s = take (s.to - s.from) (drop s.from s.chunk)

pub record Taken {R : Type 0} (s r : Input R) (l m : Line) (whole : Bool) : Type 0 where
  pub reader : r.reader ≡ s.reader
  pub chunk : r.chunk ≡ s.chunk
  pub from : r.from ≡ s.from + taken (unused s)
  pub to : r.to ≡ s.to
  pub ended : r.ended ≡ s.ended
  pub len : m.len ≡ length (held held_size (text l) (unused s))
  pub bytes : m.bytes ≡ at_front (held held_size (text l) (unused s)) l.bytes
  pub newline : whole ≡ ends_line (unused s)

-- of a line whose read is used up
pub record Waits {E : Type 0} (result : Result Bool E) (l m : Line) : Type 0 where
  pub len : m.len ≡ l.len
  pub bytes : m.bytes ≡ l.bytes
  pub whole : IfOk result (λ b. b ≡ false)

pub record RoomMade {W : Type 0} (s r : Output W) : Type 0 where
  pub room : r.used ≤ 64512
  pub place : (r.used ≡ s.used) ⊎ ((64512 < s.used) × (r.used ≡ 0))

pub record Appended {W : Type 0} (s r : Output W) (answer : List ℕ) : Type 0 where
  pub at : ℕ
  pub place : (at ≡ s.used) ⊎ ((64512 < s.used) × (at ≡ 0))
  pub used : r.used ≡ at + length answer
  pub bytes : r.answers ≡ put_at s.answers at answer
