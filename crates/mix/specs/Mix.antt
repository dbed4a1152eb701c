-- 02, No. 5: "A mix is an 8-byte session number, a one-byte count of 0 to 16, and that many sends of nine bytes."
--   mix_in_range, mix_bytes             a mix that can be kept, and its bytes
--   session_at, count_at, sends_at      what stands in bytes
--   mix_valid, mix_of                  which bytes are a mix's, and which mix it is
--   zero_mix, MixAnswer, decode_mix, encode_mix    what is answered
use Rattle.std.specs.Prelude.{Bool, cond, not, ◌&&◌, ℕ, ◌+◌, ◌-◌, ◌*◌, eqb, leb, length, get_or, take, drop, replicate}
use mathlib.Core.List.{List, [], ◌∷◌, ◌++◌, map, flatten}
use Rattle.buffers.specs.Bytes.{every, le_bytes, le_at}
use Rattle.spec.specs.Slots.{chunks}
use Rattle.spec.specs.Status.{ok, Test, ◌when◌, first_of, Answer, buffer_answer}
use Rattle.mix.specs.Send.{send_in_range, send_bytes, send_valid, send_of}
use Rattle.mix.specs.declared.monitor.AuxSend.{AuxSend}
use Rattle.mix.specs.declared.monitor.AuxSend.TheVariants.{Muted}
use Rattle.mix.specs.declared.monitor.MonitorMix.{MonitorMix}

-- the sends that count
abbrev pub counted : MonitorMix → List AuxSend
counted m = take m.count m.sends

unfoldable pub mix_in_range : MonitorMix → Bool
mix_in_range m = leb m.count 16 && every send_in_range (counted m)

unfoldable pub mix_bytes : MonitorMix → List ℕ
mix_bytes m = le_bytes 8 m.session_id ++ (m.count ∷ flatten (map send_bytes (counted m)))

abbrev pub session_at : List ℕ → ℕ
session_at b = le_at 8 b 0

abbrev pub count_at : List ℕ → ℕ
count_at b = get_or b 8 0

-- the nine bytes of each send
abbrev pub sends_at : ℕ → List ℕ → List (List ℕ)
sends_at count b = chunks 9 count (drop 9 b)

-- "Bad bytes, or any over or missing, give 20."
unfoldable pub mix_valid : List ℕ → Bool
mix_valid b = leb 9 (length b) && (leb (count_at b) 16 && (eqb (length b) (9 + 9 * count_at b) && every send_valid (sends_at (count_at b) b)))

-- sixteen, of which those that are not there are muted
unfoldable pub read_sends : ℕ → List ℕ → List AuxSend
read_sends count b = map send_of (sends_at count b) ++ replicate (16 - count) Muted

unfoldable pub mix_of : List ℕ → MonitorMix
mix_of b = record { session_id = session_at b; count = count_at b; sends = read_sends (count_at b) b }

-- a refusal gives 0 for every number but its status, and no send
abbrev pub zero_mix : MonitorMix
zero_mix = record { session_id = 0; count = 0; sends = replicate 16 Muted }

-- a number, and the mix that goes with it
pub record MixAnswer : Type 0 where
  pub status : ℕ
  pub mix : MonitorMix

unfoldable pub decode_mix : List ℕ → MixAnswer
decode_mix b = cond (mix_valid b) (record { status = ok; mix = mix_of b }) (record { status = 20; mix = zero_mix })

-- a mix buffer has at least 153 bytes
abbrev pub mix_buf_sized : List ℕ → Bool
mix_buf_sized mix_buf = leb 153 (length mix_buf)

unfoldable pub encode_tests : Bool → List ℕ → List Test
encode_tests in_range mix_buf = (1 when not (mix_buf_sized mix_buf)) ∷ (20 when not in_range) ∷ []

unfoldable pub encode_mix : MonitorMix → List ℕ → Answer
encode_mix m mix_buf = buffer_answer (first_of (encode_tests (mix_in_range m) mix_buf)) (mix_bytes m) mix_buf
