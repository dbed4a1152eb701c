-- A mix as three arrays, for C: a tag, a level and a pan of each send.
--   send_tag, send_level, send_pan        what an array has of a send
--   send_from, sends_from, mix_from       the mix that arrays are
--   encode_sends_tests, encode_sends      bytes made of arrays
--   SendArrays, DecodedSends, no_sends arrays as they are lent and left; what is answered
--   spread_over, decode_sends_tests, decode_sends   arrays made of bytes
use Rattle.std.specs.Prelude.{cond, not, List, [], ◌∷◌, ◌++◌, map, ℕ, ◌-◌, eqb, leb, Float, length, drop, replicate}
use Rattle.buffers.specs.Bytes.{every}
use Rattle.spec.specs.Status.{Test, ◌when◌, first_of, on_ok, Answer, buffer_answer}
use Rattle.mix.specs.Range.{zero}
use Rattle.mix.specs.Mix.{counted, mix_in_range, mix_bytes, session_at, count_at, mix_valid, mix_of, mix_buf_sized}
use Rattle.mix.specs.declared.monitor.AuxSend.{AuxSend}
use Rattle.mix.specs.declared.monitor.AuxSend.TheVariants.{Muted, Level, LevelPan}
use Rattle.mix.specs.declared.monitor.MonitorMix.{MonitorMix}
use Rattle.mix.specs.declared.arrays.Decoded.{Decoded}

-- the number of each case; the numbers that it holds, and +0 for those that it does not
abbrev pub send_tag : AuxSend → ℕ
send_tag Muted = 0
send_tag (Level level) = 1
send_tag (LevelPan level pan) = 2

abbrev pub send_level : AuxSend → Float
send_level Muted = zero
send_level (Level level) = level
send_level (LevelPan level pan) = level

abbrev pub send_pan : AuxSend → Float
send_pan Muted = zero
send_pan (Level level) = zero
send_pan (LevelPan level pan) = pan

-- the send of a tag of 0 to 2; a level or a pan that it does not have is not looked at
unfoldable pub send_from : ℕ → Float → Float → AuxSend
send_from tag level pan = cond (eqb tag 0) Muted (cond (eqb tag 1) (Level level) (LevelPan level pan))

abbrev pub sends_from : List ℕ → List Float → List Float → List AuxSend
sends_from [] levels pans = []
sends_from (t ∷ tags) [] pans = []
sends_from (t ∷ tags) (l ∷ levels) [] = []
sends_from (t ∷ tags) (l ∷ levels) (p ∷ pans) = send_from t l p ∷ sends_from tags levels pans

unfoldable pub mix_from : ℕ → List ℕ → List Float → List Float → MonitorMix
mix_from session tags levels pans =
    record { session_id = session; count = length tags; sends = sends_from tags levels pans ++ replicate (16 - length tags) Muted }

unfoldable pub encode_sends_tests : MonitorMix → List ℕ → List Float → List Float → List ℕ → List Test
encode_sends_tests m tags levels pans mix_buf =
    (1 when not (mix_buf_sized mix_buf))
    ∷ (1 when not (eqb (length levels) (length tags)))
    ∷ (1 when not (eqb (length pans) (length tags)))
    ∷ (20 when not (leb (length tags) 16))
    ∷ (20 when not (every (λ t. leb t 2) tags))
    ∷ (20 when not (mix_in_range m))
    ∷ []

unfoldable pub encode_sends : ℕ → List ℕ → List Float → List Float → List ℕ → Answer
encode_sends session tags levels pans mix_buf =
    let m = mix_from session tags levels pans in
    buffer_answer (first_of (encode_sends_tests m tags levels pans mix_buf)) (mix_bytes m) mix_buf

-- three arrays, as they are lent or left
pub record SendArrays : Type 0 where
  pub tags : List ℕ
  pub levels : List Float
  pub pans : List Float

-- number, session number, how many sends; and the arrays
pub record DecodedSends : Type 0 where
  pub status : ℕ
  pub session : ℕ
  pub count : ℕ
  pub arrays : SendArrays

-- what stands for it in a refusal
abbrev pub no_sends : Decoded
no_sends = record { session_id = 0; count = 0 }

unfoldable pub decode_sends_tests : List ℕ → SendArrays → List Test
decode_sends_tests b a =
    (1 when not (leb 16 (length a.tags)))
    ∷ (1 when not (leb 16 (length a.levels)))
    ∷ (1 when not (leb 16 (length a.pans)))
    ∷ (20 when not (mix_valid b))
    ∷ []

-- the sends' parts at the front, the rest as before
unfoldable pub spread_over : MonitorMix → SendArrays → SendArrays
spread_over m a = record {
  tags = map send_tag (counted m) ++ drop m.count a.tags;
  levels = map send_level (counted m) ++ drop m.count a.levels;
  pans = map send_pan (counted m) ++ drop m.count a.pans;
}

unfoldable pub decode_sends : List ℕ → SendArrays → DecodedSends
decode_sends b a =
    let status = first_of (decode_sends_tests b a) in
    record {
      status = status;
      session = on_ok status (session_at b) 0;
      count = on_ok status (count_at b) 0;
      arrays = on_ok status (spread_over (mix_of b) a) a;
    }
