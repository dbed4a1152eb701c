-- 02, No. 5: "A send is muted, or has a level, or has a level and a pan, kept as 32-bit float bits, little-endian: tag 0, 1 or 2, then level, then pan, unused
-- bytes zero."
--   send_in_range, send_bytes         a send whose numbers lie in range; its nine bytes
--   tag_at, float_at                 what stands in the bytes
--   send_valid, send_of              which nine bytes are a send's, and which send it is
use Rattle.std.specs.Prelude.{Bool, true, cond, ◌&&◌, List, ◌∷◌, ◌++◌, ℕ, eqb, Float, get_or, drop}
use Rattle.std.specs.Float.{binary32}
use Rattle.std.specs.Float.Ieee.{to_bits, of_bits}
use Rattle.buffers.specs.Bytes.{zeros, all_zero, le_bytes, u32_at}
use Rattle.mix.specs.Range.{level_in_range, pan_in_range}
use Rattle.mix.specs.declared.monitor.AuxSend.{AuxSend}
use Rattle.mix.specs.declared.monitor.AuxSend.TheVariants.{Muted, Level, LevelPan}

abbrev pub send_in_range : AuxSend → Bool
send_in_range Muted = true
send_in_range (Level level) = level_in_range level
send_in_range (LevelPan level pan) = level_in_range level && pan_in_range pan

abbrev pub float_bytes : Float → List ℕ
float_bytes x = le_bytes 4 (to_bits binary32 x)

abbrev pub send_bytes : AuxSend → List ℕ
send_bytes Muted = 0 ∷ zeros 8
send_bytes (Level level) = 1 ∷ (float_bytes level ++ zeros 4)
send_bytes (LevelPan level pan) = 2 ∷ (float_bytes level ++ float_bytes pan)

abbrev pub tag_at : List ℕ → ℕ
tag_at b = get_or b 0 0

abbrev pub level_at : List ℕ → Float
level_at b = of_bits binary32 (u32_at b 1)

abbrev pub pan_at : List ℕ → Float
pan_at b = of_bits binary32 (u32_at b 5)

-- of nine bytes
unfoldable pub send_valid : List ℕ → Bool
send_valid b =
    cond (eqb (tag_at b) 0) (all_zero (drop 1 b))
    (cond (eqb (tag_at b) 1) (level_in_range (level_at b) && all_zero (drop 5 b))
    (eqb (tag_at b) 2 && (level_in_range (level_at b) && pan_in_range (pan_at b))))

unfoldable pub send_of : List ℕ → AuxSend
send_of b = cond (eqb (tag_at b) 0) Muted (cond (eqb (tag_at b) 1) (Level (level_at b)) (LevelPan (level_at b) (pan_at b)))
