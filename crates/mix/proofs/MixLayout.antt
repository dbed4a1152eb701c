-- The bytes of a send and of a mix, as they stand. Assumes nothing.
use mathlib.Core.Path.{◌≡◌, refl, ap}
use mathlib.Core.List.{List, ◌∷◌, ◌++◌, map, flatten}
use Prim.Native.Nat.{ℕ}
use lib.Ieee.{to_bits}
use lib.ListN.{length}
use lib.Seq.{take_at}
use Rattle.buffers.specs.Bytes.{le_bytes}
use Rattle.mix.specs.Send.{send_bytes}
use Rattle.mix.specs.Mix.{mix_bytes}
use Rattle.mix.specs.Laws.{SendLayout, MixLayout}
use Rattle.mix.specs.declared.monitor.AuxSend.{AuxSend}

pub send-layout : SendLayout
unfolding to_bits
send-layout = record { muted = refl; level = λ l. refl; level_pan = λ l p. refl; one = refl }

mix-bytes : (session : ℕ) (sends rest : List AuxSend)
    → mix_bytes (record { session_id = session; count = length sends; sends = sends ++ rest })
    ≡ le_bytes 8 session ++ (length sends ∷ flatten (map send_bytes sends))
unfolding mix_bytes
mix-bytes session sends rest =
    ap (λ (l : List AuxSend). le_bytes 8 session ++ (length sends ∷ flatten (map send_bytes l))) (take_at sends rest (length sends) refl)

pub mix-layout : MixLayout
unfolding mix_bytes flatten to_bits
mix-layout = record { bytes = mix-bytes; one = refl }
