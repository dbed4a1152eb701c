-- 02, No. 6: "Play back a night": from the bytes of a script to the bytes of its answers.
--   answered, unreadable          a call's answer as a line, and the answer to a line that can't be read
--   answer_size, shown, left      how many bytes an answer has; what a line that may be no call leaves of a buffer, and of card and chip
--   set_line, get_line, remove_line, call_line  the three calls, and the line as one of them
--   step                          a line carried out on card and chip
--   empty_areas, play              "card and chip alike, both empty"; the lines after the first
--   replay_lines, replay           all lines; a whole script
use Rattle.std.specs.Prelude.{cond, ◌&&◌, List, [], ◌∷◌, ◌++◌, ℕ, ◌*◌, Option, Some, None, length, unwrap_or, option_and_then}
use Rattle.std.specs.Option.{option_map_or}
use Rattle.buffers.specs.Bytes.{zeros}
use Rattle.text.specs.Parts.{lines}
use Rattle.text.specs.Hex.{is_hex, hex_bytes}
use Rattle.text.specs.Decimal.{decimal_value}
use Rattle.spec.specs.Status.{Answer, bytes_given}
use Rattle.spec.specs.Area.{kv_format, rbp_format}
use Rattle.spec.specs.Interleaving.{Outcome}
use Rattle.spec.specs.Calls.{Areas, areas, store_set, store_get, store_remove}
use Rattle.script_replay.specs.Script.{fits, field, command, is_number, header, err_syntax, answer_line, at_front}
use Rattle.script_replay.specs.declared.command.Command.{Command}
use Rattle.script_replay.specs.declared.command.Command.TheVariants.{Set, Get, Remove}

-- the answer's bytes, and card and chip after it
abbrev pub Played : Type 0
Played = Outcome Areas (List ℕ)

abbrev pub answered : Outcome Areas Answer → Played
answered o = record { answer = answer_line o.answer.status (bytes_given o.answer); after = o.after }

abbrev pub unreadable : List ℕ → List ℕ → Played
unreadable kv rbp = record { answer = answer_line err_syntax []; after = areas kv rbp }

abbrev pub answer_size : Played → ℕ
answer_size o = length o.answer

abbrev pub shown : Option Played → List ℕ → List ℕ
shown None lent = lent
shown (Some o) lent = at_front o.answer lent

abbrev pub left : List ℕ → List ℕ → Option Played → Areas
left kv rbp None = areas kv rbp
left kv rbp (Some o) = o.after

-- ""set", name, flags in decimal to 4294967295, IV in hex, data in hex"
unfoldable pub set_line : List ℕ → List ℕ → List ℕ → List ℕ → Option Played
set_line kv rbp key line =
    cond (is_number 4294967295 (field line 2) && (is_hex (field line 3) && is_hex (field line 4)))
    (Some (answered (store_set kv rbp key (field line 1) (decimal_value (field line 2)) (hex_bytes (field line 3)) (hex_bytes (field line 4)))))
    None

-- ""get", name"; "a get has 480 bytes of output"
unfoldable pub get_line : List ℕ → List ℕ → List ℕ → List ℕ → Played
get_line kv rbp key line = answered (store_get kv rbp key (field line 1) 0 (zeros 480))

-- ""remove", name"
unfoldable pub remove_line : List ℕ → List ℕ → List ℕ → Played
remove_line kv rbp line = answered (store_remove kv rbp (field line 1))

abbrev pub carried_out : List ℕ → List ℕ → List ℕ → List ℕ → Command → Option Played
carried_out kv rbp key line Set = set_line kv rbp key line
carried_out kv rbp key line Get = Some (get_line kv rbp key line)
carried_out kv rbp key line Remove = Some (remove_line kv rbp line)

unfoldable pub call_line : List ℕ → List ℕ → List ℕ → List ℕ → Option Played
call_line kv rbp key line = cond (fits line) (option_and_then (carried_out kv rbp key line) (command line)) None

unfoldable pub step : List ℕ → List ℕ → List ℕ → List ℕ → Played
step kv rbp key line = unwrap_or (call_line kv rbp key line) (unreadable kv rbp)

-- ---- a whole script

abbrev pub empty_areas : ℕ → Areas
empty_areas n = areas (zeros (n * kv_format.slot_size)) (zeros (n * rbp_format.slot_size))

-- each line on card and chip as the lines before it left them
abbrev pub play : List ℕ → Areas → List (List ℕ) → List ℕ
play key s [] = []
play key s (line ∷ rest) = let o = step s.kv s.rbp key line in o.answer ++ play key o.after rest

-- "a bad first line, or empty input, prints that and stops"
abbrev pub replay_lines : List (List ℕ) → List ℕ
replay_lines [] = answer_line err_syntax []
replay_lines (first ∷ rest) = option_map_or (λ h. play h.key (empty_areas h.slots) rest) (header first) (answer_line err_syntax [])

unfoldable pub replay : List ℕ → List ℕ
replay input = replay_lines (lines input)
