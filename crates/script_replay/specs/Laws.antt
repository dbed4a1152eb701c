-- What is stated of 02, No. 6. `proofs/Theorems` has each statement with its proof.
--   Header, HeaderExact            the first line
--   SaysSet, Readable, Words, LineExact   which line is which call, and that every other can't be read
--   AnswerLaws                     the answer to a line is one line, at the front of its buffer
--   Answers, EveryLine             demand 1 for a line
--   after_lines, ReplayExact        a whole script, line by line
--   SetThenGet                     what a set printed 0 for, a get of that name prints next, whole
--   example_script, Example         02's example
--   StreamLaws                     however the input is cut into reads, and whatever is passed over of a line that is too long
use Rattle.std.specs.Prelude.{◌≡◌, ◌≢◌, ◌⊎◌, true, cond, List, [], ◌∷◌, ◌++◌, map, ℕ, ◌*◌, ◌≤◌, Some, None, length, get_or, take, drop}
use Rattle.buffers.specs.Bytes.{zeros}
use Rattle.text.specs.Parts.{parts, lines}
use Rattle.text.specs.Hex.{is_hex, hex_bytes, hex_text}
use Rattle.text.specs.Decimal.{is_decimal, decimal_value, decimal_text}
use Rattle.spec.specs.Status.{is_listed}
use Rattle.spec.specs.Calls.{Areas, areas, store_set, store_get, store_remove}
use Rattle.script_replay.specs.Script.{set_word, get_word, remove_word, header, answer_line, at_front}
use Rattle.script_replay.specs.declared.header.ScriptHeader.{ScriptHeader}
use Rattle.script_replay.specs.Replay.{Played, step, play, replay_lines, replay}
use Rattle.script_replay.specs.Stream.{ends_line, taken, held, held_size, held_lines}

-- ---- the first line: "device key in 32 hex digits, tab, number of places, 1 to 64"

pub record Header (line key : List ℕ) (slots : ℕ) : Type 0 where
  pub fits : length line ≤ 1100
  pub digits : List ℕ
  pub number : List ℕ
  pub fields : parts 0x09 line ≡ digits ∷ number ∷ []
  pub key_digits : length digits ≡ 32
  pub key_hex : is_hex digits ≡ true
  pub key_read : key ≡ hex_bytes digits
  pub slots_decimal : is_decimal number ≡ true
  pub slots_read : slots ≡ decimal_value number
  pub least : 1 ≤ slots
  pub most : slots ≤ 64

pub record HeaderExact : Type 0 where
  pub good : (line key : List ℕ) (slots : ℕ) → Header line key slots → header line ≡ Some (record { key = key; slots = slots })
  pub only : (line : List ℕ) (h : ScriptHeader) → header line ≡ Some h → Header line h.key h.slots
  pub bad : (line : List ℕ) → ((key : List ℕ) (slots : ℕ) → Header line key slots → ⊥) → header line ≡ None

-- ---- the lines after it

-- ""set", name, flags in decimal to 4294967295, IV in hex, data in hex"
pub record SaysSet (line name : List ℕ) (flags : ℕ) (iv value : List ℕ) : Type 0 where
  pub number : List ℕ
  pub iv_digits : List ℕ
  pub digits : List ℕ
  pub fields : parts 0x09 line ≡ set_word ∷ name ∷ number ∷ iv_digits ∷ digits ∷ []
  pub flags_decimal : is_decimal number ≡ true
  pub flags_read : flags ≡ decimal_value number
  pub flags_most : flags ≤ 4294967295
  pub iv_hex : is_hex iv_digits ≡ true
  pub iv_read : iv ≡ hex_bytes iv_digits
  pub value_hex : is_hex digits ≡ true
  pub value_read : value ≡ hex_bytes digits

-- "or "get", name; or "remove", name"
pub data Readable (line : List ℕ) : Type 0 where
  a_set : {name : List ℕ} {flags : ℕ} {iv value : List ℕ} → SaysSet line name flags iv value → Readable line
  a_get : {name : List ℕ} → parts 0x09 line ≡ get_word ∷ name ∷ [] → Readable line
  a_remove : {name : List ℕ} → parts 0x09 line ≡ remove_word ∷ name ∷ [] → Readable line

-- the bytes "set", "get" and "remove"
pub record Words : Type 0 where
  pub of_set : set_word ≡ 0x73 ∷ 0x65 ∷ 0x74 ∷ []
  pub of_get : get_word ≡ 0x67 ∷ 0x65 ∷ 0x74 ∷ []
  pub of_remove : remove_word ≡ 0x72 ∷ 0x65 ∷ 0x6d ∷ 0x6f ∷ 0x76 ∷ 0x65 ∷ []

-- a number and bytes are printed, and card and chip are these
abbrev pub printed : ℕ → List ℕ → Areas → Played
printed status bytes s = record { answer = answer_line status bytes; after = s }

pub record LineExact (kv rbp key line : List ℕ) : Type 0 where
  pub of_set : (name : List ℕ) (flags : ℕ) (iv value : List ℕ) → length line ≤ 1100 → SaysSet line name flags iv value
      → let o = store_set kv rbp key name flags iv value in step kv rbp key line ≡ printed o.answer.status [] o.after
  -- "a get has 480 bytes of output"; the count says how many of them are returned
  pub of_get : (name : List ℕ) → length line ≤ 1100 → parts 0x09 line ≡ get_word ∷ name ∷ []
      → let a = (store_get kv rbp key name 0 (zeros 480)).answer in
      step kv rbp key line ≡ printed a.status (take (get_or a.numbers 0 0) a.output) (areas kv rbp)
  pub of_remove : (name : List ℕ) → length line ≤ 1100 → parts 0x09 line ≡ remove_word ∷ name ∷ []
      → let o = store_remove kv rbp name in step kv rbp key line ≡ printed o.answer.status [] o.after
  -- "A line over 1,100 bytes before its newline or otherwise unreadable prints 15 and a tab"
  pub other : (length line ≤ 1100 → Readable line → ⊥) → step kv rbp key line ≡ printed 15 [] (areas kv rbp)

-- ---- answers

pub record AnswerLaws : Type 0 where
  -- "the number, a tab, and the returned bytes in hex", and a newline
  pub bytes : (status : ℕ) (returned : List ℕ) → answer_line status returned ≡ decimal_text status ++ (0x09 ∷ (hex_text returned ++ 0x0a ∷ []))
  -- at the front of a buffer, with any bytes behind it
  pub front : (bytes out behind : List ℕ) → length out ≡ length bytes → at_front bytes (out ++ behind) ≡ bytes ++ behind
  -- one line, whatever follows it
  pub one_line : (status : ℕ) (returned more : List ℕ)
      → lines (answer_line status returned ++ more) ≡ (decimal_text status ++ (0x09 ∷ hex_text returned)) ∷ lines more

-- demand 1: a number of the table or 15, at most 480 bytes, and a refusal prints none and changes neither card nor chip
pub record Answers (kv rbp : List ℕ) (o : Played) : Type 0 where
  pub status : ℕ
  pub returned : List ℕ
  pub answer : o.answer ≡ answer_line status returned
  pub listed : (status ≡ 15) ⊎ (is_listed status ≡ true)
  pub at_most : length returned ≤ 480
  pub refused : status ≢ 0 → (returned ≡ []) × (o.after ≡ areas kv rbp)

abbrev pub EveryLine : Type 0
EveryLine = (kv rbp key line : List ℕ) → Answers kv rbp (step kv rbp key line)

-- ---- a whole script

-- card and chip after some lines
abbrev pub after_lines : List ℕ → Areas → List (List ℕ) → Areas
after_lines key s [] = s
after_lines key s (line ∷ rest) = after_lines key (step s.kv s.rbp key line).after rest

pub record ReplayExact : Type 0 where
  -- "a bad first line, or empty input, prints that and stops"
  pub empty : replay [] ≡ answer_line 15 []
  pub bad : (input first : List ℕ) (rest : List (List ℕ)) → lines input ≡ first ∷ rest → header first ≡ None → replay input ≡ answer_line 15 []
  -- "card and chip alike, both empty"
  pub good : (input first key : List ℕ) (slots : ℕ) (rest : List (List ℕ)) → lines input ≡ first ∷ rest → Header first key slots
      → replay input ≡ play key (areas (zeros (slots * 584)) (zeros (slots * 82))) rest
  -- a line's answer depends on the lines before it only through card and chip, and no line's answer on those after it
  pub none : (key : List ℕ) (s : Areas) → play key s [] ≡ []
  pub next : (key : List ℕ) (s : Areas) (before : List (List ℕ)) (line : List ℕ) (rest : List (List ℕ))
      → let now = after_lines key s before in
      let o = step now.kv now.rbp key line in
      play key s (before ++ line ∷ rest) ≡ play key s before ++ (o.answer ++ play key o.after rest)
  -- as many answers as lines
  pub number : (key : List ℕ) (s : Areas) (ls : List (List ℕ)) → length (lines (play key s ls)) ≡ length ls
  -- "the last line may lack its newline"
  pub lacking : (input : List ℕ) (x : ℕ) → x ≢ 0x0a → replay (input ++ x ∷ []) ≡ replay (input ++ x ∷ 0x0a ∷ [])

-- ---- what was set is printed

abbrev pub SetThenGet : Type 0
SetThenGet = (kv rbp key line name : List ℕ) (flags : ℕ) (iv value : List ℕ)
    → let o = step kv rbp key line in
    length line ≤ 1100 → SaysSet line name flags iv value → o.answer ≡ answer_line 0 []
    → step o.after.kv o.after.rbp key (get_word ++ 0x09 ∷ name) ≡ printed 0 value o.after

-- ---- 02's example

-- the script after the digits of the key, with tabs for spaces
abbrev pub example_script : List ℕ
example_script =
    -- tab, and one place
    0x09 ∷ 0x31 ∷ 0x0a
    -- set a 0 0000000000000000 4142
    ∷ 0x73 ∷ 0x65 ∷ 0x74 ∷ 0x09 ∷ 0x61 ∷ 0x09 ∷ 0x30 ∷ 0x09 ∷ 0x30 ∷ 0x30 ∷ 0x30 ∷ 0x30 ∷ 0x30 ∷ 0x30 ∷ 0x30
    ∷ 0x30 ∷ 0x30 ∷ 0x30 ∷ 0x30 ∷ 0x30 ∷ 0x30 ∷ 0x30 ∷ 0x30 ∷ 0x30 ∷ 0x09 ∷ 0x34 ∷ 0x31 ∷ 0x34 ∷ 0x32 ∷ 0x0a
    -- get a
    ∷ 0x67 ∷ 0x65 ∷ 0x74 ∷ 0x09 ∷ 0x61 ∷ 0x0a
    -- remove b
    ∷ 0x72 ∷ 0x65 ∷ 0x6d ∷ 0x6f ∷ 0x76 ∷ 0x65 ∷ 0x09 ∷ 0x62 ∷ 0x0a ∷ []

-- "With one place, the lines .. print exactly 0 and a tab; 0, a tab and 4142; 6 and a tab", whatever the key
abbrev pub Example : Type 0
Example = (digits : List ℕ) → length digits ≡ 32 → is_hex digits ≡ true
    → replay (digits ++ example_script) ≡ 0x30 ∷ 0x09 ∷ 0x0a ∷ 0x30 ∷ 0x09 ∷ 0x34 ∷ 0x31 ∷ 0x34 ∷ 0x32 ∷ 0x0a ∷ 0x36 ∷ 0x09 ∷ 0x0a ∷ []

-- ---- reads

pub record StreamLaws : Type 0 where
  -- one read more, behind what is held of a line
  pub next : (room : ℕ) (line part more : List ℕ) → length line ≤ room
      → held_lines room line (part ++ more)
      ≡ cond (ends_line part) (held room line part ∷ held_lines room [] (drop (taken part) part ++ more)) (held_lines room (held room line part) (drop (taken part) part ++ more))
  -- what is taken is there, and where there is anything, something is
  pub within : (part : List ℕ) → taken part ≤ length part
  pub progress : (b : ℕ) (part : List ℕ) → 1 ≤ taken (b ∷ part)
  -- from the start, the lines that are held are those of the whole input, cut
  pub all : (room : ℕ) (input : List ℕ) → 1 ≤ room → held_lines room [] input ≡ map (take room) (lines input)
  -- what is held of a line is enough
  pub enough : (input : List ℕ) → replay_lines (map (take held_size) (lines input)) ≡ replay input
