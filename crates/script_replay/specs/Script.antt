-- 02, No. 6: the lines of a night. A script's text is a list of bytes.
--   line_limit, fits                 "A line over 1,100 bytes before its newline" can't be read
--   field, is_command                "fields parted by tabs", and the word that a call's line begins with
--   is_number                        "numbers are one or more decimal digits, leading zeros allowed", up to a greatest
--   command                          what a line asks for
--   header_valid, header             "First line: device key in 32 hex digits, tab, number of places, 1 to 64"
--   answer_line, at_front             "the number, a tab, and the returned bytes in hex", and bytes at the front of a lent buffer
use Rattle.std.specs.Prelude.{Bool, cond, ◌&&◌, List, [], ◌∷◌, ◌++◌, ℕ, Option, Some, None, eqb, leb, length, get_or, drop}
use Rattle.buffers.specs.Bytes.{bytes_eq}
use Rattle.text.specs.Parts.{parts, tab, newline}
use Rattle.text.specs.Hex.{is_hex, hex_bytes, hex_text}
use Rattle.text.specs.Decimal.{is_decimal, decimal_value, decimal_text}
use Rattle.script_replay.specs.declared.command.Command.{Command}
use Rattle.script_replay.specs.declared.command.Command.TheVariants.{Set, Get, Remove}
use Rattle.script_replay.specs.declared.header.ScriptHeader.{ScriptHeader}

abbrev pub line_limit : ℕ
line_limit = 1100

abbrev pub fits : List ℕ → Bool
fits line = leb (length line) line_limit

abbrev pub field : List ℕ → ℕ → List ℕ
field line k = get_or (parts tab line) k []

-- "set", "get" and "remove"
abbrev pub set_word : List ℕ
set_word = 0x73 ∷ 0x65 ∷ 0x74 ∷ []

abbrev pub get_word : List ℕ
get_word = 0x67 ∷ 0x65 ∷ 0x74 ∷ []

abbrev pub remove_word : List ℕ
remove_word = 0x72 ∷ 0x65 ∷ 0x6d ∷ 0x6f ∷ 0x76 ∷ 0x65 ∷ []

-- a line of so many fields, of which the word is the first
unfoldable pub is_command : List ℕ → ℕ → List ℕ → Bool
is_command line count word = eqb (length (parts tab line)) count && bytes_eq (field line 0) word

unfoldable pub command : List ℕ → Option Command
command line =
    cond (is_command line 5 set_word) (Some Set)
    (cond (is_command line 2 get_word) (Some Get)
    (cond (is_command line 2 remove_word) (Some Remove) None))

abbrev pub is_number : ℕ → List ℕ → Bool
is_number most s = is_decimal s && leb (decimal_value s) most

-- ---- the first line

unfoldable pub header_valid : List ℕ → Bool
header_valid line =
    fits line && (eqb (length (parts tab line)) 2
    && ((eqb (length (field line 0)) 32 && is_hex (field line 0)) && (is_number 64 (field line 1) && leb 1 (decimal_value (field line 1)))))

unfoldable pub header : List ℕ → Option ScriptHeader
header line = cond (header_valid line) (Some (record { key = hex_bytes (field line 0); slots = decimal_value (field line 1) })) None

-- ---- answers

-- 02: what "prints 15 and a tab"
abbrev pub err_syntax : ℕ
err_syntax = 15

unfoldable pub answer_line : ℕ → List ℕ → List ℕ
answer_line status bytes = decimal_text status ++ (tab ∷ (hex_text bytes ++ newline ∷ []))

abbrev pub at_front : List ℕ → List ℕ → List ℕ
at_front bytes lent = bytes ++ drop (length bytes) lent
