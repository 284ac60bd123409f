-- The report of a frame, and of a whole text of lines.
use Rattle.std.specs.Prelude.{ℕ, ◌+◌, Bool, cond, List, [], ◌∷◌, ◌++◌, Some, None, codes, Option}
use Rattle.hex_pairs.specs.Hex.{hex_text}
use Rattle.typeb.specs.CheckBytes.{sound, sealed}
use Rattle.typeb.specs.Hears.{Heard, heard}
use Rattle.decode.specs.Lines.{line_bytes, lines_of}
use Rattle.decode.specs.Faults.{fault_of}
use Rattle.decode.specs.Words.{text, words}

-- What a tag hears, if it hears a frame.
abbrev pub hearing : Option Heard → List ℕ
hearing (Some h) = words h
hearing None = codes "not heard"

-- The frame in hex, whether it is sound, and what a tag hears in it.
abbrev pub report_of : List ℕ → List ℕ
report_of frame =
    text (hex_text frame ∷ codes " " ∷ cond (sound frame) (codes "sound") (codes "unsound") ∷ codes ": " ∷ hearing (heard frame) ∷ [])

-- With `--seal` the check bytes are appended first.
abbrev pub frame_in : Bool → List ℕ → List ℕ
frame_in sealing bytes = cond sealing (sealed bytes) bytes

-- The report of a line's bytes, as a line of text; nothing for a blank line.
abbrev pub report_line : Bool → List ℕ → List ℕ
report_line sealing [] = []
report_line sealing (byte ∷ bytes) = report_of (frame_in sealing (byte ∷ bytes)) ++ (10 ∷ [])

-- The report of a line; nothing for one that is no hex.
abbrev pub reported : Bool → Option (List ℕ) → List ℕ
reported sealing (Some bytes) = report_line sealing bytes
reported sealing None = []

-- The message for a line; nothing for one that is hex.
abbrev pub faulted : ℕ → List ℕ → Option (List ℕ) → List ℕ
faulted number line (Some bytes) = []
faulted number line None = fault_of number line ++ (10 ∷ [])

-- The reports of lines, in their order.
abbrev pub all_reports : Bool → List (List ℕ) → List ℕ
all_reports sealing [] = []
all_reports sealing (line ∷ lines) = reported sealing (line_bytes line) ++ all_reports sealing lines

-- The messages for lines, in their order, where the first line has this number.
abbrev pub all_faults : ℕ → List (List ℕ) → List ℕ
all_faults number [] = []
all_faults number (line ∷ lines) = faulted number line (line_bytes line) ++ all_faults (number + 1) lines

-- The reports and the messages of a text. Lines are numbered from 1.
abbrev pub reports_of : Bool → List ℕ → List ℕ
reports_of sealing bytes = all_reports sealing (lines_of bytes)

abbrev pub faults_of : List ℕ → List ℕ
faults_of bytes = all_faults 1 (lines_of bytes)
