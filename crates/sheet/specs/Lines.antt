-- Lines: what each says.
use Rattle.std.specs.Prelude.{ℕ, List, [], ◌∷◌, Some, None, Ok, Err, codes, Option, Result, if◌then◌else◌}
use Rattle.std.specs.Str.{bytes_eq}
use Rattle.parts.specs.Parts.{parted}
use Rattle.typeb.specs.CheckBytes.{sealed}
use Rattle.typeb.specs.Messages.{bytes_of}
use Rattle.typeb.specs.declared.message.Message.{Message}
use Rattle.tray_core.specs.declared.calls.Call.{Call}
use Rattle.tray_core.specs.Step as calls
use Rattle.fields.specs.declared.FieldFault.{FieldFault}
use Rattle.fields.specs.declared.FieldFault.TheVariants as field
use Rattle.sheet.specs.declared.faults.LineFault.{LineFault}
use Rattle.sheet.specs.declared.faults.LineFault.TheVariants as fault
use Rattle.sheet.specs.declared.words.TagKind.{TagKind}
use Rattle.sheet.specs.declared.words.TagKind.TheVariants.{Pump, Gauge}
use Rattle.sheet.specs.declared.words.Word.{Word}
use Rattle.sheet.specs.declared.words.Word.TheVariants as word
use Rattle.sheet.specs.declared.lines.Line.{Line}
use Rattle.sheet.specs.declared.lines.Line.TheVariants as line
use Rattle.fields.specs.Fields.{number_of, bytes_in, draw_of}

-- The words.
abbrev pub word_of : List ℕ → Option Word
word_of text =
    if bytes_eq text (codes "tag") then Some word.Tag
    else if bytes_eq text (codes "page") then Some word.Page
    else if bytes_eq text (codes "on") then Some word.On
    else if bytes_eq text (codes "off") then Some word.Off
    else if bytes_eq text (codes "place") then Some word.Place
    else if bytes_eq text (codes "lift") then Some word.Lift
    else if bytes_eq text (codes "stock") then Some word.Stock
    else if bytes_eq text (codes "send") then Some word.Send
    else if bytes_eq text (codes "raw") then Some word.Raw
    else None

-- The kinds.
abbrev pub kind_of : List ℕ → Result TagKind FieldFault
kind_of text =
    if bytes_eq text (codes "pump") then Ok Pump
    else if bytes_eq text (codes "gauge") then Ok Gauge
    else Err field.Kind

-- What a line says: a tag of a kind with its draw, a page of a tag with its bytes, or a call.
pub data Says : Type 0 where
  Tag : TagKind → ℕ → Says
  Page : ℕ → ℕ → List ℕ → Says
  Calls : calls.Asks → Says

-- A field is read, and what follows takes its value; its fault is the line's.
infixl 10 ◌>>=◌
abbrev pub ◌>>=◌ : {A B : Type 0} → Result A FieldFault → (A → Result B LineFault) → Result B LineFault
Ok value >>= next = next value
Err why >>= next = Err (fault.Field why)

-- What the fields behind a word say: as many as the word has, each in its form, the first asked first.
abbrev pub word_says : Word → List (List ℕ) → Result Says LineFault
word_says word.Tag (kind ∷ draw ∷ []) = do
  k ← kind_of kind
  d ← draw_of draw
  Ok (Tag k d)
word_says word.Page (tag ∷ page ∷ bytes ∷ []) = do
  t ← number_of tag
  p ← number_of page
  b ← bytes_in 8 8 bytes
  Ok (Page t p b)
word_says word.On [] = Ok (Calls calls.On)
word_says word.Off [] = Ok (Calls calls.Off)
word_says word.Place (tag ∷ []) = do
  t ← number_of tag
  Ok (Calls (calls.Place t))
word_says word.Lift (tag ∷ []) = do
  t ← number_of tag
  Ok (Calls (calls.Lift t))
word_says word.Stock [] = Ok (Calls calls.Stock)
word_says word.Send (body ∷ []) = do
  b ← bytes_in 1 14 body
  Ok (Calls (calls.Frame (sealed b)))
word_says word.Raw (bytes ∷ []) = do
  b ← bytes_in 1 16 bytes
  Ok (Calls (calls.Frame b))
word_says word fields = Err fault.FieldCount

-- A known word? Then its fields are asked for.
abbrev pub behind_say : Option Word → List (List ℕ) → Result Says LineFault
behind_say (Some w) behind = word_says w behind
behind_say None behind = Err fault.UnknownWord

-- A line says what its fields say, the first of which is the word.
abbrev pub fields_say : List (List ℕ) → Result Says LineFault
fields_say (first ∷ behind) = behind_say (word_of first) behind
fields_say [] = Err fault.UnknownWord

abbrev pub line_says : List ℕ → Result Says LineFault
line_says text = fields_say (parted 44 text)

-- What the values of the code say.
abbrev pub order_asks : Call Message → calls.Asks
order_asks order = calls.asks_by bytes_of order

abbrev pub said_by : Line → Says
said_by (line.Tag kind draw) = Tag kind draw
said_by (line.Page tag page bytes) = Page tag page bytes
said_by (line.Calls asked) = Calls (order_asks asked)

abbrev pub said_in : Result Line LineFault → Result Says LineFault
said_in (Ok l) = Ok (said_by l)
said_in (Err why) = Err why
