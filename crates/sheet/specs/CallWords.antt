-- Which text of a line is which call, tag or page: in what the line says, by which a run does it,
-- and in the value of the code that is read of it.
use Rattle.std.specs.Prelude.{◌≡◌, ◌≢◌, ℕ, ◌/◌, ◌%◌, ◌<◌, ◌≤◌, List, [], ◌∷◌, All, length, Ok, Err, Result, codes, decimal}
use Rattle.hex_pairs.specs.Hex.{Bytes, hex_text}
use Rattle.parts.specs.Parts.{joined, Lacks}
use Rattle.typeb.specs.CheckBytes.{sealed}
use Rattle.typeb.specs.Messages.{bytes_of}
use Rattle.typeb.specs.declared.message.Message.{Message}
use Rattle.tray_core.specs.declared.calls.Call.TheVariants as call
use Rattle.tray_core.specs.Step as calls
use Rattle.sheet.specs.declared.faults.LineFault.{LineFault}
use Rattle.sheet.specs.declared.faults.LineFault.TheVariants as fault
use Rattle.sheet.specs.declared.lines.Line.{Line}
use Rattle.sheet.specs.declared.lines.Line.TheVariants as line
use Rattle.sheet.specs.declared.words.TagKind.TheVariants.{Pump, Gauge}
use Rattle.sheet.specs.Lines.{Says, Tag, Page, Calls, line_says}

-- The nine words, each with the number of the fields behind it.
abbrev pub words : List (List ℕ × ℕ)
words =
    (codes "tag", 2) ∷ (codes "page", 3) ∷ (codes "on", 0) ∷ (codes "off", 0) ∷ (codes "place", 1)
    ∷ (codes "lift", 1) ∷ (codes "stock", 0) ∷ (codes "send", 1) ∷ (codes "raw", 1) ∷ []

-- The text of a draw number: its two bytes, the high one first.
abbrev pub draw_text : ℕ → List ℕ
draw_text draw = hex_text (draw / 256 ∷ draw % 256 ∷ [])

-- What was read is the call Frame, whose bytes are these.
pub record ReadsFrame (r : Result Line LineFault) (bytes : List ℕ) : Type 0 where
  pub message : Message
  pub holds : bytes_of message ≡ bytes
  pub reads : r ≡ Ok (line.Calls (call.Frame message))

-- The value of the code for what a line says.
abbrev pub IsRead : Result Line LineFault → Result Says LineFault → Type 0
IsRead r (Ok (Tag kind draw)) = r ≡ Ok (line.Tag kind draw)
IsRead r (Ok (Page tag page bytes)) = r ≡ Ok (line.Page tag page bytes)
IsRead r (Ok (Calls calls.On)) = r ≡ Ok (line.Calls call.On)
IsRead r (Ok (Calls calls.Off)) = r ≡ Ok (line.Calls call.Off)
IsRead r (Ok (Calls (calls.Place n))) = r ≡ Ok (line.Calls (call.Place n))
IsRead r (Ok (Calls (calls.Lift n))) = r ≡ Ok (line.Calls (call.Lift n))
IsRead r (Ok (Calls (calls.Frame bytes))) = ReadsFrame r bytes
IsRead r (Ok (Calls calls.Stock)) = r ≡ Ok (line.Calls call.Stock)
IsRead r (Err why) = r ≡ Err why

-- What a line says.
abbrev pub IsSaid : List ℕ → Result Says LineFault → Type 0
IsSaid text said = line_says text ≡ said

-- What a text gives. Fields are joined by commas; numbers are written in decimal, bytes in hex.
pub record CallWords (text : List ℕ) (Gives : Result Says LineFault → Type 0) : Type 0 where
  pub on : text ≡ codes "on" → Gives (Ok (Calls calls.On))
  pub off : text ≡ codes "off" → Gives (Ok (Calls calls.Off))
  pub stock : text ≡ codes "stock" → Gives (Ok (Calls calls.Stock))
  pub place : (n : ℕ) → n < 1000 → text ≡ joined (codes "place" ∷ decimal n ∷ [])
      → Gives (Ok (Calls (calls.Place n)))
  pub lift : (n : ℕ) → n < 1000 → text ≡ joined (codes "lift" ∷ decimal n ∷ [])
      → Gives (Ok (Calls (calls.Lift n)))
  -- The bytes of a send line go out with their check bytes, those of a raw line as they stand.
  pub send : (body : List ℕ) → Bytes body → 1 ≤ length body → length body ≤ 14
      → text ≡ joined (codes "send" ∷ hex_text body ∷ [])
      → Gives (Ok (Calls (calls.Frame (sealed body))))
  pub raw : (bytes : List ℕ) → Bytes bytes → 1 ≤ length bytes → length bytes ≤ 16
      → text ≡ joined (codes "raw" ∷ hex_text bytes ∷ []) → Gives (Ok (Calls (calls.Frame bytes)))
  pub pump : (draw : ℕ) → draw < 65536
      → text ≡ joined (codes "tag" ∷ codes "pump" ∷ draw_text draw ∷ [])
      → Gives (Ok (Tag Pump draw))
  pub gauge : (draw : ℕ) → draw < 65536
      → text ≡ joined (codes "tag" ∷ codes "gauge" ∷ draw_text draw ∷ [])
      → Gives (Ok (Tag Gauge draw))
  pub page : (tag page : ℕ) (bytes : List ℕ) → tag < 1000 → page < 1000 → Bytes bytes
      → length bytes ≡ 8
      → text ≡ joined (codes "page" ∷ decimal tag ∷ decimal page ∷ hex_text bytes ∷ [])
      → Gives (Ok (Page tag page bytes))
  -- A first field that is none of the nine words, to the last byte, is unknown, whatever follows. A
  -- CR, a blank or a NUL is part of it.
  pub unknown : (first : List ℕ) (more : List (List ℕ)) → Lacks 44 first
      → All (λ w. first ≢ w.0) words → text ≡ joined (first ∷ more) → Gives (Err fault.UnknownWord)
  -- A word with more fields or fewer than it has is a wrong number of fields, whatever they hold.
  pub miscounted : All (λ w. (more : List (List ℕ)) → length more ≢ w.1
      → All (Lacks 44) more → text ≡ joined (w.0 ∷ more) → Gives (Err fault.FieldCount)) words
