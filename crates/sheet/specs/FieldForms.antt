-- Which fault a line has whose word and number of fields are right, and a field of it is not in its
-- form: that of the first such field.
use Rattle.std.specs.Prelude.{◌≡◌, ◌≢◌, ℕ, ◌<◌, ◌≤◌, ◌⊎◌, List, [], ◌∷◌, length, Err, Result, codes, decimal}
use Rattle.hex_pairs.specs.Hex.{Bytes, hex_text}
use Rattle.parts.specs.Parts.{joined, Lacks}
use Rattle.fields.specs.declared.FieldFault.TheVariants as form
use Rattle.sheet.specs.declared.faults.LineFault.{LineFault}
use Rattle.sheet.specs.declared.faults.LineFault.TheVariants as fault
use Rattle.sheet.specs.CallWords.{draw_text}
use Rattle.sheet.specs.Lines.{Says}

-- A field that is not the decimal text of a number below 1000.
abbrev pub NoNumber : List ℕ → Type 0
NoNumber text = (n : ℕ) → n < 1000 → text ≢ decimal n

-- One that is not the hex text of so many bytes.
abbrev pub NoBytes : ℕ → ℕ → List ℕ → Type 0
NoBytes least most text =
    (bytes : List ℕ) → Bytes bytes → least ≤ length bytes → length bytes ≤ most
    → text ≢ hex_text bytes

-- One that is not the text of a draw number.
abbrev pub NoDraw : List ℕ → Type 0
NoDraw text = (draw : ℕ) → draw < 65536 → text ≢ draw_text draw

pub record FieldForms (text : List ℕ) (Gives : Result Says LineFault → Type 0) : Type 0 where
  pub place : (tag : List ℕ) → Lacks 44 tag → NoNumber tag
      → text ≡ joined (codes "place" ∷ tag ∷ []) → Gives (Err (fault.Field form.Number))
  pub lift : (tag : List ℕ) → Lacks 44 tag → NoNumber tag
      → text ≡ joined (codes "lift" ∷ tag ∷ []) → Gives (Err (fault.Field form.Number))
  -- A send line has 1 to 14 bytes, a raw line 1 to 16.
  pub send : (body : List ℕ) → Lacks 44 body → NoBytes 1 14 body
      → text ≡ joined (codes "send" ∷ body ∷ []) → Gives (Err (fault.Field form.Bytes))
  pub raw : (bytes : List ℕ) → Lacks 44 bytes → NoBytes 1 16 bytes
      → text ≡ joined (codes "raw" ∷ bytes ∷ []) → Gives (Err (fault.Field form.Bytes))
  -- A tag line: its kind, and then its draw number.
  pub kind : (kind draw : List ℕ) → Lacks 44 kind → Lacks 44 draw → kind ≢ codes "pump"
      → kind ≢ codes "gauge" → text ≡ joined (codes "tag" ∷ kind ∷ draw ∷ [])
      → Gives (Err (fault.Field form.Kind))
  pub draw : (kind draw : List ℕ) → (kind ≡ codes "pump") ⊎ (kind ≡ codes "gauge")
      → Lacks 44 draw → NoDraw draw → text ≡ joined (codes "tag" ∷ kind ∷ draw ∷ [])
      → Gives (Err (fault.Field form.Draw))
  -- A page line: its tag, then its page, and then its eight bytes.
  pub page_tag : (tag page bytes : List ℕ) → Lacks 44 tag → Lacks 44 page → Lacks 44 bytes
      → NoNumber tag → text ≡ joined (codes "page" ∷ tag ∷ page ∷ bytes ∷ [])
      → Gives (Err (fault.Field form.Number))
  pub page_page : (tag : ℕ) (page bytes : List ℕ) → tag < 1000 → Lacks 44 page → Lacks 44 bytes
      → NoNumber page → text ≡ joined (codes "page" ∷ decimal tag ∷ page ∷ bytes ∷ [])
      → Gives (Err (fault.Field form.Number))
  pub page_bytes : (tag page : ℕ) (bytes : List ℕ) → tag < 1000 → page < 1000 → Lacks 44 bytes
      → NoBytes 8 8 bytes → text ≡ joined (codes "page" ∷ decimal tag ∷ decimal page ∷ bytes ∷ [])
      → Gives (Err (fault.Field form.Bytes))
