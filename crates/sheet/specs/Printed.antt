-- What is printed of each answer and of a refusal, to the last byte, and the numbers of the faults.
use Rattle.std.specs.Prelude.{◌≡◌, ℕ, zero, suc, List, [], ◌∷◌, ◌++◌, map, take, codes, decimal}
use Rattle.hex_pairs.specs.Hex.{hex_text}
use Rattle.fields.specs.declared.FieldFault.TheVariants as form
use Rattle.parts.specs.Parts.{lined}
use Rattle.refusals.specs.Numbers.{number}
use Rattle.refusals.specs.declared.Refusal.{Refusal}
use Rattle.tray_core.specs.declared.calls.Answer.TheVariants.{Done, Silent, Reply, Clash, Stock}
use Rattle.sheet.specs.declared.faults.LineFault.TheVariants as fault
use Rattle.sheet.specs.Faults.{fault_number}
use Rattle.sheet.specs.Printing.{printed_answer, printed_refusal}

-- The lines of the first so many serial numbers of a list; of all of it where it has fewer.
abbrev pub serials : ℕ → ℕ → List (List ℕ) → List (List ℕ)
serials line zero list = []
serials line (suc k) [] = []
serials line (suc k) (serial ∷ list) =
    (decimal line ++ (codes ",serial," ++ hex_text serial)) ∷ serials line k list

pub record Printed : Type 0 where
  -- An answer of the call at a line, with the buffer and the list that the call left.
  pub done : (line : ℕ) (buffer : List ℕ) (list : List (List ℕ))
      → printed_answer line Done buffer list ≡ decimal line ++ codes ",ok\n"
  pub silent : (line : ℕ) (buffer : List ℕ) (list : List (List ℕ))
      → printed_answer line Silent buffer list ≡ decimal line ++ codes ",none\n"
  pub reply : (line len : ℕ) (buffer : List ℕ) (list : List (List ℕ))
      → printed_answer line (Reply len) buffer list
      ≡ decimal line ++ (codes ",reply," ++ (hex_text (take len buffer) ++ codes "\n"))
  pub clash : (line count : ℕ) (buffer : List ℕ) (list : List (List ℕ))
      → printed_answer line (Clash count) buffer list
      ≡ decimal line ++ (codes ",clash," ++ (decimal count ++ codes "\n"))
  -- A stock has a line of counts, and then one for each serial number that was listed.
  pub stock : (line frames rounds clashes listed : ℕ) (buffer : List ℕ) (list : List (List ℕ))
      → printed_answer line (Stock frames rounds clashes listed) buffer list
      ≡ lined ((decimal line ++ (codes ",stock," ++ (decimal frames ++ (codes ","
      ++ (decimal rounds ++ (codes "," ++ decimal clashes)))))) ∷ serials line listed list)
  pub refused : (line why : ℕ)
      → printed_refusal line why
      ≡ decimal line ++ (codes ",refused," ++ (decimal why ++ codes "\n"))
  -- A line without its LF, an unknown word, a wrong number of fields, a field not in its form,
  -- whichever form it is, a tag or page line after a call, and no such tag or page.
  pub faults : map fault_number (fault.Unended ∷ fault.UnknownWord ∷ fault.FieldCount
      ∷ fault.Field form.Number ∷ fault.Field form.Bytes ∷ fault.Field form.Draw
      ∷ fault.Field form.Kind ∷ fault.TagAfterCall ∷ fault.NoSuchPage ∷ [])
      ≡ 13 ∷ 14 ∷ 15 ∷ 16 ∷ 16 ∷ 16 ∷ 16 ∷ 17 ∷ 18 ∷ []
  -- Any other refusal of a line is one of the tray or of making a tag, by its own number.
  pub other : (why : Refusal) → fault_number (fault.Refused why) ≡ number why
