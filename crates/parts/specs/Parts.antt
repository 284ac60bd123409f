-- Texts that are cut at a mark: LF parts lines, a comma parts fields.
use Rattle.std.specs.Prelude.{◌≡◌, ℕ, ◌+◌, List, [], ◌∷◌, ◌++◌, All, length, Some, None, Option, ◌==◌, ◌≢◌}
use Rattle.std.specs.Borrow.{Bor}
use Rattle.std.specs.List.{slice_split, join_with_byte, count_by}

-- The parts of a text between marks. A mark at the end leaves an empty part.
abbrev pub parted : ℕ → List ℕ → List (List ℕ)
parted mark text = slice_split (λ c. c == mark) text

-- Lines as a text, each ended by a mark: by LF.
abbrev pub ended_by : ℕ → List (List ℕ) → List ℕ
ended_by mark [] = []
ended_by mark (line ∷ lines) = line ++ (mark ∷ ended_by mark lines)

abbrev pub lined : List (List ℕ) → List ℕ
lined lines = ended_by 10 lines

-- Fields as a line, joined by commas.
abbrev pub joined : List (List ℕ) → List ℕ
joined fields = join_with_byte 44 fields

-- Fields that were asked for one after another, up to the first that is not there.
abbrev pub given : List (Option (Bor (List ℕ))) → List (List ℕ)
given [] = []
given (None ∷ more) = []
given (Some field ∷ more) = field.now ∷ given more

-- What a cut is: the parts, joined by the mark, are the text again, and they are one more than the marks.
-- So no part holds a mark.
pub record Cut (mark : ℕ) (text : List ℕ) : Type 0 where
  pub joined : join_with_byte mark (parted mark text) ≡ text
  pub marks : length (parted mark text) ≡ count_by (λ c. c == mark) text + 1

-- A text in which the mark does not stand. Any other character may, CR, blank and NUL among them.
abbrev pub Lacks : ℕ → List ℕ → Type 0
Lacks mark text = All (λ c. c ≢ mark) text

-- Nothing but the mark parts a text: parts without it, put together with it, are parted into these
-- parts and no others.
pub record Parting (mark : ℕ) : Type 0 where
  -- Fields, one or more, joined by the mark.
  pub fields : (fields : List (List ℕ)) → fields ≢ [] → All (Lacks mark) fields
      → parted mark (join_with_byte mark fields) ≡ fields
  -- Lines, each ended by the mark, and what stands behind the last mark.
  pub lines : (lines : List (List ℕ)) (last : List ℕ) → All (Lacks mark) lines → Lacks mark last
      → parted mark (ended_by mark lines ++ last) ≡ lines ++ (last ∷ [])
  -- The first part ends at the first mark, whatever follows it.
  pub first : (front rest : List ℕ) → Lacks mark front
      → parted mark (front ++ (mark ∷ rest)) ≡ front ∷ parted mark rest
