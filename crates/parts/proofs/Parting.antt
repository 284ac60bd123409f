-- Nothing but the mark parts a text.
use Rattle.std.proofs.Common.{◌≡◌, ◌≢◌, ℕ, false, List, [], ◌∷◌, ◌++◌, ◌==◌, All, get_or, refl, ap, ◌∙◌, append_assoc}
use Rattle.std.specs.List.{join_with_byte}
use Rattle.std.proofs.lemmas.Bool.{eq-eqb, ne_eqb}
use Rattle.std.proofs.lemmas.List.Elements.{All-head, All-tail}
use Rattle.std.proofs.lemmas.List.Splits.{slice_split_at, slice_split_none}
use Rattle.parts.specs.Parts.{parted, ended_by, Lacks, Parting}

module _ (mark : ℕ) where
  unmarked : (text : List ℕ) → Lacks mark text → All (λ c. (c == mark) ≡ false) text
  unmarked text lacks = λ k d below. ne_eqb (get_or text k d) mark (lacks k d below)

  whole : (text : List ℕ) → Lacks mark text → parted mark text ≡ text ∷ []
  whole text lacks = slice_split_none (λ c. c == mark) text (unmarked text lacks)

  first : (front rest : List ℕ) → Lacks mark front → parted mark (front ++ (mark ∷ rest)) ≡ front ∷ parted mark rest
  first front rest lacks = slice_split_at (λ c. c == mark) front mark rest (unmarked front lacks) (eq-eqb mark mark refl)

  fields : (fields : List (List ℕ)) → fields ≢ [] → All (Lacks mark) fields → parted mark (join_with_byte mark fields) ≡ fields
  fields [] some lack = absurd (some refl)
  fields (field ∷ []) some lack = whole field (All-head (Lacks mark) field [] lack)
  fields (field ∷ next ∷ more) some lack =
      first field (join_with_byte mark (next ∷ more)) (All-head (Lacks mark) field (next ∷ more) lack)
      ∙ ap (λ (parts : List (List ℕ)). field ∷ parts) (fields (next ∷ more) (λ e. cc) (All-tail (Lacks mark) field (next ∷ more) lack))

  lines : (lines : List (List ℕ)) (last : List ℕ) → All (Lacks mark) lines → Lacks mark last → parted mark (ended_by mark lines ++ last) ≡ lines ++ (last ∷ [])
  lines [] last lack end = whole last end
  lines (line ∷ more) last lack end =
      ap (parted mark) (append_assoc line (mark ∷ ended_by mark more) last)
      ∙ first line (ended_by mark more ++ last) (All-head (Lacks mark) line more lack)
      ∙ ap (λ (parts : List (List ℕ)). line ∷ parts) (lines more last (All-tail (Lacks mark) line more lack) end)

  pub parting : Parting mark
  parting = record { fields = fields; lines = lines; first = first }
