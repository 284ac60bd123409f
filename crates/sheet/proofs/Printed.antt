-- What is printed, line by line.
use Rattle.std.proofs.Common.{◌≡◌, ℕ, zero, suc, List, [], ◌∷◌, ◌++◌, take, codes, decimal, sym, refl, ap, ◌∙◌, append_assoc}
use Rattle.std.specs.List.{flat_map}
use Rattle.parts.specs.Parts.{lined}
use Rattle.sheet.specs.Printed.{serials, Printed}
use Rattle.sheet.specs.Printing.{serial_line}

-- a line that follows counts, moved out of them
counts : (frames rounds clashes behind last : List ℕ)
    → (frames ++ (44 ∷ (rounds ++ (44 ∷ (clashes ++ behind))))) ++ last ≡ (frames ++ (44 ∷ (rounds ++ (44 ∷ clashes)))) ++ (behind ++ last)
counts frames rounds clashes behind last =
    append_assoc frames (44 ∷ (rounds ++ (44 ∷ (clashes ++ behind)))) last
    ∙ ap (λ (t : List ℕ). frames ++ (44 ∷ t))
    (append_assoc rounds (44 ∷ (clashes ++ behind)) last
    ∙ ap (λ (t : List ℕ). rounds ++ (44 ∷ t)) (append_assoc clashes behind last)
    ∙ sym (append_assoc rounds (44 ∷ clashes) (behind ++ last)))
    ∙ sym (append_assoc frames (44 ∷ (rounds ++ (44 ∷ clashes))) (behind ++ last))

-- the serial numbers as lines
listed_lines : (line k : ℕ) (list : List (List ℕ)) → flat_map (serial_line line) (take k list) ++ (10 ∷ []) ≡ 10 ∷ lined (serials line k list)
listed_lines line zero list = refl
listed_lines line (suc k) [] = refl
listed_lines line (suc k) (serial ∷ list) =
    append_assoc (serial_line line serial) (flat_map (serial_line line) (take k list)) (10 ∷ [])
    ∙ ap (λ (t : List ℕ). serial_line line serial ++ t) (listed_lines line k list)

stock_lines : (line listed : ℕ) (frames rounds clashes : List ℕ) (list : List (List ℕ))
    → decimal line ++ (codes ",stock," ++ ((frames ++ (44 ∷ (rounds ++ (44 ∷ (clashes ++ flat_map (serial_line line) (take listed list)))))) ++ (10 ∷ [])))
    ≡ lined ((decimal line ++ (codes ",stock," ++ (frames ++ (44 ∷ (rounds ++ (44 ∷ clashes)))))) ∷ serials line listed list)
stock_lines line listed frames rounds clashes list =
    let numbers : List ℕ = frames ++ (44 ∷ (rounds ++ (44 ∷ clashes))) in
    ap (λ (t : List ℕ). decimal line ++ (codes ",stock," ++ t))
    (counts frames rounds clashes (flat_map (serial_line line) (take listed list)) (10 ∷ []) ∙ ap (λ (t : List ℕ). numbers ++ t) (listed_lines line listed list))
    ∙ sym (append_assoc (decimal line) (codes ",stock," ++ numbers) (10 ∷ lined (serials line listed list)))

pub printed : Printed
printed =
    record {
      done = λ line buffer list. refl;
      silent = λ line buffer list. refl;
      reply = λ line len buffer list. refl;
      clash = λ line count buffer list. refl;
      stock = λ line frames rounds clashes listed buffer list. stock_lines line listed (decimal frames) (decimal rounds) (decimal clashes) list;
      refused = λ line why. refl;
      faults = refl;
      other = λ why. refl;
    }
