-- How the answers of calls, and a refusal, are printed.
use Rattle.std.specs.Prelude.{ℕ, List, [], ◌∷◌, ◌++◌, take, codes, decimal}
use Rattle.std.specs.List.{flat_map}
use Rattle.hex_pairs.specs.Hex.{hex_text}
use Rattle.tray_core.specs.declared.calls.Answer.{Answer}
use Rattle.tray_core.specs.declared.calls.Answer.TheVariants.{Done, Silent, Reply, Clash, Stock}

-- Parts of a text, one after another.
abbrev pub text : List (List ℕ) → List ℕ
text [] = []
text (part ∷ []) = part
text (part ∷ next ∷ parts) = part ++ text (next ∷ parts)

-- A serial number of a stock, on a line of its own.
abbrev pub serial_line : ℕ → List ℕ → List ℕ
serial_line number serial = text (codes "\n" ∷ decimal number ∷ codes ",serial," ∷ hex_text serial ∷ [])

-- What is printed of an answer behind the line's number. Of the buffer the reply counts, of the list what was listed.
abbrev pub answer_text : ℕ → Answer → List ℕ → List (List ℕ) → List ℕ
answer_text number Done buffer list = codes "ok"
answer_text number Silent buffer list = codes "none"
answer_text number (Reply len) buffer list = text (codes "reply," ∷ hex_text (take len buffer) ∷ [])
answer_text number (Clash count) buffer list = text (codes "clash," ∷ decimal count ∷ [])
answer_text number (Stock frames rounds clashes listed) buffer list =
    text (codes "stock," ∷ decimal frames ∷ codes "," ∷ decimal rounds ∷ codes "," ∷ decimal clashes ∷ flat_map (serial_line number) (take listed list) ∷ [])

-- A call's lines.
abbrev pub printed_answer : ℕ → Answer → List ℕ → List (List ℕ) → List ℕ
printed_answer number answer buffer list = text (decimal number ∷ codes "," ∷ answer_text number answer buffer list ∷ codes "\n" ∷ [])

-- The line of a refusal.
abbrev pub printed_refusal : ℕ → ℕ → List ℕ
printed_refusal number why = text (decimal number ∷ codes ",refused," ∷ decimal why ∷ codes "\n" ∷ [])
