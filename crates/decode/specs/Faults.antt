-- The message for a line that is no hex.
use Rattle.std.specs.Prelude.{ℕ, cond, ◌&&◌, List, [], ◌∷◌, ◌++◌, length, take, codes, decimal, nat_le}
use Rattle.std.specs.List.{flat_map}
use Rattle.hex_pairs.specs.Hex.{hex_text}
use Rattle.decode.specs.Words.{text}

-- A character as it is quoted in a message: a printable one as it stands, any other as \x and its code.
abbrev pub quoted_byte : ℕ → List ℕ
quoted_byte c = cond (nat_le 32 c && nat_le c 126) (c ∷ []) (92 ∷ 120 ∷ hex_text (c ∷ []))

-- A line as it is quoted: of a long one the first 40 characters.
abbrev pub quoted : List ℕ → List ℕ
quoted line = cond (nat_le (length line) 40) (flat_map quoted_byte line) (flat_map quoted_byte (take 40 line) ++ codes " ..")

-- The message for a line that is no hex.
abbrev pub fault_of : ℕ → List ℕ → List ℕ
fault_of number line = text (codes "line " ∷ decimal number ∷ codes ": not hex byte pairs, such as 05 00 00: " ∷ quoted line ∷ [])
