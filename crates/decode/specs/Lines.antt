-- Lines of hex byte pairs.
use Rattle.std.specs.Prelude.{ℕ, Bool, cond, ◌||◌, List, [], ◌∷◌, Some, None, vec_items, Option, Vec, ◌==◌}
use Rattle.std.specs.declared.alloc.Global.{Global}
use Rattle.std.specs.Char.{to_ascii_lowercase}
use Rattle.hex_pairs.specs.Hex.{digit_value, byte_of, before}
use Rattle.parts.specs.Parts.{parted}

-- Space, tab and carriage return.
abbrev pub blank : ℕ → Bool
blank c = c == 32 || (c == 9 || c == 13)

-- The byte of two digits, each upper or lower case.
abbrev pub pair_byte : ℕ → ℕ → Option ℕ
pair_byte high low = byte_of (digit_value (to_ascii_lowercase high)) (digit_value (to_ascii_lowercase low))

-- The bytes of a line: pairs of digits, with blanks between and around them, and none inside a pair.
abbrev pub line_bytes : List ℕ → Option (List ℕ)
line_bytes [] = Some []
line_bytes (c ∷ []) = cond (blank c) (Some []) None
line_bytes (c ∷ d ∷ rest) = cond (blank c) (line_bytes (d ∷ rest)) (before (pair_byte c d) (line_bytes rest))

-- The lines of a text, which newlines part. A newline at the end leaves an empty line after it.
abbrev pub lines_of : List ℕ → List (List ℕ)
lines_of text = parted 10 text

-- The bytes in hand, if there are any.
abbrev pub items_of : Option (Vec ℕ Global) → Option (List ℕ)
items_of (Some v) = Some (vec_items v)
items_of None = None
