-- Lines as they are cut from a sheet, each with the LF that ends it.
use Rattle.std.specs.Prelude.{◌≡◌, ℕ, ◌<◌, ◌≤◌, List, [], ◌∷◌, ◌++◌, length}

-- A line of 79 bytes or fewer before its LF.
abbrev pub IsEnded : List ℕ → List ℕ → Type 0
IsEnded cut line = (cut ≡ line ++ (10 ∷ [])) × (length line ≤ 79)

-- A longer line, or one without its LF.
abbrev pub IsUnended : List ℕ → Type 0
IsUnended cut = (line : List ℕ) → cut ≡ line ++ (10 ∷ []) → 79 < length line
