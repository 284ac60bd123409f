-- Text that is quoted character by character.
use Rattle.std.proofs.Common.{◌≡◌, ℕ, ◌+◌, ◌<◌, List, [], ◌++◌, length, get_or, take, sym, ap, ◌∙◌}
use Rattle.std.specs.List.{flat_map}
use Rattle.std.proofs.lemmas.List.{take_more, flat_map_more}
use Rattle.decode.specs.Faults.{quoted_byte}

-- one character more
pub quoted_more : (xs : List ℕ) (i : ℕ) → i < length xs → flat_map quoted_byte (take i xs) ++ quoted_byte (get_or xs i 0) ≡ flat_map quoted_byte (take (i + 1) xs)
quoted_more xs i h = flat_map_more quoted_byte [] (take i xs) (get_or xs i 0) ∙ ap (flat_map quoted_byte) (sym (take_more xs i 0 h))
