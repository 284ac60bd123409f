-- The steps by which a line is read.
use Rattle.std.proofs.Common.{◌≡◌, ℕ, ◌-◌, ◌≤◌, false, List, [], ◌∷◌, ◌++◌, length, get_or, take, drop, Some, None, Option, sym, refl, ap, ◌∙◌, append_assoc, arith}
use Rattle.std.proofs.lemmas.List.{take_rest}
use Rattle.hex_pairs.specs.Hex.{before}
use Rattle.decode.specs.Lines.{blank, pair_byte, line_bytes}

-- bytes that were read, before those that a rest gives
abbrev pub followed : List ℕ → Option (List ℕ) → Option (List ℕ)
followed bytes (Some more) = Some (bytes ++ more)
followed bytes None = None

pair : (xs : List ℕ) (byte : ℕ) → 2 ≤ length xs → blank (get_or xs 0 0) ≡ false → pair_byte (get_or xs 0 0) (get_or xs 1 0) ≡ Some byte → line_bytes xs ≡ before (Some byte) (line_bytes (drop 2 xs))
pair [] byte h b e = absurd (omega arith)
pair (c ∷ []) byte h b e = absurd (omega arith)
pair (c ∷ d ∷ rest) byte h b e = rw (b, e) refl

followed_more : (xs : List ℕ) (byte : ℕ) (rest : Option (List ℕ)) → followed (xs ++ (byte ∷ [])) rest ≡ followed xs (before (Some byte) rest)
followed_more xs byte None = refl
followed_more xs byte (Some ys) = ap (λ (zs : List ℕ). Some zs) (append_assoc xs (byte ∷ []) ys)

-- a pair is read off the front, and its byte goes behind those that were read
pub pair_read : (old new xs : List ℕ) (byte : ℕ) → 2 ≤ length xs → blank (get_or xs 0 0) ≡ false → pair_byte (get_or xs 0 0) (get_or xs 1 0) ≡ Some byte
    → new ≡ old ++ (byte ∷ []) → followed new (line_bytes (take (length xs - 2) (drop 2 xs))) ≡ followed old (line_bytes xs)
pair_read old new xs byte h b e more =
    ap (λ (bytes : List ℕ). followed bytes (line_bytes (take (length xs - 2) (drop 2 xs)))) more
    ∙ ap (λ (rest : List ℕ). followed (old ++ (byte ∷ [])) (line_bytes rest)) (take_rest xs 2)
    ∙ followed_more old byte (line_bytes (drop 2 xs))
    ∙ ap (followed old) (sym (pair xs byte h b e))
