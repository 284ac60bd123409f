-- What is written is read back.
use Rattle.std.proofs.Common.{◌≡◌, ℕ, suc, ◌+◌, ◌*◌, ◌/◌, ◌%◌, ◌<◌, List, [], ◌∷◌, Some, None, Option, refl, ap, ◌∙◌, suc-le-suc, arith}
use Rattle.std.proofs.lemmas.Bool.Decides.{nat_tests}
use Rattle.hex_pairs.specs.Hex.{hex_digit, hex_text, digit_value, byte_of, before, hex_bytes, Bytes}

digit_read : (n : ℕ) → n < 16 → digit_value (hex_digit n) ≡ Some n
digit_read n h = grind (arith, nat_tests)

pub reads_back : (bytes : List ℕ) → Bytes bytes → hex_bytes (hex_text bytes) ≡ Some bytes
reads_back [] h = refl
reads_back (b ∷ bs) h =
    let small : b < 256 = h 0 (omega arith) in
    let high = digit_read (b / 16) (omega arith) in
    let low = digit_read (b % 16) (omega arith) in
    let rest = reads_back bs (λ i l. h (suc i) (suc-le-suc l)) in
    let whole : b / 16 * 16 + b % 16 ≡ b = omega arith in
    simp (high, low, rest, whole) refl

-- a digit's value is below 16, and its digit is the character that was read
digit_below : (c v : ℕ) → digit_value c ≡ Some v → v < 16
digit_below c v e = grind (arith, nat_tests)

digit_written : (c v : ℕ) → digit_value c ≡ Some v → hex_digit v ≡ c
digit_written c v e = grind (arith, nat_tests)

-- the two digits of a byte, before the rest
pair_written : (h l : ℕ) (rest bytes : List ℕ) (x y : Option ℕ) (r : Option (List ℕ)) → digit_value h ≡ x → digit_value l ≡ y → hex_bytes rest ≡ r
    → before (byte_of x y) r ≡ Some bytes → ((bs : List ℕ) → hex_bytes rest ≡ Some bs → hex_text bs ≡ rest) → hex_text bytes ≡ h ∷ l ∷ rest
pair_written h l rest bytes (Some a) (Some b) (Some bs) p q r e only =
    let small : a < 16 = digit_below h a p in
    let tiny : b < 16 = digit_below l b q in
    let same : bytes ≡ (a * 16 + b) ∷ bs = cc in
    let high : (a * 16 + b) / 16 ≡ a = omega arith in
    let low : (a * 16 + b) % 16 ≡ b = omega arith in
    ap hex_text same ∙ simp (high, low, digit_written h a p, digit_written l b q, only bs r) refl
pair_written h l rest bytes (Some a) (Some b) None p q r e only = let z : ◌≡◌ {A = ℕ} 0 1 = cc in absurd (omega arith)
pair_written h l rest bytes (Some a) None r p q o e only = let z : ◌≡◌ {A = ℕ} 0 1 = cc in absurd (omega arith)
pair_written h l rest bytes None y r p q o e only = let z : ◌≡◌ {A = ℕ} 0 1 = cc in absurd (omega arith)

pub only_written : (text bytes : List ℕ) → hex_bytes text ≡ Some bytes → hex_text bytes ≡ text
only_written [] bytes e = let none : bytes ≡ [] = cc in ap hex_text none
only_written (c ∷ []) bytes e = let z : ◌≡◌ {A = ℕ} 0 1 = cc in absurd (omega arith)
only_written (h ∷ l ∷ rest) bytes e =
    pair_written h l rest bytes (digit_value h) (digit_value l) (hex_bytes rest) refl refl refl e (only_written rest)
