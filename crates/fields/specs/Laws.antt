-- What is printed is read back, and nothing else is read.
use Rattle.std.specs.Prelude.{◌≡◌, ℕ, ◌/◌, ◌%◌, ◌<◌, ◌≤◌, List, [], ◌∷◌, length, Ok, decimal}
use Rattle.hex_pairs.specs.Hex.{Bytes, hex_text}
use Rattle.fields.specs.Fields.{number_of, bytes_in, draw_of}

-- A number below 1000 in decimal.
abbrev pub NumberReadsBack : Type 0
NumberReadsBack = (n : ℕ) → n < 1000 → number_of (decimal n) ≡ Ok n

-- Bytes in hex, where their count fits.
abbrev pub BytesReadBack : Type 0
BytesReadBack =
    (least most : ℕ) (bytes : List ℕ) → Bytes bytes → least ≤ length bytes → length bytes ≤ most
    → bytes_in least most (hex_text bytes) ≡ Ok bytes

-- A number of 16 bits in hex, its high byte first.
abbrev pub DrawReadsBack : Type 0
DrawReadsBack =
    (draw : ℕ) → draw < 65536 → draw_of (hex_text (draw / 256 ∷ draw % 256 ∷ [])) ≡ Ok draw

-- A field that gives a number is its decimal text, and the number is below 1000.
pub record NumberOnlyRead : Type 0 where
  pub below : (field : List ℕ) (n : ℕ) → number_of field ≡ Ok n → n < 1000
  pub text : (field : List ℕ) (n : ℕ) → number_of field ≡ Ok n → field ≡ decimal n

-- A field that gives bytes is their hex text, and their count fits.
pub record BytesOnlyRead : Type 0 where
  pub enough : (least most : ℕ) (field bytes : List ℕ)
      → bytes_in least most field ≡ Ok bytes → least ≤ length bytes
  pub fits : (least most : ℕ) (field bytes : List ℕ)
      → bytes_in least most field ≡ Ok bytes → length bytes ≤ most
  pub text : (least most : ℕ) (field bytes : List ℕ)
      → bytes_in least most field ≡ Ok bytes → field ≡ hex_text bytes

-- A field that gives a draw is the hex text of its two bytes, the high one first.
pub record DrawOnlyRead : Type 0 where
  pub below : (field : List ℕ) (draw : ℕ) → draw_of field ≡ Ok draw → draw < 65536
  pub text : (field : List ℕ) (draw : ℕ)
      → draw_of field ≡ Ok draw → field ≡ hex_text (draw / 256 ∷ draw % 256 ∷ [])
