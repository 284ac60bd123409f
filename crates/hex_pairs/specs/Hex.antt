-- Bytes as hex text: two lower-case digits for each byte, the high nibble first.
use Rattle.std.specs.Prelude.{◌≡◌, ℕ, ◌+◌, ◌-◌, ◌*◌, ◌/◌, ◌%◌, ◌<◌, cond, ◌&&◌, List, [], ◌∷◌, length, Some, None, codes, Option, nat_le, nat_lt, slice_index}

-- The character of a value below 16: '0' to '9', then 'a' to 'f'.
abbrev pub hex_digit : ℕ → ℕ
hex_digit value = cond (nat_lt value 10) (48 + value) (87 + value)

-- The text of some bytes.
abbrev pub hex_text : List ℕ → List ℕ
hex_text [] = []
hex_text (byte ∷ bytes) = hex_digit (byte / 16) ∷ hex_digit (byte % 16) ∷ hex_text bytes

-- The value of a lower-case digit; none for any other character.
abbrev pub digit_value : ℕ → Option ℕ
digit_value c =
    cond (nat_le 48 c && nat_le c 57) (Some (c - 48))
    (cond (nat_le 97 c && nat_le c 102) (Some (c - 87)) None)

-- The byte of two digits, from their values; none where one is missing.
abbrev pub byte_of : Option ℕ → Option ℕ → Option ℕ
byte_of (Some high) (Some low) = Some (high * 16 + low)
byte_of (Some high) None = None
byte_of None low = None

-- A byte before those that follow; none where a part is missing.
abbrev pub before : Option ℕ → Option (List ℕ) → Option (List ℕ)
before (Some byte) (Some bytes) = Some (byte ∷ bytes)
before (Some byte) None = None
before None bytes = None

-- The bytes of a text; none where a digit is left over or a character is no lower-case digit.
abbrev pub hex_bytes : List ℕ → Option (List ℕ)
hex_bytes [] = Some []
hex_bytes (digit ∷ []) = None
hex_bytes (high ∷ low ∷ rest) = before (byte_of (digit_value high) (digit_value low)) (hex_bytes rest)

-- Every element of a list is a byte.
abbrev pub Bytes : List ℕ → Type 0
Bytes xs = (i : ℕ) → i < length xs → slice_index xs i < 256

-- Reading gives back what was written, for all bytes.
abbrev pub ReadsBack : Type 0
ReadsBack = (bytes : List ℕ) → Bytes bytes → hex_bytes (hex_text bytes) ≡ Some bytes

-- No other text is read: what gives bytes is the text that is written of them.
abbrev pub OnlyWritten : Type 0
OnlyWritten = (text bytes : List ℕ) → hex_bytes text ≡ Some bytes → hex_text bytes ≡ text

-- The sixteen digits, in order.
abbrev pub AllDigits : Type 0
AllDigits = hex_text (0x01 ∷ 0x23 ∷ 0x45 ∷ 0x67 ∷ 0x89 ∷ 0xAB ∷ 0xCD ∷ 0xEF ∷ []) ≡ codes "0123456789abcdef"
