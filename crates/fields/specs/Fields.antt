-- The fields of a line: numbers, bytes and draws.
use Rattle.std.specs.Prelude.{ℕ, ◌+◌, ◌-◌, ◌*◌, ◌≤◌, Bool, cond, not, ◌&&◌, ◌||◌, List, [], ◌∷◌, length, Some, None, Ok, Err, Option, Result, ◌==◌, nat_le, slice_index}
use Rattle.std.specs.Option.{ok_or}
use Rattle.hex_pairs.specs.Hex.{digit_value, byte_of, hex_bytes}
use Rattle.typeb.specs.declared.message.Message.{Message}
use Rattle.typeb.specs.Messages.{bytes_of}
use Rattle.fields.specs.declared.FieldFault.{FieldFault}
use Rattle.fields.specs.declared.FieldFault.TheVariants as fault

-- The value of decimal digits behind a value so far; none where a character is no digit.
abbrev pub digits_after : ℕ → List ℕ → Option ℕ
digits_after value [] = Some value
digits_after value (c ∷ rest) =
    cond (nat_le 48 c && nat_le c 57) (digits_after (10 * value + (c - 48)) rest) None

-- One to three characters, a zero in front only where it is alone.
abbrev pub plain : List ℕ → Bool
plain field =
    (nat_le 1 (length field) && nat_le (length field) 3)
    && (length field == 1 || not (slice_index field 0 == 48))

-- A plain number.
abbrev pub number_of : List ℕ → Result ℕ FieldFault
number_of field =
    cond (plain field) (ok_or (digits_after 0 field) fault.Number) (Err fault.Number)

-- From `least` to `most` bytes, each as two lower-case hex digits.
abbrev pub bytes_in : ℕ → ℕ → List ℕ → Result (List ℕ) FieldFault
bytes_in least most field =
    cond (nat_le (2 * least) (length field) && nat_le (length field) (2 * most))
    (ok_or (hex_bytes field) fault.Bytes) (Err fault.Bytes)

-- The byte of the two digits at a place.
abbrev pub pair_at : ℕ → List ℕ → Option ℕ
pair_at i field = byte_of (digit_value (slice_index field i)) (digit_value (slice_index field (i + 1)))

-- A number of 16 bits from its two bytes, the high byte first.
abbrev pub word_from : Option ℕ → Option ℕ → Option ℕ
word_from (Some high) (Some low) = Some (256 * high + low)
word_from (Some high) None = None
word_from None low = None

-- A draw: four lower-case hex digits.
abbrev pub draw_of : List ℕ → Result ℕ FieldFault
draw_of field =
    cond (length field == 4)
    (ok_or (word_from (pair_at 0 field) (pair_at 2 field)) fault.Draw) (Err fault.Draw)

-- The bytes that a value of the code holds.
abbrev pub option_bytes : Option Message → Option (List ℕ)
option_bytes (Some m) = Some (bytes_of m)
option_bytes None = None

abbrev pub result_bytes : Result Message FieldFault → Result (List ℕ) FieldFault
result_bytes (Ok m) = Ok (bytes_of m)
result_bytes (Err why) = Err why

-- A field gives so many bytes or fewer.
abbrev pub AtMost : ℕ → Result Message FieldFault → Type 0
AtMost most (Ok m) = length (bytes_of m) ≤ most
AtMost most (Err why) = Unit {0}
