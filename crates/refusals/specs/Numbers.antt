-- The fixed number of every refusal.
use Rattle.std.specs.Prelude.{ℕ, Bool, cond, Ok, Err, Result}
use Rattle.refusals.specs.declared.Refusal.{Refusal}
use Rattle.refusals.specs.declared.Refusal.TheVariants as is

abbrev pub number : Refusal → ℕ
number is.ImageLength = 1
number is.ImageLockBits = 2
number is.ImageCounter = 3
number is.RowTooLong = 4
number is.NoSuchTag = 5
number is.BufferTooShort = 6
number is.ListTooShort = 7
number is.ValueOutOfRange = 8
number is.ReplyLength = 9
number is.ReplyUnsound = 10
number is.ReplyUnexpected = 11
number is.SheetTooLong = 12
number is.LineTooLong = 13
number is.UnknownWord = 14
number is.FieldCount = 15
number is.FieldForm = 16
number is.TagAfterCall = 17
number is.NoSuchPage = 18

-- What a call came to: what its value means, or the number of its refusal.
abbrev pub outcome : {T M : Type 0} → (T → M) → Result T Refusal → Result M ℕ
outcome means (Ok value) = Ok (means value)
outcome means (Err why) = Err (number why)

-- The value itself, or the number.
abbrev pub numbered : {A : Type 0} → Result A Refusal → Result A ℕ
numbered r = outcome (λ value. value) r

-- A question before work: where the answer is no, its number is the outcome.
abbrev pub asked : {A : Type 0} → Bool → ℕ → Result A ℕ → Result A ℕ
asked passed why go = cond passed go (Err why)
