use Rattle.std.proofs.Common.{◌≡◌, ℕ, List, [], ◌∷◌, take, Some, None, Ok, Option, Result, sym, refl, ap, ◌∙◌}
use Rattle.std.specs.Option.{ok_or}
use Rattle.parts.specs.Parts.{parted, given}
use Rattle.sheet.specs.declared.faults.LineFault.{LineFault}
use Rattle.sheet.specs.declared.words.Word.{Word}
use Rattle.sheet.specs.declared.words.Word.TheVariants.{Tag, Page, On, Off, Place, Lift, Stock, Send, Raw}
use Rattle.sheet.specs.Lines.{behind_say, fields_say, word_of}
use Rattle.sheet.specs.declared.lines.Line.{Line}
use Rattle.sheet.specs.CallWords.{IsRead}
use Rattle.sheet.proofs.CallWords.{call_words, by_value, said_words}
use Rattle.sheet.proofs.FieldForms.{field_forms, said_forms}
use Rattle.sheet.proofs.lines.read_line.Goals as goal

-- no word has four fields behind it
too_many : (o : Option Word) (a b c d : List ℕ) (more : List (List ℕ)) → behind_say o (a ∷ b ∷ c ∷ d ∷ []) ≡ behind_say o (a ∷ b ∷ c ∷ d ∷ more)
too_many (Some Tag) a b c d more = refl
too_many (Some Page) a b c d more = refl
too_many (Some On) a b c d more = refl
too_many (Some Off) a b c d more = refl
too_many (Some Place) a b c d more = refl
too_many (Some Lift) a b c d more = refl
too_many (Some Stock) a b c d more = refl
too_many (Some Send) a b c d more = refl
too_many (Some Raw) a b c d more = refl
too_many None a b c d more = refl

-- so five fields say what all of them do
first_say : (fields : List (List ℕ)) → fields_say (take 5 fields) ≡ fields_say fields
first_say [] = refl
first_say (w ∷ []) = refl
first_say (w ∷ a ∷ []) = refl
first_say (w ∷ a ∷ b ∷ []) = refl
first_say (w ∷ a ∷ b ∷ c ∷ []) = refl
first_say (w ∷ a ∷ b ∷ c ∷ d ∷ more) = too_many (word_of w) a b c d more

known : (o : Option Word) (word : Word) (fault : LineFault) → Ok word ≡ ok_or o fault → o ≡ Some word
known (Some w) word fault e = cc
known None word fault e = cc

pub returns-clause-result : goal.returns-clause-result
returns-clause-result c =
    let first : List ℕ = c.split_fields.result.0.now in
    let behind : List (List ℕ) = given c.split_fields.result.1 in
    c.read_fields.ensures
    ∙ ap (λ (o : Option Word). behind_say o behind) (sym (known (word_of first) c.in_ok-word.word _ c.in_ok-word.ensures))
    ∙ ap fields_say c.split_fields.ensures.result
    ∙ first_say (parted 44 c.args.line.now)

pub returns-clause-words : goal.returns-clause-words
returns-clause-words c =
    let text : List ℕ = c.args.line.now in
    let r : Result Line LineFault = c.read_fields.result in
    call_words text (IsRead r) (by_value text r (returns-clause-result c))

pub returns-clause-forms : goal.returns-clause-forms
returns-clause-forms c =
    let text : List ℕ = c.args.line.now in
    let r : Result Line LineFault = c.read_fields.result in
    field_forms text (IsRead r) (by_value text r (returns-clause-result c))

pub returns-clause-said_words : goal.returns-clause-said_words
returns-clause-said_words c = said_words c.args.line.now

pub returns-clause-said_forms : goal.returns-clause-said_forms
returns-clause-said_forms c = said_forms c.args.line.now
