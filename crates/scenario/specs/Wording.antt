-- Commands, calls, what is heard, answers and refusals, in plain words.
use Rattle.std.specs.Prelude.{ℕ, Bool, cond, List, [], ◌∷◌, ◌++◌, Some, Ok, Err, Option, Result, codes, decimal, ◌==◌}
use Rattle.refusals.specs.declared.Refusal.{Refusal}
use Rattle.refusals.specs.declared.Refusal.TheVariants as refusal
use Rattle.refusals.specs.Numbers.{number}
use Rattle.hex_pairs.specs.Hex.{hex_text}
use Rattle.kinds.specs.Says.{Says, Answer, Card, Page, Acknowledged, Refused}
use Rattle.reader.specs.Commands.{Asked, Request, SlotMarker, Attrib, Halt, Read, Write, Lock, CheckPassword, Deselect, Count}
use Rattle.tray_core.specs.declared.calls.Answer as calls
use Rattle.tray_core.specs.declared.calls.Answer.TheVariants as answer
use Rattle.tray_core.specs.Step as step
use Rattle.scenario.specs.Speaks.{Hearing, Silence, Clash, Said}

abbrev pub answer_words : List ℕ → List ℕ
answer_words serial = codes "answer from " ++ hex_text serial

abbrev pub page_words : List ℕ → List ℕ
page_words bytes = codes "page " ++ hex_text bytes

abbrev pub refused_words : ℕ → List ℕ
refused_words code = codes "refused " ++ hex_text (code ∷ [])

-- What one tag says.
abbrev pub said_words : Says → List ℕ
said_words (Answer serial application protocol) = answer_words serial
said_words (Card cid) = codes "card " ++ decimal cid
said_words (Page bytes) = page_words bytes
said_words Acknowledged = codes "acknowledged"
said_words (Refused code) = refused_words code

abbrev pub hearing_words : Hearing → List ℕ
hearing_words Silence = codes "silence"
hearing_words (Clash n) = codes "clash of " ++ decimal n
hearing_words (Said says) = said_words says

-- REQB, or WUPB where the flag is set.
abbrev pub request_words : Bool → ℕ → ℕ → List ℕ
request_words wake_up family slots =
    cond wake_up (codes "wake-up") (codes "request")
    ++ (codes ", family " ++ (hex_text (family ∷ []) ++ (codes ", " ++ (decimal slots ++ (codes " " ++ cond (slots == 1) (codes "slot") (codes "slots"))))))

abbrev pub attrib_words : List ℕ → ℕ → List ℕ
attrib_words serial cid = codes "ATTRIB " ++ (hex_text serial ++ (codes ", card " ++ decimal cid))

abbrev pub halt_words : List ℕ → List ℕ
halt_words serial = codes "HLTB " ++ hex_text serial

abbrev pub write_words : ℕ → ℕ → List ℕ → List ℕ
write_words cid page bytes =
    codes "WRITE card " ++ (decimal cid ++ (codes ", page " ++ (decimal page ++ (codes ", data " ++ hex_text bytes))))

abbrev pub lock_words : ℕ → List ℕ → List ℕ
lock_words cid locks = codes "LOCK card " ++ (decimal cid ++ (codes ", lock bits " ++ hex_text locks))

abbrev pub check_words : ℕ → List ℕ → List ℕ
check_words cid password = codes "CHECK PASSWORD card " ++ (decimal cid ++ (codes ", password " ++ hex_text password))

abbrev pub count_words : ℕ → List ℕ → List ℕ
count_words cid signature = codes "COUNT card " ++ (decimal cid ++ (codes ", signature " ++ hex_text signature))

abbrev pub command_words : Asked → List ℕ
command_words (Request wake_up family slots) = request_words wake_up family slots
command_words (SlotMarker slot) = codes "slot marker " ++ decimal slot
command_words (Attrib serial cid inf) = attrib_words serial cid
command_words (Halt serial) = halt_words serial
command_words (Read cid page) = codes "READ card " ++ (decimal cid ++ (codes ", page " ++ decimal page))
command_words (Write cid page bytes) = write_words cid page bytes
command_words (Lock cid locks) = lock_words cid locks
command_words (CheckPassword cid password) = check_words cid password
command_words (Deselect cid) = codes "DESELECT card " ++ decimal cid
command_words (Count cid signature) = count_words cid signature

abbrev pub call_words : step.Asks → List ℕ
call_words step.On = codes "field on"
call_words step.Off = codes "field off"
call_words (step.Place n) = codes "place " ++ decimal n
call_words (step.Lift n) = codes "lift " ++ decimal n
call_words (step.Frame bytes) = codes "frame " ++ hex_text bytes
call_words step.Stock = codes "stock"

-- Refusals of sheets have one meaning here: the story has no sheet.
abbrev pub meaning_words : Refusal → List ℕ
meaning_words refusal.ImageLength = codes "image of a wrong length"
meaning_words refusal.ImageLockBits = codes "image with wrong lock bits"
meaning_words refusal.ImageCounter = codes "image with a counter past its end"
meaning_words refusal.RowTooLong = codes "row too long"
meaning_words refusal.NoSuchTag = codes "no such tag"
meaning_words refusal.BufferTooShort = codes "buffer too short"
meaning_words refusal.ListTooShort = codes "list too short"
meaning_words refusal.ValueOutOfRange = codes "value out of range"
meaning_words refusal.ReplyLength = codes "reply of a wrong length"
meaning_words refusal.ReplyUnsound = codes "reply unsound"
meaning_words refusal.ReplyUnexpected = codes "reply unexpected"
meaning_words refusal.SheetTooLong = codes "sheet refused"
meaning_words refusal.LineTooLong = codes "sheet refused"
meaning_words refusal.UnknownWord = codes "sheet refused"
meaning_words refusal.FieldCount = codes "sheet refused"
meaning_words refusal.FieldForm = codes "sheet refused"
meaning_words refusal.TagAfterCall = codes "sheet refused"
meaning_words refusal.NoSuchPage = codes "sheet refused"

abbrev pub refusal_words : Refusal → List ℕ
refusal_words why = codes "refused, " ++ (decimal (number why) ++ (codes " " ++ meaning_words why))

abbrev pub told_words : calls.Answer → List ℕ
told_words answer.Done = codes "done"
told_words answer.Silent = codes "silence"
told_words (answer.Reply n) = codes "a reply of " ++ (decimal n ++ codes " bytes")
told_words (answer.Clash n) = codes "clash of " ++ decimal n
told_words (answer.Stock frames rounds clashes listed) =
    decimal frames ++ (codes " frames, " ++ (decimal rounds ++ (codes " rounds, " ++ (decimal clashes ++ (codes " clashed slots, " ++ (decimal listed ++ codes " serial numbers"))))))

-- By how what was brought is shown.
abbrev pub outcome_words : {T : Type 0} → (T → Option (List ℕ)) → Result T Refusal → Option (List ℕ)
outcome_words shown (Ok brought) = shown brought
outcome_words shown (Err why) = Some (refusal_words why)
