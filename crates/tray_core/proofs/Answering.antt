-- The replies from which a stock takes a serial number are the sound answers to a request.
use Rattle.std.proofs.Common.{◌≡◌, ℕ, Bool, false, List, length, Some, Ok, Err, Result, refl, ap, ◌∙◌, subst}
use Rattle.kinds.specs.Says.{Says, Answer, Card, Page, Acknowledged, Refused}
use Rattle.reader.specs.Commands.{Request}
use Rattle.reader.specs.Judged.{judged}
use Rattle.reader.specs.Laws.{Answers, to_request}
use Rattle.reader.proofs.Judges.{judges_exactly}
use Rattle.reader.proofs.Only.{judges_only}
use Rattle.tray_core.specs.Course.{SoundAnswer}
use Rattle.tray_core.specs.Stock.{answering, serial_of}

pub serial_taken : (bytes serial : List ℕ) → SoundAnswer bytes serial → answering bytes ≡ Some serial
serial_taken bytes serial a =
    ap answering a.is
    ∙ ap serial_of
    (judges_exactly.every (Request false 0x00 16) (Answer serial a.application a.protocol) refl (to_request a.long.0 a.long.1 a.long.2))

answer_lengths : {serial application protocol : List ℕ} {wakes : Bool} {family slots : ℕ} → Answers (Request wakes family slots) (Answer serial application protocol)
    → (length serial ≡ 4) × (length application ≡ 4) × (length protocol ≡ 3)
answer_lengths (to_request a b c) = (a, b, c)

judged_sound : (bytes serial : List ℕ) (r : Result Says ℕ) → judged (Request false 0x00 16) bytes ≡ r → serial_of r ≡ Some serial → SoundAnswer bytes serial
judged_sound bytes serial (Ok (Answer own application protocol)) says is =
    let same : own ≡ serial = cc in
    let said = Answer own application protocol in
    subst (SoundAnswer bytes) same
    (record {
      application = application;
      protocol = protocol;
      is = judges_only.whole (Request false 0x00 16) bytes said refl (λ e. absurd cc) says;
      long = answer_lengths (judges_only.brought (Request false 0x00 16) bytes said says).answers;
    })
judged_sound bytes serial (Ok (Card cid)) says is = absurd cc
judged_sound bytes serial (Ok (Page content)) says is = absurd cc
judged_sound bytes serial (Ok Acknowledged) says is = absurd cc
judged_sound bytes serial (Ok (Refused code)) says is = absurd cc
judged_sound bytes serial (Err why) says is = absurd cc

pub sound_answer : (bytes serial : List ℕ) → answering bytes ≡ Some serial → SoundAnswer bytes serial
sound_answer bytes serial is = judged_sound bytes serial (judged (Request false 0x00 16) bytes) refl is
