-- What a reader hears after a command, from what sounds on the air.
use Rattle.std.specs.Prelude.{ℕ, cond, List, [], take, Some, None, Ok, Err, Option, Result}
use Rattle.refusals.specs.declared.Refusal.{Refusal}
use Rattle.refusals.specs.Numbers.{outcome}
use Rattle.kinds.specs.Kinds.{Behaviour}
use Rattle.kinds.specs.Says.{Says, Answer, Card, Page, Acknowledged, Refused}
use Rattle.reader.specs.Commands.{Asked, in_range, frame_for}
use Rattle.reader.specs.Judged.{judged}
use Rattle.tray_core.specs.declared.calls.Answer as calls
use Rattle.tray_core.specs.declared.calls.Answer.TheVariants as answer
use Rattle.tray_core.specs.Sounds as sounds
use Rattle.tray_core.specs.Step.{Frame, refused_by, step}
use Rattle.tray_core.specs.Trays.{Model, sounds_of}
use Rattle.scenario.specs.declared.speaking.Heard.{Heard}
use Rattle.scenario.specs.declared.speaking.Heard.TheVariants as heard

-- Nothing, a clash of so many, or what one tag says.
pub data Hearing : Type 0 where
  Silence : Hearing
  Clash : ℕ → Hearing
  Said : Says → Hearing

-- What a value of the code stands for.
abbrev pub hearing_of : Heard → Hearing
hearing_of heard.Silence = Silence
hearing_of (heard.Clash n) = Clash n
hearing_of (heard.Answer serial application protocol) = Said (Answer serial application protocol)
hearing_of (heard.Card cid) = Said (Card cid)
hearing_of (heard.Page bytes) = Said (Page bytes)
hearing_of heard.Acknowledged = Said Acknowledged
hearing_of (heard.Refused code) = Said (Refused code)

abbrev pub hearing_in : Result Heard Refusal → Result Hearing ℕ
hearing_in r = outcome hearing_of r

-- A reply is judged by its command.
abbrev pub said : Result Says ℕ → Result Hearing ℕ
said (Ok says) = Ok (Said says)
said (Err why) = Err why

abbrev pub heard_back : Asked → sounds.Sounds → Result Hearing ℕ
heard_back command sounds.Silence = Ok Silence
heard_back command (sounds.Reply bytes) = said (judged command bytes)
heard_back command (sounds.Clash n) = Ok (Clash n)

abbrev pub unless_refused : Option ℕ → Result Hearing ℕ → Result Hearing ℕ
unless_refused (Some why) hearing = Err why
unless_refused None hearing = hearing

-- The same from the answer of the tray and the buffer after it.
abbrev pub taken : Asked → List ℕ → Result calls.Answer ℕ → Result Hearing ℕ
taken command buffer (Ok answer.Done) = Ok Silence
taken command buffer (Ok answer.Silent) = Ok Silence
taken command buffer (Ok (answer.Reply n)) = said (judged command (take n buffer))
taken command buffer (Ok (answer.Clash n)) = Ok (Clash n)
taken command buffer (Ok (answer.Stock frames rounds clashes listed)) = Ok Silence
taken command buffer (Err why) = Err why

-- How many bytes of the buffer a reply takes.
abbrev pub reply_size : calls.Answer → ℕ
reply_size answer.Done = 0
reply_size answer.Silent = 0
reply_size (answer.Reply n) = n
reply_size (answer.Clash n) = 0
reply_size (answer.Stock frames rounds clashes listed) = 0

module _ {SF HF SB HB : Type 0} (F : Behaviour SF HF) (B : Behaviour SB HB) where
  -- A frame on the air, unless the tray refuses the call, and what it brings as a command's.
  abbrev pub hearing_back : Asked → List ℕ → Model SF HF SB HB → List ℕ → Result Hearing ℕ
  hearing_back command frame t buffer =
      unless_refused (refused_by (Frame frame) t buffer []) (heard_back command (sounds_of F B frame t))

  -- A command before a tray: every value in range? Then its frame is on the air.
  abbrev pub hearing_after : Asked → Model SF HF SB HB → List ℕ → Result Hearing ℕ
  hearing_after command t buffer = cond (in_range command) (hearing_back command (frame_for command) t buffer) (Err 8)

  -- The tray after it.
  abbrev pub tray_after : Asked → Model SF HF SB HB → List ℕ → Model SF HF SB HB
  tray_after command t buffer = cond (in_range command) (step F B (Frame (frame_for command)) t buffer []).tray t

  -- The lent buffer after it: a command out of range leaves it as it was.
  abbrev pub buffer_after : Asked → Model SF HF SB HB → List ℕ → List ℕ
  buffer_after command t buffer = cond (in_range command) (step F B (Frame (frame_for command)) t buffer []).buffer buffer
