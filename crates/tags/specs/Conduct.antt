-- How a pump tag conducts itself, in the subject's words: laws above the definitions, which a wrong definition would break.
use Rattle.std.specs.Prelude.{◌≡◌, ℕ, ◌<◌, Bool, true, false, not, ◌&&◌, List, [], ◌∷◌, length, replicate, Some, None, Option, ◌≢◌}
use Rattle.std.specs.Str.{bytes_eq}
use Rattle.typeb.specs.declared.frames.Op.{Op}
use Rattle.typeb.specs.declared.frames.Op.TheVariants.{Read, Write, Lock, CheckPassword, Deselect, Count}
use Rattle.typeb.specs.CheckBytes.{sealed}
use Rattle.typeb.specs.Hears.{Heard, Request, SlotMarker, Attrib, Halt, Command, heard}
use Rattle.tags.specs.declared.link.State.{State}
use Rattle.tags.specs.declared.link.State.TheVariants.{Off, Halted}
use Rattle.tags.specs.Common.{Shown, is_off_tag, reacts_by}
use Rattle.tags.specs.Edges.{tag_in}
use Rattle.kinds.specs.Kinds.{Meaning, Behaviour}
use Rattle.tags.specs.Pages.{lock_bit}
use Rattle.tags.specs.Pump.{PumpMeaning, PumpSized, pump_acts, pump_obeys, pump_reads, pump_writes, pump_checks, page_of}
use Rattle.kinds.specs.Reacts.{Reaction, says_to}
use Rattle.kinds.specs.Says.{Says, Answer, Card, Page, Acknowledged, Refused}
use Rattle.tags.specs.LinkLaws.{LinkLaws}
use Rattle.tags.specs.GoesBy.{GoesBy}
use Rattle.tags.specs.DataLaws.{IsWhole, PagesStand, DataObeyed}
use Rattle.tags.specs.MakingLaws.{PumpMaking}

-- A tag that hears frames one after another: what it is then, and all that it answered.
abbrev pub after_all : PumpMeaning → List (List ℕ) → PumpMeaning
after_all m [] = m
after_all m (frame ∷ more) = after_all (pump_acts.hears frame m).after more

abbrev pub answers_all : {S H : Type 0} → Behaviour S H → Meaning S H → List (List ℕ) → List (List ℕ)
answers_all acts m [] = []
answers_all acts m (frame ∷ more) = (acts.hears frame m).reply ∷ answers_all acts (acts.hears frame m).after more

-- The checks among the frames that the tag answers, each by whether it was accepted.
abbrev pub checking_op : Op → Bool
checking_op Read = false
checking_op Write = false
checking_op Lock = false
checking_op CheckPassword = true
checking_op Deselect = false
checking_op Count = false

abbrev pub is_check : Option Heard → Bool
is_check (Some (Request family wake_up slots)) = false
is_check (Some (SlotMarker slot)) = false
is_check (Some (Attrib serial params inf)) = false
is_check (Some (Halt serial)) = false
is_check (Some (Command op cid address bytes)) = checking_op op
is_check None = false

abbrev pub speaks : Option Says → Bool
speaks (Some says) = true
speaks None = false

abbrev pub checks_now : List ℕ → PumpMeaning → Bool
checks_now frame m = is_check (heard frame) && speaks (says_to (reacts_by pump_obeys) frame m)

abbrev pub noted : Bool → Bool → List Bool → List Bool
noted true verdict verdicts = verdict ∷ verdicts
noted false verdict verdicts = verdicts

abbrev pub verdicts_of : PumpMeaning → List (List ℕ) → List Bool
verdicts_of m [] = []
verdicts_of m (frame ∷ more) = noted (checks_now frame m) (pump_acts.hears frame m).accepted (verdicts_of (pump_acts.hears frame m).after more)

abbrev pub last_of : Bool → List Bool → Bool
last_of before [] = before
last_of before (verdict ∷ more) = last_of verdict more

-- A tag that keeps its power is open exactly when the last check that it answered was accepted; where it answered none,
-- it is as open as it was. So nothing but a check opens or closes it.
abbrev pub Openness : Type 0
Openness = (m : PumpMeaning) (frames : List (List ℕ)) → (after_all m frames).opened ≡ last_of m.opened (verdicts_of m frames)

-- A check is accepted exactly where CHECK PASSWORD is acknowledged.
abbrev pub acknowledges : Option Says → Bool
acknowledges (Some (Answer serial application protocol)) = false
acknowledges (Some (Card cid)) = false
acknowledges (Some (Page bytes)) = false
acknowledges (Some Acknowledged) = true
acknowledges (Some (Refused code)) = false
acknowledges None = false

abbrev pub Accepting : Type 0
Accepting = (frame : List ℕ) (m : PumpMeaning) → (pump_acts.hears frame m).accepted ≡ is_check (heard frame) && acknowledges (says_to (reacts_by pump_obeys) frame m)

-- DESELECT halts; no other data command changes the state, and none the card number or the draw number.
abbrev pub halting : Op → State → State
halting Read state = state
halting Write state = state
halting Lock state = state
halting CheckPassword state = state
halting Deselect state = Halted
halting Count state = state

abbrev pub LinkStays : {H : Type 0} → (Op → ℕ → List ℕ → Meaning Shown H → Reaction (Meaning Shown H)) → Type 0
LinkStays {H} obeys =
    (op : Op) (page : ℕ) (bytes : List ℕ) (m : Meaning Shown H)
    → (obeys op page bytes m).after.shown.link ≡ record { state = halting op m.shown.link.state; cid = m.shown.link.cid; draw = m.shown.link.draw }

-- No frame turns a tag on or off.
abbrev pub FramesKeepPower : Type 0
FramesKeepPower = (frame : List ℕ) (m : PumpMeaning) → is_off_tag (pump_acts.hears frame m).after.shown ≡ is_off_tag m.shown

-- An open tag takes WRITE for every page but 0 and 2, unless the page is locked: of tags and data of any length too.
abbrev pub TakesWrites : Type 0
TakesWrites =
    (page : ℕ) (bytes : List ℕ) (m : PumpMeaning) → (page ≢ 0) → (page ≢ 2) → m.opened ≡ true → lock_bit page (page_of 0 m) ≡ 0
    → (pump_writes page bytes m).says ≡ Some Acknowledged

-- A page that is written is read back, and a password that is written is the one that opens, unless it is all ones.
abbrev pub ReadsBack : Type 0
ReadsBack =
    (page : ℕ) (bytes : List ℕ) (m : PumpMeaning) → PumpSized m → page < 32 → length bytes ≡ 8 → (page ≢ 3)
    → (pump_writes page bytes m).says ≡ Some Acknowledged → (pump_reads page (pump_writes page bytes m).after).says ≡ Some (Page bytes)

abbrev pub PasswordCounts : Type 0
PasswordCounts =
    (bytes : List ℕ) (m : PumpMeaning) → PumpSized m → length bytes ≡ 8
    → (pump_writes 3 bytes m).says ≡ Some Acknowledged → (pump_checks bytes (pump_writes 3 bytes m).after).accepted ≡ not (bytes_eq bytes (replicate 8 0xFF))

-- A worked conversation with a tag of serial number 11223344 that has just gained power: REQB is answered, HLTB halts, REQB passes by, WUPB wakes,
-- a request to family 2 dismisses, ATTRIB then passes by; REQB and ATTRIB give card number 5; the blank password opens;
-- page 4 is written and read; DESELECT halts without closing, and ATTRIB after WUPB finds the tag open.
abbrev pub spoken : List (List ℕ)
spoken =
    sealed (0x05 ∷ 0x00 ∷ 0x00 ∷ [])
    ∷ sealed (0x50 ∷ 0x11 ∷ 0x22 ∷ 0x33 ∷ 0x44 ∷ [])
    ∷ sealed (0x05 ∷ 0x00 ∷ 0x00 ∷ [])
    ∷ sealed (0x05 ∷ 0x00 ∷ 0x08 ∷ [])
    ∷ sealed (0x05 ∷ 0x02 ∷ 0x00 ∷ [])
    ∷ sealed (0x1D ∷ 0x11 ∷ 0x22 ∷ 0x33 ∷ 0x44 ∷ 0 ∷ 0 ∷ 0 ∷ 5 ∷ [])
    ∷ sealed (0x05 ∷ 0x00 ∷ 0x00 ∷ [])
    ∷ sealed (0x1D ∷ 0x11 ∷ 0x22 ∷ 0x33 ∷ 0x44 ∷ 0 ∷ 0 ∷ 0 ∷ 5 ∷ [])
    ∷ sealed (0x65 ∷ 0x00 ∷ replicate 8 0)
    ∷ sealed (0x35 ∷ 0x04 ∷ 0x10 ∷ 0x20 ∷ 0x30 ∷ 0x40 ∷ 0x50 ∷ 0x60 ∷ 0x70 ∷ 0x80 ∷ [])
    ∷ sealed (0x45 ∷ 0x04 ∷ replicate 8 0)
    ∷ sealed (0xA5 ∷ 0x00 ∷ replicate 8 0)
    ∷ sealed (0x05 ∷ 0x00 ∷ 0x08 ∷ [])
    ∷ sealed (0x1D ∷ 0x11 ∷ 0x22 ∷ 0x33 ∷ 0x44 ∷ 0 ∷ 0 ∷ 0 ∷ 5 ∷ [])
    ∷ sealed (0x45 ∷ 0x04 ∷ replicate 8 0)
    ∷ []

abbrev pub atqb : List ℕ
atqb = 0x50 ∷ 0x11 ∷ 0x22 ∷ 0x33 ∷ 0x44 ∷ 0 ∷ 0 ∷ 0 ∷ 0 ∷ 0x00 ∷ 0x00 ∷ 0x41 ∷ 0x41 ∷ 0x0C ∷ []

abbrev pub page_four : List ℕ
page_four = 0x45 ∷ 0x04 ∷ 0x10 ∷ 0x20 ∷ 0x30 ∷ 0x40 ∷ 0x50 ∷ 0x60 ∷ 0x70 ∷ 0x80 ∷ 0xC3 ∷ 0x0B ∷ []

abbrev pub replies_spoken : List (List ℕ)
replies_spoken =
    atqb
    ∷ (0x00 ∷ 0x78 ∷ 0xF0 ∷ [])
    ∷ []
    ∷ atqb
    ∷ []
    ∷ []
    ∷ atqb
    ∷ (0x05 ∷ 0xD5 ∷ 0xA7 ∷ [])
    ∷ (0x65 ∷ 0x00 ∷ 0xAA ∷ 0x14 ∷ [])
    ∷ (0x35 ∷ 0x00 ∷ 0x5D ∷ 0xC7 ∷ [])
    ∷ page_four
    ∷ (0xA5 ∷ 0x00 ∷ 0x00 ∷ 0xDE ∷ [])
    ∷ atqb
    ∷ (0x05 ∷ 0xD5 ∷ 0xA7 ∷ [])
    ∷ page_four
    ∷ []

abbrev pub Conversation : Type 0
Conversation = answers_all pump_acts (pump_acts.gains (tag_in Off false (0x11 ∷ 0x22 ∷ 0x33 ∷ 0x44 ∷ replicate 20 0) (replicate 232 0))) spoken ≡ replies_spoken

-- All of these.
pub record Conduct : Type 0 where
  pub openness : Openness
  pub accepting : Accepting
  pub link : LinkLaws pump_obeys
  pub goes_by : GoesBy pump_obeys
  pub link_stays : LinkStays pump_obeys
  pub frames : FramesKeepPower
  pub pages_stand : (m : PumpMeaning) → IsWhole m → PagesStand m
  pub data_obeyed : DataObeyed
  pub takes_writes : TakesWrites
  pub reads_back : ReadsBack
  pub password_counts : PasswordCounts
  pub conversation : Conversation
  pub making : (image : List ℕ) (draw : ℕ) → PumpMaking image draw
