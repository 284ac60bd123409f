-- The six calls of a tray: when one is refused, what it answers, and what it leaves.
use Rattle.std.specs.Borrow.{Bor}
use Rattle.std.specs.Prelude.{◌≡◌, ℕ, cond, List, ◌++◌, length, drop, Some, None, Ok, Err, Option, Result, nat_le}
use Rattle.refusals.specs.declared.Refusal.{Refusal}
use Rattle.refusals.specs.Numbers.{numbered}
use Rattle.kinds.specs.Kinds.{Behaviour}
use Rattle.tray_core.specs.declared.calls.Answer.{Answer}
use Rattle.tray_core.specs.declared.calls.Answer.TheVariants as answer
use Rattle.tray_core.specs.declared.calls.Call.{Call}
use Rattle.tray_core.specs.declared.calls.Call.TheVariants as call
use Rattle.tray_core.specs.Scripts.{played, after_play}
use Rattle.tray_core.specs.Sounds.{Sounds, Silence, Reply, Clash}
use Rattle.tray_core.specs.Stock.{Tally, stocktaking}
use Rattle.tray_core.specs.Trays.{Model, rows_fit, names, turned_on, turned_off, with_placed, with_lifted, after_frame, sounds_of}

-- A call, with the frame's bytes.
pub data Asks : Type 0 where
  On : Asks
  Off : Asks
  Place : ℕ → Asks
  Lift : ℕ → Asks
  Frame : List ℕ → Asks
  Stock : Asks

-- What a call of the code asks, by what its frame holds: a slice, or any other bytes.
abbrev pub asks_by : {B : Type 0} → (B → List ℕ) → Call B → Asks
asks_by bytes call.On = On
asks_by bytes call.Off = Off
asks_by bytes (call.Place n) = Place n
asks_by bytes (call.Lift n) = Lift n
asks_by bytes (call.Frame frame) = Frame (bytes frame)
asks_by bytes call.Stock = Stock

abbrev pub asks_of : Call (Bor (List ℕ)) → Asks
asks_of c = asks_by (λ frame. frame.now) c

-- What comes of a call: its answer or its refusal's number, the tray, the buffer and the list.
pub record Outcome (T : Type 0) : Type 0 where
  pub answer : Result Answer ℕ
  pub tray : T
  pub buffer : List ℕ
  pub list : List (List ℕ)

-- The questions that are asked first: rows of 32 or fewer? Then place and lift: does the number name a tag?
-- Frame: a buffer of 16 bytes or more? Stock: a list of 128 places or more?
module _ {SF HF SB HB : Type 0} where
  abbrev pub own_question : Asks → Model SF HF SB HB → List ℕ → List (List ℕ) → Option ℕ
  own_question On t buffer list = None
  own_question Off t buffer list = None
  own_question (Place n) t buffer list = cond (names n t) None (Some 5)
  own_question (Lift n) t buffer list = cond (names n t) None (Some 5)
  own_question (Frame frame) t buffer list = cond (nat_le 16 (length buffer)) None (Some 6)
  own_question Stock t buffer list = cond (nat_le 128 (length list)) None (Some 7)

  abbrev pub refused_by : Asks → Model SF HF SB HB → List ℕ → List (List ℕ) → Option ℕ
  refused_by c t buffer list = cond (rows_fit t) (own_question c t buffer list) (Some 4)

-- Frame: no reply, one reply with its length, or a clash with its count.
abbrev pub heard_answer : Sounds → Answer
heard_answer Silence = answer.Silent
heard_answer (Reply bytes) = answer.Reply (length bytes)
heard_answer (Clash n) = answer.Clash n

-- One reply goes to the front of the buffer; all other bytes stay.
abbrev pub heard_buffer : Sounds → List ℕ → List ℕ
heard_buffer Silence buffer = buffer
heard_buffer (Reply bytes) buffer = bytes ++ drop (length bytes) buffer
heard_buffer (Clash n) buffer = buffer

-- Stock: frames sent, rounds, clashed slots of the last round, and how many serial numbers stand in the list.
abbrev pub figures : Tally → Answer
figures c = answer.Stock c.frames c.rounds c.clashes (length c.serials)

module _ {SF HF SB HB : Type 0} (F : Behaviour SF HF) (B : Behaviour SB HB) where
  -- A call that only changes the tray.
  abbrev pub quietly : Model SF HF SB HB → List ℕ → List (List ℕ) → Outcome (Model SF HF SB HB)
  quietly t buffer list = record { answer = Ok answer.Done; tray = t; buffer = buffer; list = list }

  abbrev pub does : Asks → Model SF HF SB HB → List ℕ → List (List ℕ) → Outcome (Model SF HF SB HB)
  does On t buffer list = quietly (turned_on F B t) buffer list
  does Off t buffer list = quietly (turned_off F B t) buffer list
  does (Place n) t buffer list = quietly (with_placed F B n t) buffer list
  does (Lift n) t buffer list = quietly (with_lifted F B n t) buffer list
  does (Frame frame) t buffer list =
      record {
        answer = Ok (heard_answer (sounds_of F B frame t));
        tray = after_frame F B frame t;
        buffer = heard_buffer (sounds_of F B frame t) buffer;
        list = list;
      }
  does Stock t buffer list =
      record {
        answer = Ok (figures (played F B stocktaking t));
        tray = after_play F B stocktaking t;
        buffer = buffer;
        list = (played F B stocktaking t).serials ++ drop (length (played F B stocktaking t).serials) list;
      }

  -- A refused call leaves tray, buffer and list as they were.
  abbrev pub unless_refused : Option ℕ → Asks → Model SF HF SB HB → List ℕ → List (List ℕ) → Outcome (Model SF HF SB HB)
  unless_refused (Some why) c t buffer list = record { answer = Err why; tray = t; buffer = buffer; list = list }
  unless_refused None c t buffer list = does c t buffer list

  abbrev pub step : Asks → Model SF HF SB HB → List ℕ → List (List ℕ) → Outcome (Model SF HF SB HB)
  step c t buffer list = unless_refused (refused_by c t buffer list) c t buffer list

-- What a call of the code answered and left is this outcome.
pub record Stepped {T : Type 0} (o : Outcome T) (r : Result Answer Refusal) (tray : T) (buffer : List ℕ) (list : List (List ℕ)) : Type 0 where
  pub answers : numbered r ≡ o.answer
  pub leaves : tray ≡ o.tray
  pub writes : buffer ≡ o.buffer
  pub listing : list ≡ o.list
