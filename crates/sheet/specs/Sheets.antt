-- What the lines of a sheet do, one after another, and what the run prints.
use Rattle.std.specs.Prelude.{ℕ, ◌+◌, ◌-◌, cond, List, [], ◌∷◌, ◌++◌, map, length, replicate, Some, None, Ok, Err, Option, Result, ◌==◌, nat_le, nat_lt}
use Rattle.tags.specs.Common.{Shown}
use Rattle.tags.specs.Gauge.{GaugeMeaning, gauge_acts}
use Rattle.tags.specs.Pump.{PumpMeaning, pump_acts}
use Rattle.tray_core.specs.declared.calls.Answer.{Answer}
use Rattle.tray_core.specs.Step.{Asks, Outcome, step}
use Rattle.tray_core.specs.Trays.{Model, loaded_with}
use Rattle.sheet.specs.declared.faults.LineFault.{LineFault}
use Rattle.sheet.specs.declared.words.TagKind.{TagKind}
use Rattle.sheet.specs.declared.words.TagKind.TheVariants.{Pump, Gauge}
use Rattle.sheet.specs.Drafts.{Draft, blank_pump, blank_gauge, front_paged, back_paged}
use Rattle.sheet.specs.Faults.{fault_number}
use Rattle.parts.specs.Parts.{parted}
use Rattle.sheet.specs.Lines.{Says, Tag, Page, Calls, line_says}
use Rattle.sheet.specs.Printing.{printed_answer, printed_refusal}

-- A tray with pump tags in front and gauges behind.
abbrev pub SheetTray : Type 0
SheetTray = Model Shown (List ℕ) Shown (Unit {0})

-- Where a run stands: tags are still named, or calls are made.
pub data Stage : Type 0 where
  Naming : List (Draft PumpMeaning) → List (Draft GaugeMeaning) → Stage
  Calling : SheetTray → Stage

-- What comes of a line: it printed a text and the run goes on, or it was refused with a number.
pub data Came : Type 0 where
  Went : List ℕ → Stage → Came
  Stopped : ℕ → Came

-- A tag line: before the first call? Then the tag is next in its row.
abbrev pub named : TagKind → ℕ → Stage → Came
named kind draw (Calling tray) = Stopped 17
named Pump draw (Naming front back) = Went [] (Naming (front ++ (blank_pump draw ∷ [])) back)
named Gauge draw (Naming front back) = Went [] (Naming front (back ++ (blank_gauge draw ∷ [])))

-- A page line: before the first call? Then the page is set, or the refusal stops the run.
abbrev pub with_front : Result (List (Draft PumpMeaning)) ℕ → List (Draft GaugeMeaning) → Came
with_front (Ok front) back = Went [] (Naming front back)
with_front (Err why) back = Stopped why

abbrev pub with_back : List (Draft PumpMeaning) → Result (List (Draft GaugeMeaning)) ℕ → Came
with_back front (Ok back) = Went [] (Naming front back)
with_back front (Err why) = Stopped why

-- Front tags are numbered from 0, back tags from 32.
abbrev pub paged : ℕ → ℕ → List ℕ → Stage → Came
paged tag page bytes (Calling tray) = Stopped 17
paged tag page bytes (Naming front back) =
    cond (nat_lt tag 32) (with_front (front_paged tag page bytes front) back)
    (with_back front (back_paged (tag - 32) page bytes back))

-- The tray of a call: loaded with the tags that were named, or as the call before left it.
abbrev pub tags_of : {M : Type 0} → List (Draft M) → List M
tags_of drafts = map (λ d. d.tag) drafts

abbrev pub tray_in : Stage → SheetTray
tray_in (Naming front back) = loaded_with (tags_of front) (tags_of back)
tray_in (Calling tray) = tray

-- Each call has a buffer of 16 bytes and a list of 128 places.
abbrev pub empty_buffer : List ℕ
empty_buffer = replicate 16 0

abbrev pub empty_list : List (List ℕ)
empty_list = replicate 128 (replicate 4 0)

-- A call line: the call goes to the tray, and its answer is printed, or its refusal stops the run.
abbrev pub answered : ℕ → Result Answer ℕ → Outcome SheetTray → Came
answered number (Ok answer) o = Went (printed_answer number answer o.buffer o.list) (Calling o.tray)
answered number (Err why) o = Stopped why

abbrev pub called_on : ℕ → Outcome SheetTray → Came
called_on number o = answered number o.answer o

abbrev pub called : ℕ → Asks → Stage → Came
called number call stage =
    called_on number (step pump_acts gauge_acts call (tray_in stage) empty_buffer empty_list)

-- What a line does.
abbrev pub says_do : ℕ → Result Says LineFault → Stage → Came
says_do number (Err fault) stage = Stopped (fault_number fault)
says_do number (Ok (Tag kind draw)) stage = named kind draw stage
says_do number (Ok (Page tag page bytes)) stage = paged tag page bytes stage
says_do number (Ok (Calls call)) stage = called number call stage

abbrev pub line_does : ℕ → List ℕ → Stage → Came
line_does number line stage = says_do number (line_says line) stage

-- A refusal: the line that it stopped at, and its number.
pub record Refused : Type 0 where
  pub line : ℕ
  pub why : ℕ

-- A run: all that is printed, and the refusal that ended it, if one did.
pub record Run : Type 0 where
  pub text : List ℕ
  pub refused : Option Refused

abbrev pub stopped_at : ℕ → ℕ → Run
stopped_at line why =
    record { text = printed_refusal line why; refused = Some (record { line = line; why = why }) }

abbrev pub refused_at : Refused → Run
refused_at r = stopped_at r.line r.why

abbrev pub ended : Run
ended = record { text = []; refused = None }

-- Text before that of a run.
abbrev pub before : List ℕ → Run → Run
before printed run = record { text = printed ++ run.text; refused = run.refused }

abbrev pub go_on : ℕ → Came → (Stage → Run) → Run
go_on number (Went printed stage) rest = before printed (rest stage)
go_on number (Stopped why) rest = stopped_at number why

-- The lines from one on. What follows the last LF is no line where it is empty; else it lacks LF.
-- LF among the first 80 bytes? Then the line is done, and the next one follows.
abbrev pub lines_run : ℕ → Stage → List (List ℕ) → Run
lines_run number stage [] = ended
lines_run number stage (last ∷ []) = cond (length last == 0) ended (stopped_at number 13)
lines_run number stage (line ∷ next ∷ more) =
    cond (nat_le (length line) 79)
    (go_on number (line_does number line stage)
    (λ after. lines_run (number + 1) after (next ∷ more)))
    (stopped_at number 13)

-- A sheet of 65,536 bytes or fewer? Then its lines are run, from line 1 and a tray without tags.
abbrev pub run_of : List ℕ → Run
run_of sheet =
    cond (nat_le (length sheet) 65536) (lines_run 1 (Naming [] []) (parted 10 sheet))
    (stopped_at 0 12)

abbrev pub printed_of : List ℕ → List ℕ
printed_of sheet = (run_of sheet).text

abbrev pub refusal_of : List ℕ → Option Refused
refusal_of sheet = (run_of sheet).refused
