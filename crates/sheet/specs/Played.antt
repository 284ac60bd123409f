-- A run told without its lines' order: which of them name tags, which are calls, and what the calls
-- do to the loaded tray.
use Rattle.std.specs.Prelude.{◌≡◌, ℕ, ◌+◌, List, [], ◌∷◌, ◌++◌, Some, None, Ok, Err, Option, Result}
use Rattle.tags.specs.Gauge.{gauge_acts}
use Rattle.tags.specs.Pump.{pump_acts}
use Rattle.tray_core.specs.declared.calls.Answer.{Answer}
use Rattle.tray_core.specs.Runs.{Turn, turn}
use Rattle.tray_core.specs.Step.{Asks, Outcome}
use Rattle.handling.specs.Laws.{Loaded, front_row}
use Rattle.sheet.specs.declared.faults.LineFault.{LineFault}
use Rattle.sheet.specs.declared.words.TagKind.{TagKind}
use Rattle.parts.specs.Parts.{parted}
use Rattle.sheet.specs.Lines.{Says, Tag, Page, Calls, line_says}
use Rattle.sheet.specs.Printing.{printed_answer, printed_refusal}
use Rattle.sheet.specs.Sheets.{SheetTray, Stage, Naming, Came, Went, Run, Refused, empty_buffer, empty_list, named, paged, tray_in, run_of}

-- A line that is a call, with its number.
pub record CallLine : Type 0 where
  pub number : ℕ
  pub call : Asks

-- The call lines of a sheet, numbered from one on.
abbrev pub call_in : ℕ → Result Says LineFault → List CallLine → List CallLine
call_in number (Ok (Calls call)) more = record { number = number; call = call } ∷ more
call_in number (Ok (Tag kind draw)) more = more
call_in number (Ok (Page tag page bytes)) more = more
call_in number (Err fault) more = more

abbrev pub calls_in : ℕ → List (List ℕ) → List CallLine
calls_in number [] = []
calls_in number (line ∷ lines) = call_in number (line_says line) (calls_in (number + 1) lines)

-- A line that names a tag or sets a page.
pub data Names : Type 0 where
  NewTag : TagKind → ℕ → Names
  SetPage : ℕ → ℕ → List ℕ → Names

abbrev pub name_in : Result Says LineFault → List Names → List Names
name_in (Ok (Tag kind draw)) more = NewTag kind draw ∷ more
name_in (Ok (Page tag page bytes)) more = SetPage tag page bytes ∷ more
name_in (Ok (Calls call)) more = more
name_in (Err fault) more = more

abbrev pub names_in : List (List ℕ) → List Names
names_in [] = []
names_in (line ∷ lines) = name_in (line_says line) (names_in lines)

abbrev pub does_name : Names → Stage → Came
does_name (NewTag kind draw) stage = named kind draw stage
does_name (SetPage tag page bytes) stage = paged tag page bytes stage

-- Tags named and pages set, one after another, lead from one stage to another.
abbrev pub Leads : Stage → List Names → Stage → Type 0
Leads stage [] last = stage ≡ last
Leads stage (line ∷ lines) last =
    (next : Stage) × ((does_name line stage ≡ Went [] next) × Leads next lines last)

-- A call line as a turn of a run: its call, with the buffer and the list that each call has.
abbrev pub turn_of : CallLine → Turn
turn_of line = record { call = line.call; buffer = empty_buffer; list = empty_list }

abbrev pub step_of : CallLine → SheetTray → Outcome SheetTray
step_of line tray = turn pump_acts gauge_acts (turn_of line) tray

-- Calls put to a tray one after another, each answered, print this text.
abbrev pub Played : SheetTray → List CallLine → List ℕ → Type 0
Played tray [] text = text ≡ []
Played tray (line ∷ lines) text =
    (answer : Answer) × ((rest : List ℕ) × (((step_of line tray).answer ≡ Ok answer)
    × (text ≡ printed_answer line.number answer (step_of line tray).buffer (step_of line tray).list
    ++ rest)
    × Played (step_of line tray).tray lines rest))

abbrev pub refusal_text : Option Refused → List ℕ
refusal_text (Some r) = printed_refusal r.line r.why
refusal_text None = []

-- A run takes the first of these tag and page lines, loads the tray with what they name, and plays
-- the first of these calls, all of them where it is not refused. It prints their text and its
-- refusal's line.
pub record Plays (stage : Stage) (names : List Names) (calls : List CallLine) (run : Run) : Type 0 where
  pub taken : List Names
  pub untaken : List Names
  pub names_order : names ≡ taken ++ untaken
  pub loaded : Stage
  pub leads : Leads stage taken loaded
  pub made : List CallLine
  pub unmade : List CallLine
  pub calls_order : calls ≡ made ++ unmade
  pub text : List ℕ
  pub played : Played (tray_in loaded) made text
  pub prints : run.text ≡ text ++ refusal_text run.refused
  pub whole : run.refused ≡ None → unmade ≡ []

-- So does the run of a sheet, from a tray without tags. What it loads is a loaded tray in the sense
-- of the law over every run, and its calls are turns of such a run: so that law holds of them.
pub record SheetPlays (sheet : List ℕ) : Type 0 where
  pub plays : Plays (Naming [] []) (names_in (parted 10 sheet)) (calls_in 1 (parted 10 sheet))
      (run_of sheet)
  pub loads : Loaded front_row (tray_in plays.loaded)
