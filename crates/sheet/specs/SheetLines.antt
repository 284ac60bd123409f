-- Which lines a sheet runs, in which order, and where its run ends.
use Rattle.std.specs.Prelude.{◌≡◌, ◌≢◌, ℕ, ◌+◌, ◌<◌, ◌≤◌, List, [], ◌∷◌, ◌++◌, All, length, Some, None, Ok, Err}
use Rattle.parts.specs.Parts.{lined, Lacks}
use Rattle.tray_core.specs.declared.calls.Answer.{Answer}
use Rattle.tray_core.specs.Step.{Asks, Outcome}
use Rattle.sheet.specs.declared.faults.LineFault.{LineFault}
use Rattle.sheet.specs.declared.words.TagKind.{TagKind}
use Rattle.sheet.specs.Faults.{fault_number}
use Rattle.sheet.specs.Lines.{Tag, Page, Calls, line_says}
use Rattle.sheet.specs.Played.{step_of}
use Rattle.sheet.specs.Printing.{printed_answer, printed_refusal}
use Rattle.sheet.specs.Sheets.{SheetTray, Stage, Naming, Calling, Came, Went, Stopped, Run, named, paged, tray_in, line_does, run_of}

-- A line of 79 bytes or fewer. No byte but LF ends it.
abbrev pub Short : List ℕ → Type 0
Short line = Lacks 10 line × (length line ≤ 79)

-- Lines, the first of which has this number, are done one after another from a stage on: they print
-- this text, and the run then stands at this stage.
abbrev pub Done : ℕ → Stage → List (List ℕ) → List ℕ → Stage → Type 0
Done number stage [] text last = (text ≡ []) × (stage ≡ last)
Done number stage (line ∷ lines) text last =
    (printed : List ℕ) × ((rest : List ℕ) × ((next : Stage)
    × ((line_does number line stage ≡ Went printed next) × (text ≡ printed ++ rest)
    × Done (number + 1) next lines rest last)))

-- A run that a line stops: the refusal's line ends what was printed before.
abbrev pub ends_at : ℕ → ℕ → List ℕ → Run
ends_at number why text =
    record {
      text = text ++ printed_refusal number why;
      refused = Some (record { line = number; why = why });
    }

-- A sheet of 65,536 bytes or fewer that begins with these lines, each ended by LF, all of which are
-- done; and what follows them.
pub record Begins (lines : List (List ℕ)) (rest text : List ℕ) (stage : Stage) : Type 0 where
  pub short : All Short lines
  pub fits : length (lined lines ++ rest) ≤ 65536
  pub done : Done 1 (Naming [] []) lines text stage

-- Sheets of five forms.
pub record SheetLines : Type 0 where
  -- Nothing follows: the run prints what the lines print, and is not refused.
  pub whole : (lines : List (List ℕ)) (text : List ℕ) (stage : Stage) → Begins lines [] text stage
      → run_of (lined lines) ≡ record { text = text; refused = None }
  -- The next line is refused, whatever follows it.
  pub stops : (lines : List (List ℕ)) (line more text : List ℕ) (stage : Stage) (why : ℕ)
      → Begins lines (line ++ (10 ∷ more)) text stage → Short line
      → line_does (length lines + 1) line stage ≡ Stopped why
      → run_of (lined lines ++ (line ++ (10 ∷ more))) ≡ ends_at (length lines + 1) why text
  -- The next line has more than 79 bytes before its LF, or has no LF.
  pub long : (lines : List (List ℕ)) (line more text : List ℕ) (stage : Stage)
      → Begins lines (line ++ (10 ∷ more)) text stage → Lacks 10 line → 79 < length line
      → run_of (lined lines ++ (line ++ (10 ∷ more))) ≡ ends_at (length lines + 1) 13 text
  pub unended : (lines : List (List ℕ)) (line text : List ℕ) (stage : Stage)
      → Begins lines line text stage → Lacks 10 line → line ≢ []
      → run_of (lined lines ++ line) ≡ ends_at (length lines + 1) 13 text
  -- More than 65,536 bytes are refused as a whole, at line 0.
  pub too_long : (sheet : List ℕ) → 65536 < length sheet → run_of sheet ≡ ends_at 0 12 []

-- What a line does goes by what it says, and by where the run stands.
module _ (number : ℕ) (line : List ℕ) (stage : Stage) where
  abbrev pub does : Came
  does = line_does number line stage

  -- What comes of a call that is put to the tray at this stage.
  abbrev pub comes : Asks → Outcome SheetTray
  comes call = step_of (record { number = number; call = call }) (tray_in stage)

  pub record LineDoes : Type 0 where
    -- A fault of the line stops the run, wherever it stands.
    pub fault : (f : LineFault) → line_says line ≡ Err f → does ≡ Stopped (fault_number f)
    pub tag : (kind : TagKind) (draw : ℕ) → line_says line ≡ Ok (Tag kind draw)
        → does ≡ named kind draw stage
    pub page : (tag page : ℕ) (bytes : List ℕ) → line_says line ≡ Ok (Page tag page bytes)
        → does ≡ paged tag page bytes stage
    -- A call that is answered prints the answer, and the run stands at the tray that it left; one
    -- that is refused stops the run with the refusal.
    pub answered : (call : Asks) (answer : Answer) → line_says line ≡ Ok (Calls call)
        → (comes call).answer ≡ Ok answer
        → does ≡ Went (printed_answer number answer (comes call).buffer (comes call).list)
        (Calling (comes call).tray)
    pub refused : (call : Asks) (why : ℕ) → line_says line ≡ Ok (Calls call)
        → (comes call).answer ≡ Err why → does ≡ Stopped why

abbrev pub LinesDo : Type 0
LinesDo = (number : ℕ) (line : List ℕ) (stage : Stage) → LineDoes number line stage
