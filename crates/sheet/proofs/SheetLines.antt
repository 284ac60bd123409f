-- A sheet runs its lines one after another.
use Rattle.std.proofs.Common.{◌≡◌, ℕ, ◌+◌, cond, leb, List, [], ◌∷◌, ◌++◌, All, length, None, Ok, Err, Result, sym, refl, ap, ◌∙◌, append_assoc, append-nil, arith}
use Rattle.std.proofs.lemmas.Bool.{cond-true, cond-false, le-leb, lt-leb, ne_eqb}
use Rattle.std.proofs.lemmas.List.Elements.{All-head, All-tail, All-nil}
use Rattle.parts.specs.Parts.{parted, lined, Lacks}
use Rattle.parts.proofs.Cuts.{parts_some}
use Rattle.parts.proofs.Parting.{parting}
use Rattle.tray_core.specs.declared.calls.Answer.{Answer}
use Rattle.tray_core.specs.Step.{Asks}
use Rattle.sheet.specs.declared.faults.LineFault.{LineFault}
use Rattle.sheet.specs.Lines.{Says, Tag, Page, Calls, line_says}
use Rattle.sheet.specs.Sheets.{Stage, Naming, Came, Run, stopped_at, answered, before, go_on, says_do, line_does, lines_run, run_of}
use Rattle.sheet.specs.SheetLines.{Short, Done, Begins, SheetLines, LineDoes, LinesDo, comes}
use Rattle.sheet.proofs.Ran.{onward, step}

-- the run behind texts printed one after another
before_both : (printed rest : List ℕ) (run : Run) → before printed (before rest run) ≡ before (printed ++ rest) run
before_both printed rest run = ap (λ (t : List ℕ). record { text = t; refused = run.refused }) (sym (append_assoc printed rest run.text))

-- the first of the lines that are left
line_comes : (number : ℕ) (stage : Stage) (line more : List ℕ) → Lacks 10 line
    → lines_run number stage (parted 10 (line ++ (10 ∷ more))) ≡ cond (leb (length line) 79) (go_on number (line_does number line stage) (onward number (parted 10 more))) (stopped_at number 13)
line_comes number stage line more lack = ap (lines_run number stage) ((parting 10).first line more lack) ∙ step number stage line (parted 10 more) (parts_some 10 more)

line_runs : (number : ℕ) (stage : Stage) (line more : List ℕ) → Short line
    → lines_run number stage (parted 10 (line ++ (10 ∷ more))) ≡ go_on number (line_does number line stage) (onward number (parted 10 more))
line_runs number stage line more short = line_comes number stage line more short.0 ∙ cond-true _ _ _ (le-leb (length line) 79 short.1)

-- lines that are done, before what follows them
goes : (number : ℕ) (stage : Stage) (lines : List (List ℕ)) (rest text : List ℕ) (last : Stage) → All Short lines → Done number stage lines text last
    → lines_run number stage (parted 10 (lined lines ++ rest)) ≡ before text (lines_run (length lines + number) last (parted 10 rest))
goes number stage [] rest text last short done =
    ap (λ (s : Stage). lines_run number s (parted 10 rest)) done.1 ∙ ap (λ (t : List ℕ). before t (lines_run number last (parted 10 rest))) (sym done.0)
    ∙ ap (λ (k : ℕ). before text (lines_run k last (parted 10 rest))) (omega arith)
goes number stage (line ∷ lines) rest text last short done =
    let printed : List ℕ = done.0 in
    let behind : List ℕ = done.1.0 in
    let next : Stage = done.1.1.0 in
    let facts = done.1.1.1 in
    ap (λ (t : List ℕ). lines_run number stage (parted 10 t)) (append_assoc line (10 ∷ lined lines) rest)
    ∙ line_runs number stage line (lined lines ++ rest) (All-head Short line lines short)
    ∙ ap (λ (c : Came). go_on number c (onward number (parted 10 (lined lines ++ rest)))) facts.0
    ∙ ap (before printed) (goes (number + 1) next lines rest behind last (All-tail Short line lines short) facts.2)
    ∙ before_both printed behind (lines_run (length lines + (number + 1)) last (parted 10 rest))
    ∙ ap (λ (t : List ℕ). before t (lines_run (length lines + (number + 1)) last (parted 10 rest))) (sym facts.1)
    ∙ ap (λ (k : ℕ). before text (lines_run k last (parted 10 rest))) (omega arith)

begun : (lines : List (List ℕ)) (rest text : List ℕ) (stage : Stage) → Begins lines rest text stage
    → run_of (lined lines ++ rest) ≡ before text (lines_run (length lines + 1) stage (parted 10 rest))
begun lines rest text stage b =
    cond-true _ _ _ (le-leb (length (lined lines ++ rest)) 65536 b.fits) ∙ goes 1 (Naming [] []) lines rest text stage b.short b.done

whole_runs : (lines : List (List ℕ)) (text : List ℕ) (stage : Stage) → Begins lines [] text stage → run_of (lined lines) ≡ before text (lines_run (length lines + 1) stage (parted 10 []))
whole_runs lines text stage b = ap run_of (sym (append-nil (lined lines))) ∙ begun lines [] text stage b

empty : (text : List ℕ) → length text ≡ 0 → text ≡ []
empty [] z = refl
empty (c ∷ text) z = absurd (omega arith)

pub sheet_lines : SheetLines
sheet_lines =
    record {
      whole = λ lines text stage b. whole_runs lines text stage b ∙ ap (λ (t : List ℕ). record { text = t; refused = None }) (append-nil text);
      stops = λ lines line more text stage why b short stop.
          begun lines (line ++ (10 ∷ more)) text stage b
          ∙ ap (before text) (line_runs (length lines + 1) stage line more short ∙ ap (λ (c : Came). go_on (length lines + 1) c (onward (length lines + 1) (parted 10 more))) stop);
      long = λ lines line more text stage b lack long.
          begun lines (line ++ (10 ∷ more)) text stage b
          ∙ ap (before text) (line_comes (length lines + 1) stage line more lack ∙ cond-false _ _ _ (lt-leb (length line) 79 long));
      unended = λ lines line text stage b lack some.
          begun lines line text stage b
          ∙ ap (before text) (ap (lines_run (length lines + 1) stage) ((parting 10).lines [] line (All-nil (Lacks 10)) lack) ∙ cond-false _ _ _ (ne_eqb (length line) 0 (λ z. some (empty line z))));
      too_long = λ sheet long. cond-false _ _ _ (lt-leb (length sheet) 65536 long);
    }

-- what a line does, by what it says
module _ (number : ℕ) (line : List ℕ) (stage : Stage) where
  by_said : (said : Result Says LineFault) → line_says line ≡ said → line_does number line stage ≡ says_do number said stage
  by_said said e = ap (λ (s : Result Says LineFault). says_do number s stage) e

  by_answer : (call : Asks) (a : Result Answer ℕ) → line_says line ≡ Ok (Calls call) → (comes number line stage call).answer ≡ a → line_does number line stage ≡ answered number a (comes number line stage call)
  by_answer call a e is = by_said (Ok (Calls call)) e ∙ ap (λ (r : Result Answer ℕ). answered number r (comes number line stage call)) is

  line_by_said : LineDoes number line stage
  line_by_said =
      record {
        fault = λ f e. by_said (Err f) e;
        tag = λ kind draw e. by_said (Ok (Tag kind draw)) e;
        page = λ tag page bytes e. by_said (Ok (Page tag page bytes)) e;
        answered = λ call answer e is. by_answer call (Ok answer) e is;
        refused = λ call why e is. by_answer call (Err why) e is;
      }

pub lines_do : LinesDo
lines_do number line stage = line_by_said number line stage
