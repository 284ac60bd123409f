-- Every run plays its calls.
use Rattle.std.proofs.Common.{◌≡◌, ℕ, ◌+◌, ◌-◌, Bool, true, false, cond, eqb, ltb, leb, List, [], ◌∷◌, ◌++◌, length, Ok, Err, Result, sym, refl, ap, ◌∙◌, subst, append_assoc, arith}
use Rattle.std.proofs.lemmas.Bool.{cond-false, ne_eqb}
use Rattle.tags.specs.Gauge.{GaugeMeaning}
use Rattle.tags.specs.Pump.{PumpMeaning}
use Rattle.tray_core.specs.declared.calls.Answer.{Answer}
use Rattle.tray_core.specs.Step.{Asks, Outcome}
use Rattle.sheet.specs.declared.faults.LineFault.{LineFault}
use Rattle.sheet.specs.declared.words.TagKind.TheVariants.{Pump, Gauge}
use Rattle.sheet.specs.Drafts.{Draft, blank_pump, blank_gauge, front_paged, back_paged}
use Rattle.parts.specs.Parts.{parted}
use Rattle.sheet.specs.Lines.{Says, Tag, Page, Calls, line_says}
use Rattle.sheet.specs.Printing.{printed_answer}
use Rattle.sheet.specs.Sheets.{SheetTray, Stage, Naming, Calling, Came, Went, Stopped, Run, stopped_at, ended, before, go_on, says_do, answered, tray_in, with_front, with_back, lines_run, run_of}
use Rattle.sheet.proofs.Loading.{names_load}
use Rattle.sheet.specs.Played.{CallLine, call_in, calls_in, Names, NewTag, SetPage, name_in, names_in, does_name, Leads, step_of, Played, Plays, SheetPlays}

-- no tag is named once calls are made
calling_leads : (tray : SheetTray) (lines : List Names) (last : Stage) → Leads (Calling tray) lines last → Calling tray ≡ last
calling_leads tray [] last e = e
calling_leads tray (NewTag kind draw ∷ lines) last l = let e : Stopped 17 ≡ Went [] l.0 = l.1.0 in cc
calling_leads tray (SetPage tag page bytes ∷ lines) last l = let e : Stopped 17 ≡ Went [] l.0 = l.1.0 in cc

stopped : (stage : Stage) (names : List Names) (calls : List CallLine) (line why : ℕ) → Plays stage names calls (stopped_at line why)
stopped stage names calls line why =
    record {
      taken = [];
      untaken = names;
      names_order = refl;
      loaded = stage;
      leads = refl;
      made = [];
      unmade = calls;
      calls_order = refl;
      text = [];
      played = refl;
      prints = refl;
      whole = λ e. cc;
    }

done : (stage : Stage) → Plays stage [] [] ended
done stage =
    record {
      taken = [];
      untaken = [];
      names_order = refl;
      loaded = stage;
      leads = refl;
      made = [];
      unmade = [];
      calls_order = refl;
      text = [];
      played = refl;
      prints = refl;
      whole = λ e. refl;
    }

-- a line that names a tag or sets a page prints nothing
quiet : (line : Names) (stage next : Stage) (names : List Names) (calls : List CallLine) (run : Run)
    → does_name line stage ≡ Went [] next → Plays next names calls run → Plays stage (line ∷ names) calls (before [] run)
quiet line stage next names calls run e p =
    record {
      taken = line ∷ p.taken;
      untaken = p.untaken;
      names_order = ap (λ (ns : List Names). line ∷ ns) p.names_order;
      loaded = p.loaded;
      leads = (next, (e, p.leads));
      made = p.made;
      unmade = p.unmade;
      calls_order = p.calls_order;
      text = p.text;
      played = p.played;
      prints = p.prints;
      whole = p.whole;
    }

-- a call that is answered
loud : (number : ℕ) (call : Asks) (stage : Stage) (o : Outcome SheetTray) (answer : Answer) (names : List Names) (calls : List CallLine) (run : Run)
    → o ≡ step_of (record { number = number; call = call }) (tray_in stage) → o.answer ≡ Ok answer
    → Plays (Calling o.tray) names calls run
    → Plays stage names (record { number = number; call = call } ∷ calls) (before (printed_answer number answer o.buffer o.list) run)
loud number call stage o answer names calls run is ok p =
    let line : CallLine = record { number = number; call = call } in
    let shown : List ℕ = printed_answer number answer o.buffer o.list in
    let tray : tray_in p.loaded ≡ (step_of line (tray_in stage)).tray =
    ap tray_in (sym (calling_leads o.tray p.taken p.loaded p.leads)) ∙ ap (λ (x : Outcome SheetTray). x.tray) is in
    record {
      taken = [];
      untaken = names;
      names_order = refl;
      loaded = stage;
      leads = refl;
      made = line ∷ p.made;
      unmade = p.unmade;
      calls_order = ap (λ (cs : List CallLine). line ∷ cs) p.calls_order;
      text = shown ++ p.text;
      played = (
        answer,
        (
          p.text,
          (
            ap (λ (x : Outcome SheetTray). x.answer) (sym is) ∙ ok,
            ap (λ (x : Outcome SheetTray). printed_answer number answer x.buffer x.list ++ p.text) is,
            subst (λ (t : SheetTray). Played t p.made p.text) tray p.played,
          ),
        ),
      );
      prints = ap (λ (t : List ℕ). shown ++ t) p.prints ∙ sym (append_assoc shown p.text _);
      whole = p.whole;
    }

module _ (number : ℕ) (names : List Names) (calls : List CallLine) (rest : Stage → Run) (plays : (after : Stage) → Plays after names calls (rest after)) where
  call_plays : (call : Asks) (stage : Stage) (o : Outcome SheetTray) (a : Result Answer ℕ) → o ≡ step_of (record { number = number; call = call }) (tray_in stage) → o.answer ≡ a
      → Plays stage names (record { number = number; call = call } ∷ calls) (go_on number (answered number a o) rest)
  call_plays call stage o (Ok answer) is e = loud number call stage o answer names calls (rest (Calling o.tray)) is e (plays (Calling o.tray))
  call_plays call stage o (Err why) is e = stopped stage names _ number why

  came_plays : (line : Names) (stage : Stage) (r : Came) → does_name line stage ≡ r → ((printed : List ℕ) (after : Stage) → r ≡ Went printed after → printed ≡ []) → Plays stage (line ∷ names) calls (go_on number r rest)
  came_plays line stage (Went [] after) e none = quiet line stage after names calls (rest after) e (plays after)
  came_plays line stage (Went (c ∷ text) after) e none = let z : ◌≡◌ {A = List ℕ} (c ∷ text) [] = none (c ∷ text) after refl in cc
  came_plays line stage (Stopped why) e none = stopped stage (line ∷ names) calls number why

  page_quiet : (b : Bool) (front : List (Draft PumpMeaning)) (back : List (Draft GaugeMeaning)) (r : Result (List (Draft PumpMeaning)) ℕ) (s : Result (List (Draft GaugeMeaning)) ℕ) (printed : List ℕ) (after : Stage)
      → cond b (with_front r back) (with_back front s) ≡ Went printed after → printed ≡ []
  page_quiet true front back (Ok row) s printed after e = cc
  page_quiet true front back (Err why) s printed after e = cc
  page_quiet false front back r (Ok row) printed after e = cc
  page_quiet false front back r (Err why) printed after e = cc

  says_plays : (said : Result Says LineFault) (stage : Stage) → Plays stage (name_in said names) (call_in number said calls) (go_on number (says_do number said stage) rest)
  says_plays (Err fault) stage = stopped stage names calls number _
  says_plays (Ok (Tag kind draw)) (Calling tray) = stopped (Calling tray) (NewTag kind draw ∷ names) calls number 17
  says_plays (Ok (Tag Pump draw)) (Naming front back) = quiet (NewTag Pump draw) (Naming front back) (Naming (front ++ (blank_pump draw ∷ [])) back) names calls _ refl (plays (Naming (front ++ (blank_pump draw ∷ [])) back))
  says_plays (Ok (Tag Gauge draw)) (Naming front back) = quiet (NewTag Gauge draw) (Naming front back) (Naming front (back ++ (blank_gauge draw ∷ []))) names calls _ refl (plays (Naming front (back ++ (blank_gauge draw ∷ []))))
  says_plays (Ok (Page tag page bytes)) (Calling tray) = stopped (Calling tray) (SetPage tag page bytes ∷ names) calls number 17
  says_plays (Ok (Page tag page bytes)) (Naming front back) =
      came_plays (SetPage tag page bytes) (Naming front back) _ refl (page_quiet (ltb tag 32) front back (front_paged tag page bytes front) (back_paged (tag - 32) page bytes back))
  says_plays (Ok (Calls call)) stage = call_plays call stage _ _ refl refl

-- a test that stops the run where it fails
asked_plays : (b : Bool) (stage : Stage) (names : List Names) (calls : List CallLine) (run : Run) (line why : ℕ) → Plays stage names calls run → Plays stage names calls (cond b run (stopped_at line why))
asked_plays true stage names calls run line why p = p
asked_plays false stage names calls run line why p = stopped stage names calls line why

last_plays : (number : ℕ) (stage : Stage) (last : List ℕ) → Plays stage (names_in (last ∷ [])) (calls_in number (last ∷ [])) (cond (eqb (length last) 0) ended (stopped_at number 13))
last_plays number stage [] = done stage
last_plays number stage (c ∷ last) =
    subst (λ (run : Run). Plays stage (names_in ((c ∷ last) ∷ [])) (calls_in number ((c ∷ last) ∷ [])) run)
    (sym (cond-false (eqb (length (c ∷ last)) 0) ended (stopped_at number 13) (ne_eqb (length (c ∷ last)) 0 (λ (z : length (c ∷ last) ≡ 0). omega arith))))
    (stopped stage (names_in ((c ∷ last) ∷ [])) (calls_in number ((c ∷ last) ∷ [])) number 13)

lines_play : (number : ℕ) (stage : Stage) (lines : List (List ℕ)) → Plays stage (names_in lines) (calls_in number lines) (lines_run number stage lines)
lines_play number stage [] = done stage
lines_play number stage (last ∷ []) = last_plays number stage last
lines_play number stage (line ∷ next ∷ more) =
    asked_plays (leb (length line) 79) stage (names_in (line ∷ next ∷ more)) (calls_in number (line ∷ next ∷ more)) _ number 13
    (says_plays number (names_in (next ∷ more)) (calls_in (number + 1) (next ∷ more)) (λ after. lines_run (number + 1) after (next ∷ more)) (λ after. lines_play (number + 1) after (next ∷ more)) (line_says line) stage)

pub sheet_plays : (sheet : List ℕ) → SheetPlays sheet
sheet_plays sheet =
    let p : Plays (Naming [] []) (names_in (parted 10 sheet)) (calls_in 1 (parted 10 sheet)) (run_of sheet) =
    asked_plays (leb (length sheet) 65536) (Naming [] []) (names_in (parted 10 sheet)) (calls_in 1 (parted 10 sheet)) _ 0 12 (lines_play 1 (Naming [] []) (parted 10 sheet)) in
    record { plays = p; loads = names_load p.taken p.loaded p.leads }
