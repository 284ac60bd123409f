-- The steps of a run, as the code cuts its lines.
use Rattle.std.proofs.Common.{◌≡◌, ℕ, ◌+◌, ◌<◌, ◌≤◌, min, ◌⊎◌, inl, inr, Bool, false, cond, eqb, leb, List, [], ◌∷◌, ◌++◌, length, get_or, take, Ok, Err, Global, String, string_bytes, Result, sym, refl, ap, ◌∙◌, subst, append_assoc, arith, length-append, length-take-le}
use Rattle.std.specs.List.{AllWithin, IsFirstMatchOrLen}
use Rattle.std.specs.Result.{MatchResult, IsErrAnd}
use Rattle.std.proofs.lemmas.Bool.{cond-true, cond-false, cases_lt, eqb-true, le-leb, lt-leb, ne_eqb}
use Rattle.std.proofs.lemmas.List.{get_or_append_left, take_more, take_at}
use Rattle.std.proofs.lemmas.List.Splits.{slice_split_at, slice_split_none}
use Rattle.sheet.specs.declared.stages.Stage as coded
use Rattle.sheet.specs.declared.stops.LineStop.{LineStop}
use Rattle.sheet.specs.declared.stops.LineStop.TheVariants as is
use Rattle.sheet.specs.declared.stops.SheetStop.{SheetStop}
use Rattle.parts.specs.Parts.{parted}
use Rattle.sheet.specs.Cuts.{IsEnded, IsUnended}
use Rattle.sheet.specs.Faults.{fault_number}
use Rattle.sheet.specs.Sheets.{Stage, Came, Went, Stopped, Run, stopped_at, before, go_on, line_does, lines_run}
use Rattle.sheet.specs.Views.{came_behind, stage_of, stop_at, CameBy, RanBy}
use Rattle.parts.proofs.Cuts.{parts_some}

abbrev pub onward : ℕ → List (List ℕ) → Stage → Run
onward number lines after = lines_run (number + 1) after lines

pub step : (number : ℕ) (stage : Stage) (line : List ℕ) (lines : List (List ℕ)) → 0 < length lines
    → lines_run number stage (line ∷ lines) ≡ cond (leb (length line) 79) (go_on number (line_does number line stage) (onward number lines)) (stopped_at number 13)
step number stage line [] h = absurd (omega arith)
step number stage line (next ∷ more) h = refl

-- a piece is cut behind the first LF, or else it is all that is left
pub record Cut (xs piece rest : List ℕ) : Type 0 where
  pub end : ℕ
  pub whole : xs ≡ piece ++ rest
  pub long : length piece ≡ min (end + 1) (length xs)
  pub found : IsFirstMatchOrLen (λ c. eqb c 10) xs end
  pub some : 0 < length xs

-- what is said of one, of any test that is computed
pub cut_by : (computed : (ℕ → Bool) → Type 0) (xs piece rest : List ℕ)
    → (xs ≡ piece ++ rest) × ((i : ℕ) × (length piece ≡ min (i + 1) (length xs)) × ((p : ℕ → Bool) → computed p → computed p × IsFirstMatchOrLen p xs i)) × (0 < length xs)
    → computed (λ c. eqb c 10) → Cut xs piece rest
cut_by computed xs piece rest s key = record { end = s.1.0; whole = s.0; long = s.1.1; found = (s.1.2 (λ c. eqb c 10) key).1; some = s.2 }

-- the line in front of the first LF
parts_at : (xs line rest : List ℕ) (i : ℕ) → xs ≡ line ++ (10 ∷ rest) → length line ≤ i → AllWithin (λ c. eqb c 10 ≡ false) xs 0 i → parted 10 xs ≡ line ∷ parted 10 rest
parts_at xs line rest i e within first =
    ap (parted 10) e
    ∙ slice_split_at (λ c. eqb c 10) line 10 rest
    (λ k d h. subst (λ (c : ℕ). eqb c 10 ≡ false) (ap (λ (zs : List ℕ). get_or zs k d) e ∙ get_or_append_left line (10 ∷ rest) d k h) (first k d (omega arith) (omega arith)))
    refl

-- a line of 79 bytes or fewer is done
line_done : (number : ℕ) (stage : Stage) (xs piece rest line : List ℕ) → Cut xs piece rest → IsEnded piece line
    → lines_run number stage (parted 10 xs) ≡ go_on number (line_does number line stage) (onward number (parted 10 rest))
line_done number stage xs piece rest line cut line_ends =
    let long : length piece ≡ length line + 1 = ap length line_ends.0 ∙ length-append line (10 ∷ []) in
    let whole : xs ≡ line ++ (10 ∷ rest) = cut.whole ∙ ap (λ (zs : List ℕ). zs ++ rest) line_ends.0 ∙ append_assoc line (10 ∷ []) rest in
    ap (lines_run number stage) (parts_at xs line rest cut.end whole (omega (arith, cut.long)) cut.found.0)
    ∙ step number stage line (parted 10 rest) (parts_some 10 rest)
    ∙ cond-true _ _ _ (le-leb _ _ line_ends.1)

-- a longer one, or what is left without an LF, is not
line_stops : (number : ℕ) (stage : Stage) (xs piece rest : List ℕ) (cut : Cut xs piece rest) → IsUnended piece → (cut.end < length xs) ⊎ (length xs ≤ cut.end)
    → lines_run number stage (parted 10 xs) ≡ stopped_at number 13
line_stops number stage xs piece rest cut unended (inl h) =
    let i : ℕ = cut.end in
    let size : length piece ≡ i + 1 = omega (arith, cut.long) in
    let front : piece ≡ take (i + 1) xs = sym (ap (take (i + 1)) cut.whole ∙ take_at piece rest (i + 1) size) in
    let mark : get_or xs i 0 ≡ 10 = eqb-true _ _ (cut.found.1 h 0) in
    let ends : piece ≡ take i xs ++ (10 ∷ []) = front ∙ take_more xs i 0 h ∙ ap (λ (c : ℕ). take i xs ++ (c ∷ [])) mark in
    let whole : xs ≡ take i xs ++ (10 ∷ rest) = cut.whole ∙ ap (λ (zs : List ℕ). zs ++ rest) ends ∙ append_assoc (take i xs) (10 ∷ []) rest in
    let within : length (take i xs) ≤ i = omega (arith, length-take-le i xs) in
    ap (lines_run number stage) (parts_at xs (take i xs) rest i whole within cut.found.0)
    ∙ step number stage (take i xs) (parted 10 rest) (parts_some 10 rest)
    ∙ cond-false _ _ _ (lt-leb _ _ (unended (take i xs) ends))
line_stops number stage xs piece rest cut unended (inr h) =
    let some = cut.some in
    ap (lines_run number stage) (slice_split_none (λ c. eqb c 10) xs (λ k d l. cut.found.0 k d (omega arith) (omega arith)))
    ∙ cond-false _ _ _ (ne_eqb (length xs) 0 (λ (z : length xs ≡ 0). omega arith))

-- the same in a run that printed a text before: the piece has the number of those before it, from 0
module _ (old : List ℕ) (stage : Stage) (target : Run) (xs piece rest : List ℕ) (i count : ℕ) (is : i ≡ count) (cut : Cut xs piece rest) (so_far : before old (lines_run (count + 1) stage (parted 10 xs)) ≡ target) where
  pub run_goes : (line : List ℕ) → IsEnded piece line → before old (go_on (i + 1) (line_does (i + 1) line stage) (onward (i + 1) (parted 10 rest))) ≡ target
  run_goes line ends = ap (before old) (sym (line_done (i + 1) stage xs piece rest line cut ends)) ∙ ap (λ (k : ℕ). before old (lines_run (k + 1) stage (parted 10 xs))) is ∙ so_far

  pub run_stops : IsUnended piece → before old (stopped_at (i + 1) 13) ≡ target
  run_stops unended = ap (before old) (sym (line_stops (i + 1) stage xs piece rest cut unended (cases_lt cut.end (length xs)))) ∙ ap (λ (k : ℕ). before old (lines_run (k + 1) stage (parted 10 xs))) is ∙ so_far

-- a line that went: what it printed joins the text
went : (number : ℕ) (old new : List ℕ) (came : Came) (after : Stage) (lines : List (List ℕ)) → came_behind old came ≡ Went new after
    → before new (lines_run (number + 1) after lines) ≡ before old (go_on number came (onward number lines))
went number old new (Went text stage) after lines e =
    let joined : old ++ text ≡ new = cc in
    let on : stage ≡ after = cc in
    sym
    (ap (λ (s : Stage). before old (before text (lines_run (number + 1) s lines))) on
    ∙ ap (λ (t : List ℕ). record { text = t; refused = (lines_run (number + 1) after lines).refused }) (sym (append_assoc old text (lines_run (number + 1) after lines).text))
    ∙ ap (λ (t : List ℕ). before t (lines_run (number + 1) after lines)) joined)
went number old new (Stopped why) after lines e = cc

-- what a line answered, its fault made the sheet's
module _ (post : LineStop → SheetStop → Type 0) (number : ℕ) (at : (e : LineStop) (s : SheetStop) → post e s → s ≡ stop_at number e) where
  pub line_went : (r : Result coded.Stage LineStop) (m : Result coded.Stage SheetStop) (old new : String Global) (came : Came) (after : coded.Stage) (lines : List (List ℕ))
      → MatchResult r (λ x. m ≡ Ok x) (λ e. IsErrAnd m (post e)) → CameBy r old new came → m ≡ Ok after
      → before (string_bytes new) (lines_run (number + 1) (stage_of after) lines) ≡ before (string_bytes old) (go_on number came (onward number lines))
  line_went (Ok stage) m old new came after lines maps by is =
      let same : stage ≡ after = cc in
      went number (string_bytes old) (string_bytes new) came (stage_of after) lines (by ∙ ap (λ (s : coded.Stage). Went (string_bytes new) (stage_of s)) same)
  line_went (Err e) (Ok stage) old new came after lines maps by is = absurd maps
  line_went (Err e) (Err s) old new came after lines maps by is = cc

  stops : (stop : LineStop) (came : Came) (old new : String Global) (rest : Stage → Run) (target : Run) → CameBy (Err stop) old new came → before (string_bytes old) (go_on number came rest) ≡ target
      → RanBy (Err (stop_at number stop)) new target
  stops (is.Fault f) came old new rest target by e =
      sym e ∙ ap (λ (x : Came). before (string_bytes old) (go_on number x rest)) by.1 ∙ ap (λ (t : List ℕ). before t (stopped_at number (fault_number f))) (sym by.0)
  stops (is.Memory a) came old new rest target by e = tt

  pub line_stopped : (r : Result coded.Stage LineStop) (m : Result coded.Stage SheetStop) (old new : String Global) (came : Came) (rest : Stage → Run) (target : Run) (stop : SheetStop)
      → MatchResult r (λ x. m ≡ Ok x) (λ e. IsErrAnd m (post e)) → CameBy r old new came → m ≡ Err stop → before (string_bytes old) (go_on number came rest) ≡ target → RanBy (Err stop) new target
  line_stopped (Ok stage) m old new came rest target stop maps by is e = cc
  line_stopped (Err f) (Ok stage) old new came rest target stop maps by is e = cc
  line_stopped (Err f) (Err s) old new came rest target stop maps by is e =
      let same : stop_at number f ≡ stop = sym (at f s maps) ∙ cc in
      subst (λ (x : SheetStop). RanBy (Err x) new target) same (stops f came old new rest target by e)
