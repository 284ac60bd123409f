use Rattle.std.proofs.Common.{◌≡◌, ℕ, ◌+◌, List, string_bytes, sym, ap, ◌∙◌, rules}
use Rattle.std.proofs.lemmas.List.Sorted.{answers_always}
use Rattle.std.proofs.lemmas.Result.{err_from_is_err_and}
use Rattle.parts.specs.Parts.{parted}
use Rattle.sheet.specs.declared.faults.LineFault.TheVariants.{Unended}
use Rattle.sheet.specs.declared.stops.SheetFault.TheVariants as fault
use Rattle.sheet.specs.Sheets.{before, line_does, lines_run}
use Rattle.sheet.specs.Views.{stage_of}
use Rattle.sheet.proofs.Ran.{cut_by, onward, line_went, line_stopped, run_goes, run_stops}
use Rattle.sheet.proofs.running.run_lines.Goals as goal

pub returns-in_err-line : goal.returns-in_err-line
returns-in_err-line c =
    let s = c.in-Some.ensures.steps in
    let cut = cut_by _ _ _ _ s.0 (answers_always _ _ _ (λ f a r g h. search rules)) in
    let old : List ℕ = string_bytes c.loop-i.text in
    let p = err_from_is_err_and c.from_residual.result c.from_residual.ensures.1 in
    let unended = rw c.in_err-line.ensures.ok_part at c.ended.ensures in
    let given = rw c.in_err-line.ensures.ok_part at c.in_err-line.ensures.value in
    let why : c.in_err-line.field-0.0 ≡ fault.Line (c.in-Some.i + 1) Unended = cc in
    rw (p.1, p.2, why) (sym (run_stops old (stage_of c.loop-i.stage) _ _ _ _ _ _ s.1 cut c.loop-i.invariant unended))

pub returns-in_err-stage : goal.returns-in_err-stage
returns-in_err-stage c =
    let s = c.in-Some.ensures.steps in
    let cut = cut_by _ _ _ _ s.0 (answers_always _ _ _ (λ f a r g h. search rules)) in
    let n : ℕ = c.in-Some.i + 1 in
    let rest : List (List ℕ) = parted 10 c.next.new.self.iter.rest.now in
    let line : List ℕ = c.in_ok-line.line.now in
    let p = err_from_is_err_and c.from_residual-in_err-stage.result c.from_residual-in_err-stage.ensures.1 in
    let line_ends = rw c.in_ok-line.ensures.ok_part at c.ended.ensures in
    rw (p.1, p.2)
    (line_stopped _ n (λ e s q. search rules) c.do_line.result c.map_err.result c.loop-i.text c.do_line.new.text (line_does n line (stage_of c.loop-i.stage)) (onward n rest) _ _ c.map_err.ensures.cases c.do_line.ensures c.in_err-stage.was
    (run_goes (string_bytes c.loop-i.text) (stage_of c.loop-i.stage) _ _ _ _ _ _ s.1 cut c.loop-i.invariant line line_ends))

pub loop-i-preserved : goal.loop-i-preserved
loop-i-preserved c =
    let s = c.in-Some.ensures.steps in
    let cut = cut_by _ _ _ _ s.0 (answers_always _ _ _ (λ f a r g h. search rules)) in
    let n : ℕ = c.in-Some.i + 1 in
    let rest : List (List ℕ) = parted 10 c.next.new.self.iter.rest.now in
    let line : List ℕ = c.in_ok-line.line.now in
    let line_ends = rw c.in_ok-line.ensures.ok_part at c.ended.ensures in
    ap (λ (k : ℕ). before (string_bytes c.do_line.new.text) (lines_run (k + 1) (stage_of c.in_ok-stage.stage) rest)) (s.2 ∙ ap (λ (k : ℕ). k + 1) (sym s.1))
    ∙ line_went _ n (λ e s q. search rules) c.do_line.result c.map_err.result c.loop-i.text c.do_line.new.text (line_does n line (stage_of c.loop-i.stage)) c.in_ok-stage.stage rest c.map_err.ensures.cases c.do_line.ensures c.in_ok-stage.was
    ∙ run_goes (string_bytes c.loop-i.text) (stage_of c.loop-i.stage) _ _ _ _ _ _ s.1 cut c.loop-i.invariant line line_ends
