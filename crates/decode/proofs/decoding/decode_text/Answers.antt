use Rattle.std.proofs.Common.{ℕ, ◌+◌, ◌==◌, ◌++◌, length, drop, string_bytes, sym, refl, ap, ◌∙◌, rules}
use borrow.Author.Tests.{tests}
use Rattle.std.proofs.lemmas.Iterator.Consumers.{YieldsList-from_enumerate}
use Rattle.std.proofs.lemmas.Iterator.Splits.{YieldsList-from_slice_split}
use Rattle.std.proofs.lemmas.List.{length_push}
use Rattle.decode.specs.Lines.{line_bytes, lines_of}
use Rattle.decode.specs.Report.{faulted, all_reports, all_faults}
use Rattle.decode.proofs.Numbering.{turn, end, next_line, one_more, no_more}
use Rattle.decode.proofs.Worked.{worked_texts}
use Rattle.decode.proofs.decoding.decode_text.Goals as goal

pub loop-i-preserved : goal.loop-i-preserved
loop-i-preserved c =
    let next = next_line (lines_of c.args.text.now) (length c.loop-i.yielded) c.in-Some.i c.in-Some.line.now
    (turn c.loop-i.yielded _ c.loop-i.yielded_by c.next.result _ (c.in-Some.i, c.in-Some.line) c.in-Some.is c.next.ensures.steps
    (YieldsList-from_enumerate (YieldsList-from_slice_split _ (λ (x : ℕ). x == 10) c.args.text.now (cc) (cc) (cc) (λ x b q k. search (rules, tests))) (cc))) in
    let count = length_push c.loop-i.yielded (c.in-Some.i, c.in-Some.line) in (
      one_more (λ n ls. all_reports c.args.sealing ls) (lines_of c.args.text.now) (length c.loop-i.yielded) _ c.in-Some.line.now _ _ _ count next.1 refl c.in_ok-add_line.ensures.reports
          ∙ c.loop-i.invariant.0,
      one_more (λ n ls. all_faults (n + 1) ls) (lines_of c.args.text.now) (length c.loop-i.yielded) _ c.in-Some.line.now _ _ _ count next.1 (ap (λ (i : ℕ). faulted (i + 1) c.in-Some.line.now (line_bytes c.in-Some.line.now) ++ all_faults (length c.loop-i.yielded + 1 + 1) (drop (length c.loop-i.yielded + 1) (lines_of c.args.text.now))) (sym next.0)) c.in_ok-add_line.ensures.faults
          ∙ c.loop-i.invariant.1,
    )

pub returns : goal.returns
returns c =
    let all = end c.loop-i.yielded _ c.loop-i.yielded_by c.next.result _ c.in-None.is c.next.ensures.steps
    (YieldsList-from_enumerate (YieldsList-from_slice_split _ (λ (x : ℕ). x == 10) c.args.text.now (cc) (cc) (cc) (λ x b q k. search (rules, tests))) (cc)) in
    record {
      reports = no_more (λ n ls. all_reports c.args.sealing ls) (lines_of c.args.text.now) (length c.loop-i.yielded) (string_bytes c.loop-i.decoded.reports) all refl ∙ c.loop-i.invariant.0;
      faults = no_more (λ n ls. all_faults (n + 1) ls) (lines_of c.args.text.now) (length c.loop-i.yielded) (string_bytes c.loop-i.decoded.faults) all refl ∙ c.loop-i.invariant.1;
      worked = worked_texts;
    }
