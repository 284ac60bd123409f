use Rattle.std.proofs.Common.{◌≡◌, ◌/◌, ltb, cond, Err, ap, ◌∙◌}
use Rattle.std.proofs.lemmas.Result.{err_from_is_err_and}
use Rattle.sheet.specs.declared.drafts.Draft as coded
use Rattle.sheet.specs.declared.faults.LineFault.TheVariants.{NoSuchPage}
use Rattle.sheet.specs.Drafts.{draft_of, repaged}
use Rattle.sheet.proofs.Drafted.{row_past, row_ok, row_err}
use Rattle.sheet.proofs.drafts.set_in_row.Goals as goal

pub returns-in_err-ok_or : goal.returns-in_err-ok_or
returns-in_err-ok_or g c =
    let p = err_from_is_err_and c.from_residual.result c.from_residual.ensures.1 in
    let none = rw c.in_err-ok_or.ensures.ok_part at c.get.ensures.lookup in
    let given = rw c.in_err-ok_or.ensures.ok_part at c.in_err-ok_or.ensures.value in
    let why : c.in_err-ok_or.field-0.0 ≡ NoSuchPage = cc in
    rw (p.1, p.2, why) (row_past (draft_of g.T.Make.means) (repaged g.T.Make.made c.args.page c.args.bytes) (ltb c.args.page (g.row.N / 8)) c.args.n c.args.row.now none.3)

pub returns-in_err-draft : goal.returns-in_err-draft
returns-in_err-draft g c =
    let p = err_from_is_err_and c.from_residual-in_err-draft.result c.from_residual-in_err-draft.ensures.1 in
    let at = rw c.in_ok-ok_or.ensures.ok_part at c.get.ensures.lookup in
    let old : coded.Draft _ _ = c.in_ok-ok_or.field-0.now in
    rw (p.1, p.2)
    (row_err (draft_of g.T.Make.means) (repaged g.T.Make.made c.args.page c.args.bytes) (ltb c.args.page (g.row.N / 8)) c.args.n c.args.row.now old _ at.3.0
    (c.in_err-draft.ensures ∙ ap (λ d. cond (ltb c.args.page (g.row.N / 8)) (repaged g.T.Make.made c.args.page c.args.bytes (draft_of g.T.Make.means d)) (Err 18)) at.1))

pub returns : goal.returns
returns g c =
    let at = rw c.in_ok-ok_or.ensures.ok_part at c.get.ensures.lookup in
    let old : coded.Draft _ _ = c.in_ok-ok_or.field-0.now in
    row_ok (draft_of g.T.Make.means) (repaged g.T.Make.made c.args.page c.args.bytes) (ltb c.args.page (g.row.N / 8)) c.args.n c.args.row.now old c.in_ok-draft.draft at.3.0
    (c.in_ok-draft.ensures ∙ ap (λ d. cond (ltb c.args.page (g.row.N / 8)) (repaged g.T.Make.made c.args.page c.args.bytes (draft_of g.T.Make.means d)) (Err 18)) at.1)
