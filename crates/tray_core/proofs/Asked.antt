-- A call before rows that fit: only its own question can refuse it.
use Rattle.std.proofs.Common.{◌≡◌, ℕ, Bool, true, cond, leb, List, length, Some, Ok, Option, Result, sym, refl, ap, ◌∙◌, subst, arith}
use Rattle.std.proofs.lemmas.Bool.{le-leb}
use Rattle.refusals.specs.declared.Refusal.{Refusal}
use Rattle.kinds.specs.Kinds.{Meaning, Behaviour}
use Rattle.tray_core.specs.declared.calls.Answer.{Answer}
use Rattle.tray_core.specs.declared.row.Row.{Row}
use Rattle.tray_core.specs.declared.tray.Rows.{Rows}
use Rattle.tray_core.specs.declared.tray.Tray.{Tray}
use Rattle.tray_core.specs.Step.{Asks, Stepped, own_question, step, unless_refused}
use Rattle.tray_core.specs.Trays.{Model, rows_fit}
use Rattle.tray_core.specs.Views.{model_of, row_of, rows_in, rows_of}
use Rattle.tray_core.proofs.Lined.{long_row}

short_row : {K S H : Type 0} (means : K → Meaning S H) (row : Row K) → leb (length (row_of means row)) 32 ≡ true
short_row means row = let long = long_row means row in le-leb (length (row_of means row)) 32 (omega arith)

module _ {KF SF HF KB SB HB : Type 0} (f : KF → Meaning SF HF) (b : KB → Meaning SB HB) (rows : Rows KF KB) where
  pub fitting : rows_fit (rows_of f b rows) ≡ true
  fitting = let front = short_row f rows.front in let back = short_row b rows.back in simp (front, back) refl

  module _ (F : Behaviour SF HF) (B : Behaviour SB HB) (tray : Tray KF KB) (is : tray.rows ≡ Ok rows) where
    pub asked : (c : Asks) (why : Option ℕ) (buffer given : List ℕ) (list filled : List (List ℕ)) (r : Result Answer Refusal) (u : Model SF HF SB HB)
        → own_question c (rows_of f b rows) buffer list ≡ why
        → Stepped (unless_refused F B why c (rows_of f b rows) buffer list) r u given filled
        → Stepped (step F B c (model_of f b tray) buffer list) r u given filled
    asked c why buffer given list filled r u own comes =
        subst (λ (t : Model SF HF SB HB). Stepped (step F B c t buffer list) r u given filled) (sym (ap (rows_in f b) is))
        (subst (λ (o : Option ℕ). Stepped (unless_refused F B o c (rows_of f b rows) buffer list) r u given filled)
        (sym (ap (λ (fits : Bool). cond fits (own_question c (rows_of f b rows) buffer list) (Some 4)) fitting ∙ own)) comes)
