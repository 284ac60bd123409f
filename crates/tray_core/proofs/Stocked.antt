-- A stock that was not refused has come to the end of its script.
use Rattle.std.proofs.Common.{◌≡◌, ℕ, ◌≤◌, List, ◌++◌, length, take, drop, Ok, sym, refl, ap, ◌∙◌, arith}
use Rattle.std.proofs.lemmas.List.{length-take-le, take-append-drop}
use Rattle.kinds.specs.Kinds.{Behaviour}
use Rattle.tray_core.specs.declared.calls.Answer.TheVariants as answer
use Rattle.tray_core.specs.declared.progress.Progress.{Progress}
use Rattle.tray_core.specs.Scripts.{done, SameEnd}
use Rattle.tray_core.specs.Step.{Stepped, Stock, does, figures}
use Rattle.tray_core.specs.Stock.{stocktaking}
use Rattle.tray_core.specs.Trays.{Model}
use Rattle.tray_core.specs.Views.{tally_of}

module _ {SF HF SB HB : Type 0} (F : Behaviour SF HF) (B : Behaviour SB HB) (t u : Model SF HF SB HB) (buffer : List ℕ) (list filled : List (List ℕ)) (p : Progress) where
  pub stocked : 128 ≤ length list → length filled ≡ length list → p.listed ≤ 128 → drop p.listed filled ≡ drop p.listed list → SameEnd F B stocktaking t (done (tally_of p filled)) u
      → Stepped (does F B Stock t buffer list) (Ok (answer.Stock p.frames p.rounds p.clashes p.listed)) u buffer filled
  stocked room long few rest end =
      let count : length (take p.listed filled) ≡ p.listed = length-take-le p.listed filled (omega arith) in
      let tally = sym end.result in
      record {
        answers = ap (λ n. Ok (answer.Stock p.frames p.rounds p.clashes n)) (sym count) ∙ ap (λ c. Ok (figures c)) tally;
        leaves = sym end.tray;
        writes = refl;
        listing =
            sym (take-append-drop p.listed filled)
            ∙ ap (λ l. take p.listed filled ++ l) (rest ∙ ap (λ n. drop n list) (sym count))
            ∙ ap (λ c. c.serials ++ drop (length c.serials) list) tally;
      }
