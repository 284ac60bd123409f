-- Runs: a list of calls, each with a buffer and a list of its own.
use Rattle.std.specs.Prelude.{ℕ, List, [], ◌∷◌, Result}
use Rattle.kinds.specs.Kinds.{Behaviour}
use Rattle.tray_core.specs.declared.calls.Answer.{Answer}
use Rattle.tray_core.specs.Step.{Asks, Outcome, step}
use Rattle.tray_core.specs.Trays.{Model}

pub record Turn : Type 0 where
  pub call : Asks
  pub buffer : List ℕ
  pub list : List (List ℕ)

-- What the caller sees of a call: its answer or refusal, its buffer and its list.
pub record Seen : Type 0 where
  pub answer : Result Answer ℕ
  pub buffer : List ℕ
  pub list : List (List ℕ)

module _ {SF HF SB HB : Type 0} (F : Behaviour SF HF) (B : Behaviour SB HB) where
  abbrev pub turn : Turn → Model SF HF SB HB → Outcome (Model SF HF SB HB)
  turn c t = step F B c.call t c.buffer c.list

  -- The tray after a run, and all that the caller saw.
  abbrev pub run : Model SF HF SB HB → List Turn → Model SF HF SB HB
  run t [] = t
  run t (c ∷ more) = run (turn c t).tray more

  abbrev pub seen : Model SF HF SB HB → List Turn → List Seen
  seen t [] = []
  seen t (c ∷ more) =
      record { answer = (turn c t).answer; buffer = (turn c t).buffer; list = (turn c t).list }
      ∷ seen (turn c t).tray more
