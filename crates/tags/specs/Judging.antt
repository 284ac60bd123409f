-- What a tag answers to a reader, as the reader's half judges it.
use Rattle.std.specs.Prelude.{◌≡◌, ℕ, true, List, Some, Ok}
use Rattle.typeb.specs.declared.frames.Op.{Op}
use Rattle.kinds.specs.Kinds.{Meaning}
use Rattle.kinds.specs.Says.{Says}
use Rattle.kinds.specs.Reacts.{Reaction, says_to}
use Rattle.reader.specs.Commands.{Asked, in_range, frame_for}
use Rattle.reader.specs.Judged.{judged}
use Rattle.reader.specs.Laws.{Sized}
use Rattle.tags.specs.Common.{Shown, reacts_by, acts_by}

-- Whatever a tag of a kind, in any state, says to a command in range, its reply is judged to exactly that.
pub record AnswersJudged {H : Type 0} (obeys : Op → ℕ → List ℕ → Meaning Shown H → Reaction (Meaning Shown H))
    (TagSized : Meaning Shown H → Type 0) : Type 0 where
  pub exactly : (m : Meaning Shown H) → TagSized m → (a : Asked) → Sized a → in_range a ≡ true
      → (s : Says) → says_to (reacts_by obeys) (frame_for a) m ≡ Some s
      → judged a ((acts_by obeys).hears (frame_for a) m).reply ≡ Ok s
