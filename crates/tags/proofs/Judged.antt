-- What a tag answers is judged to exactly what it said.
use Rattle.std.proofs.Common.{◌≡◌, ℕ, ◌%◌, true, List, Some, Ok, Option, sym, ap, ◌∙◌, arith}
use Rattle.std.proofs.lemmas.Option.{MatchOption-at_some}
use Rattle.std.proofs.lemmas.Bool.{and_parts, leb-true}
use Rattle.typeb.specs.declared.frames.Op.{Op}
use Rattle.typeb.specs.Hears.{Heard}
use Rattle.kinds.specs.Kinds.{Meaning}
use Rattle.kinds.specs.Says.{Says, reply_bytes}
use Rattle.kinds.specs.Reacts.{Reaction, answered, says_at, says_to}
use Rattle.reader.specs.Commands.{Asked, Request, SlotMarker, Attrib, Halt, Read, Write, Lock, CheckPassword, Deselect, Count}
use Rattle.reader.specs.Commands.{in_range, frame_for, heard_as}
use Rattle.reader.specs.Judged.{judged}
use Rattle.reader.specs.Laws.{Sized, Answers, to_request, to_marker, to_attrib, to_halt, to_read, read_refused, to_write, write_refused}
use Rattle.reader.specs.Laws.{to_lock, lock_refused, to_check, check_refused, to_deselect, to_count, count_refused}
use Rattle.reader.proofs.Makes.{reads_back}
use Rattle.reader.proofs.Answered.{judged_back}
use Rattle.tags.specs.Common.{Shown, reacts_by, acts_by}
use Rattle.tags.specs.Gauge.{GaugeSized, gauge_obeys}
use Rattle.tags.specs.Judging.{AnswersJudged}
use Rattle.tags.specs.Pump.{PumpSized, pump_obeys}
use Rattle.tags.proofs.Spoken.{Only, ToFrame, pump_says, gauge_says}

-- all that a tag can say to a command's frame can be said in answer to the command
can_be_said : (a : Asked) → in_range a ≡ true → ToFrame (Answers a) (heard_as a)
can_be_said (Request wake_up family slots) ok = λ _ _ _ x y z. to_request x y z
can_be_said (SlotMarker slot) ok = λ _ _ _ x y z. to_marker x y z
can_be_said (Attrib serial cid inf) ok =
    let low = leb-true cid 15 (and_parts _ _ ok).0 in
    let own : cid % 16 ≡ cid = omega arith in
    rw own to_attrib
can_be_said (Halt serial) ok = to_halt
can_be_said (Read cid page) ok = (λ _ x. to_read x, λ _ x. read_refused x)
can_be_said (Write cid page bytes) ok = (to_write, λ _ x. write_refused x)
can_be_said (Lock cid locks) ok = (to_lock, λ _ x. lock_refused x)
can_be_said (CheckPassword cid password) ok = (to_check, λ _ x. check_refused x)
can_be_said (Deselect cid) ok = to_deselect
can_be_said (Count cid signature) ok = (to_count, λ _ x. count_refused x)

-- a kind that says to a frame only what can be said to it is judged exactly
module _ {H : Type 0} (obeys : Op → ℕ → List ℕ → Meaning Shown H → Reaction (Meaning Shown H)) (m : Meaning Shown H) where
  judged_exactly : ((P : Says → Type 0) (frame : Heard) → ToFrame P frame → Only P (reacts_by obeys frame m).says)
      → (a : Asked) → Sized a → in_range a ≡ true → (s : Says) → says_to (reacts_by obeys) (frame_for a) m ≡ Some s
      → judged a ((acts_by obeys).hears (frame_for a) m).reply ≡ Ok s
  judged_exactly says a sized ok s says_s =
      let read = reads_back a sized ok in
      let said : (reacts_by obeys (heard_as a) m).says ≡ Some s = ap (says_at (reacts_by obeys) m) (sym read) ∙ says_s in
      let answers : Answers a s = MatchOption-at_some (Unit {0}) (Answers a) s said (says (Answers a) (heard_as a) (can_be_said a ok)) in
      ap (λ o. judged a (answered (reacts_by obeys) m o).reply) read
      ∙ ap (λ (o : Option Says). judged a (reply_bytes (heard_as a) o)) said
      ∙ judged_back answers ok

pub pump_judged : AnswersJudged pump_obeys PumpSized
pump_judged = record { exactly = λ m sized. judged_exactly pump_obeys m (λ P. pump_says P m sized) }

pub gauge_judged : AnswersJudged gauge_obeys GaugeSized
gauge_judged = record { exactly = λ m sized. judged_exactly gauge_obeys m (λ P. gauge_says P m sized) }
