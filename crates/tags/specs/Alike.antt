-- The duties of a kind that differs from others only in how it obeys data commands: they follow from what holds of those.
use Rattle.std.specs.Prelude.{◌≡◌, ℕ, ◌%◌, Bool, true, false, cond, List, refl}
use Rattle.std.proofs.Common.{ap}
use Rattle.std.proofs.lemmas.Bool.{cond-false}
use Rattle.typeb.specs.declared.frames.Op.{Op}
use Rattle.typeb.specs.Hears.{Heard, Request, SlotMarker, Attrib, Halt, Command, heard}
use Rattle.kinds.specs.Kinds.{Meaning, Duties, Twins}
use Rattle.tags.specs.Links.{answers_to, loses_link}
use Rattle.tags.specs.Pages.{serial_in, application_in}
use Rattle.tags.specs.Common.{Shown, is_off_tag, link_of, by_link, reacts_by, acts_by}
use Rattle.kinds.specs.Reacts.{Reaction, unmoved}
use Rattle.kinds.specs.Unwinding.{closed, twins, of_twins, Same, hearing_by, silent_by}
use Rattle.tags.specs.OffLinks.{off_link, off_answers}

module _ {H : Type 0} where
  -- one step leads closed tags with one shown part to reactions that nobody can tell apart, where it accepts no check
  abbrev pub Blind : (Meaning Shown H → Reaction (Meaning Shown H)) → Type 0
  Blind f = (s : Shown) (h k : H) → (f (closed s h)).accepted ≡ false → (f (closed s k)).accepted ≡ false → Same (f (closed s h)) (f (closed s k))

  -- a command is obeyed by the tag with its card number, and moves no other
  addressed : (t : Bool) (f : Meaning Shown H → Reaction (Meaning Shown H)) → Blind f → Blind (λ m. cond t (f m) (unmoved m))
  addressed true f blind s h k a b = blind s h k a b
  addressed false f blind s h k a b = record { says = refl; after = twins s h k }

  -- no frame for the link moves an off tag
  still_link : (m : Meaning Shown H) → is_off_tag m.shown ≡ true → (frame : Heard) → by_link (link_of frame m) m ≡ unmoved m
  still_link m off frame =
      ap (λ r. by_link r m) (off_link (serial_in m.shown.pages) (application_in m.shown.pages) frame m.shown.link off)

  module _ (obeys : Op → ℕ → List ℕ → Meaning Shown H → Reaction (Meaning Shown H)) where
    reacts : ((op : Op) (page : ℕ) (bytes : List ℕ) → Blind (obeys op page bytes)) → (frame : Heard) → Blind (reacts_by obeys frame)
    reacts blind (Request family wake_up slots) s h k a b = record { says = refl; after = twins _ h k }
    reacts blind (SlotMarker slot) s h k a b = record { says = refl; after = twins _ h k }
    reacts blind (Attrib serial params inf) s h k a b = record { says = refl; after = twins _ h k }
    reacts blind (Halt serial) s h k a b = record { says = refl; after = twins _ h k }
    reacts blind (Command op cid address bytes) s h k a b =
        addressed (answers_to cid s.link) (obeys op (address % 32) bytes) (blind op (address % 32) bytes) s h k a b

    still : (m : Meaning Shown H) → is_off_tag m.shown ≡ true → (frame : Heard) → reacts_by obeys frame m ≡ unmoved m
    still m off (Request family wake_up slots) = still_link m off (Request family wake_up slots)
    still m off (SlotMarker slot) = still_link m off (SlotMarker slot)
    still m off (Attrib serial params inf) = still_link m off (Attrib serial params inf)
    still m off (Halt serial) = still_link m off (Halt serial)
    still m off (Command op cid address bytes) =
        cond-false (answers_to cid m.shown.link) _ _ (off_answers cid m.shown.link off)

    pub duties_by : ((op : Op) (page : ℕ) (bytes : List ℕ) → Blind (obeys op page bytes)) → Duties is_off_tag (acts_by obeys)
    duties_by blind =
        record {
          losing = λ m n alike. record { alike = ap (λ (s : Shown). record { link = loses_link s.link; pages = s.pages }) alike; left = refl; right = refl };
          gaining = of_twins (λ m n. Twins ((acts_by obeys).gains m) ((acts_by obeys).gains n)) (λ s h k. twins _ h k);
          hearing = hearing_by (reacts_by obeys) (reacts blind);
          silent = λ frame m off. silent_by (reacts_by obeys) m (still m off) (heard frame);
        }
