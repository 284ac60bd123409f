-- The frame of a command in range, written into a buffer of 16 bytes or more.
use Rattle.std.proofs.Common.{◌≡◌, ℕ, ◌+◌, ◌≤◌, true, leb, List, ◌++◌, length, drop, Some, Option, refl, ◌∙◌, subst, arith}
use Rattle.std.proofs.lemmas.Bool.{le-leb}
use Rattle.typeb.specs.CheckBytes.{SealedInto}
use Rattle.typeb.specs.Hears.{Heard}
use Rattle.typeb.specs.Carries.{WrittenInto}
use Rattle.typeb.proofs.Buffers.{length_sealed, length_format}
use Rattle.reader.specs.Commands.{Asked, in_range, heard_as, body_for, frame_for}
use Rattle.reader.specs.Laws.{Sized}
use Rattle.reader.proofs.Makes.{places}

module _ (a : Asked) (h : Heard) (lent given : List ℕ) (len : Option ℕ) (is : h ≡ heard_as a) (into : WrittenInto h lent given len) (sized : Sized a) (ok : in_range a ≡ true) (room : 16 ≤ length lent) where
  sealed_so : SealedInto (body_for a) lent given len
  sealed_so = (subst (λ x. WrittenInto x lent given len) is into).written (places a sized ok)

  has_room : leb (length (body_for a) + 2) (length lent) ≡ true
  has_room = let short = length_format 0 (heard_as a) (places a sized ok) in le-leb _ _ (omega arith)

  pub length_made : len ≡ Some (length (frame_for a))
  length_made = sealed_so.size ∙ simp (has_room, length_sealed (body_for a)) refl

  pub buffer_made : given ≡ frame_for a ++ drop (length (frame_for a)) lent
  buffer_made = sealed_so.buffer ∙ simp (has_room, length_sealed (body_for a)) refl
