-- The frame of a command in range is heard as the command.
use Rattle.std.proofs.Common.{◌≡◌, true, refl, arith}
use Rattle.std.proofs.lemmas.List.{length-append}
use Rattle.std.proofs.lemmas.Bool.Decides.{nat_tests}
use Rattle.typeb.specs.Carries.{has_places}
use Rattle.typeb.proofs.Sealed.{written_heard}
use Rattle.reader.specs.Commands.{Asked, Request, SlotMarker, Attrib, Halt, Read, Write, Lock, CheckPassword, Deselect, Count}
use Rattle.reader.specs.Commands.{in_range, heard_as}
use Rattle.reader.specs.Laws.{Sized, ReadsBack}

-- every value of a command in range has its place in the frame
pub places : (a : Asked) → Sized a → in_range a ≡ true → has_places (heard_as a) ≡ true
places (Request wake_up family slots) sized ok = refl
places (SlotMarker slot) sized ok = ok
places (Attrib serial cid inf) sized ok = grind (arith, nat_tests)
places (Halt serial) sized ok = grind (arith, nat_tests)
places (Read cid page) sized ok = grind (arith, nat_tests)
places (Write cid page bytes) sized ok = grind (arith, nat_tests)
places (Lock cid locks) sized ok = grind (arith, nat_tests, length-append)
places (CheckPassword cid password) sized ok = grind (arith, nat_tests)
places (Deselect cid) sized ok = grind (arith, nat_tests)
places (Count cid signature) sized ok = grind (arith, nat_tests, length-append)

pub reads_back : ReadsBack
reads_back a sized ok = written_heard (heard_as a) (places a sized ok)
