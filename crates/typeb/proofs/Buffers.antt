-- Lengths of bodies, and of sealed ones.
use Rattle.std.proofs.Common.{◌≡◌, ℕ, ◌+◌, ◌≤◌, true, List, length, arith}
use Rattle.std.proofs.lemmas.List.{length-append}
use Rattle.std.proofs.lemmas.Bool.Decides.{nat_tests}
use Rattle.typeb.specs.CheckBytes.{check_bytes, sealed}
use Rattle.typeb.specs.Hears.{Heard, Request, SlotMarker, Attrib, Halt, Command}
use Rattle.typeb.specs.Carries.{format, has_places}

pub length_sealed : (body : List ℕ) → length (sealed body) ≡ length body + 2
unfolding check_bytes
length_sealed body = length-append body (check_bytes body)

-- no frame is longer than an ATTRIB with an INF of five bytes
pub length_format : (free : ℕ) (h : Heard) → has_places h ≡ true → length (format free h) ≤ 14
length_format free (Request family wake_up slots) ok = omega arith
length_format free (SlotMarker slot) ok = omega arith
length_format free (Attrib serial params inf) ok = grind (arith, nat_tests, length-append)
length_format free (Halt serial) ok = grind (arith, nat_tests)
length_format free (Command op cid address bytes) ok = grind (arith, nat_tests)
