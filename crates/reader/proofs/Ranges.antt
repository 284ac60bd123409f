-- What a tag hears of a command: its values, and zero for the rest. And which values are in range.
use Rattle.std.proofs.Common.{◌≡◌, ℕ, ◌%◌, ◌<◌, Bool, true, ◌&&◌, leb, [], ◌∷◌, length, get_or, replicate, is_some, unwrap_or, refl, ap, arith}
use Rattle.std.proofs.lemmas.List.{drop_at, take_at}
use Rattle.std.proofs.lemmas.Bool.{and_parts, leb-true}
use Rattle.std.proofs.lemmas.Bool.Decides.{nat_tests}
use Rattle.typeb.specs.declared.frames.Slots.{Slots}
use Rattle.typeb.specs.declared.frames.Slots.TheVariants.{One, Two, Four, Eight, Sixteen}
use Rattle.typeb.specs.Hears as hears
use Rattle.typeb.specs.Hears.{slot_count, slots_for}
use Rattle.reader.specs.Commands.{Asked, Request, SlotMarker, Attrib, Halt, Read, Write, Lock, CheckPassword, Deselect, Count}
use Rattle.reader.specs.Commands.{in_range, frame_for, heard_as}
use Rattle.reader.specs.Laws.{Sized, IdleIsZero, idle, NamesAll, heeded, named}

idle_zero : (a : Asked) → Sized a → idle (heard_as a) ≡ replicate (length (idle (heard_as a))) 0
idle_zero (Request wake_up family slots) sized = refl
idle_zero (SlotMarker slot) sized = refl
idle_zero (Attrib serial cid inf) sized = refl
idle_zero (Halt serial) sized = refl
idle_zero (Read cid page) sized = refl
idle_zero (Write cid page bytes) sized = refl
idle_zero (Lock cid locks) sized = refl
idle_zero (CheckPassword cid password) sized = refl
idle_zero (Deselect cid) sized = refl
idle_zero (Count cid signature) sized = rw (drop_at signature (0 ∷ 0 ∷ []) 6 sized) refl

small_bits : (wake_up : Bool) (family slots : ℕ) → get_or (frame_for (Request wake_up family slots)) 2 0 < 16
small_bits wake_up family slots = grind (arith, nat_tests)

pub idle_is_zero : IdleIsZero
idle_is_zero = record { bytes = idle_zero; bits = small_bits }

-- a page in range is below 32
pub own_page : (cid page : ℕ) → (leb cid 15 && leb page 31) ≡ true → page % 32 ≡ page
own_page cid page ok = let low = leb-true page 31 (and_parts (leb cid 15) (leb page 31) ok).1 in omega arith

-- a number of slots in range is the number of the slots announced
own_slots : (slots : ℕ) → is_some (slots_for slots) ≡ true → slot_count (unwrap_or (slots_for slots) One) ≡ slots
own_slots slots ok = grind (arith, nat_tests)

values_heard : (a : Asked) → Sized a → in_range a ≡ true → heeded (heard_as a) ≡ named a
values_heard (Request wake_up family slots) sized ok = ap (λ n. family ∷ n ∷ []) (own_slots slots ok)
values_heard (SlotMarker slot) sized ok = refl
values_heard (Attrib serial cid inf) sized ok = refl
values_heard (Halt serial) sized ok = refl
values_heard (Read cid page) sized ok = ap (λ p. cid ∷ p ∷ []) (own_page cid page ok)
values_heard (Write cid page bytes) sized ok = ap (λ p. cid ∷ p ∷ bytes) (own_page cid page ok)
values_heard (Lock cid locks) sized ok = refl
values_heard (CheckPassword cid password) sized ok = refl
values_heard (Deselect cid) sized ok = refl
values_heard (Count cid signature) sized ok = ap (λ l. cid ∷ l) (take_at signature (0 ∷ 0 ∷ []) 6 sized)

request_heard : (wake_up : Bool) (family : ℕ) (slots : Slots) → heard_as (Request wake_up family (slot_count slots)) ≡ hears.Request family wake_up slots
request_heard wake_up family One = refl
request_heard wake_up family Two = refl
request_heard wake_up family Four = refl
request_heard wake_up family Eight = refl
request_heard wake_up family Sixteen = refl

any_slots : (wake_up : Bool) (family : ℕ) (slots : Slots) → in_range (Request wake_up family (slot_count slots)) ≡ true
any_slots wake_up family One = refl
any_slots wake_up family Two = refl
any_slots wake_up family Four = refl
any_slots wake_up family Eight = refl
any_slots wake_up family Sixteen = refl

pub names_all : NamesAll
names_all =
    record {
      same = values_heard;
      request = request_heard;
      pages = λ cid page bytes low in_tag. grind (arith, nat_tests);
      cards = λ cid bytes low. grind (arith, nat_tests);
      attribs = λ serial inf cid low short. grind (arith, nat_tests);
      requests = any_slots;
      markers = λ slot low high. grind (arith, nat_tests);
      halts = λ serial. refl;
    }
