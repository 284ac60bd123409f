-- What each data command does to a pump tag, over every memory and all data bytes: laws byte by
-- byte and bit by bit, which speak of the 256 bytes of the memory.
use Rattle.std.specs.Prelude.{◌≡◌, ◌≢◌, ◌⊎◌, ℕ, ◌+◌, ◌*◌, ◌<◌, ◌≤◌, ◌^◌, Bool, true, false, not, ◌&&◌, ◌||◌, ◌==◌, List, ◌++◌, length, map, replicate, Some, slice_index}
use Rattle.std.specs.Int.{bit_at}
use Rattle.std.specs.List.{range_with_len}
use Rattle.typeb.specs.declared.frames.Op.TheVariants.{Read, Write, Lock, CheckPassword, Deselect, Count}
use Rattle.kinds.specs.Kinds.{Meaning}
use Rattle.kinds.specs.Reacts.{Reaction}
use Rattle.kinds.specs.Says.{Page, Acknowledged, Refused}
use Rattle.tags.specs.declared.rights.Writing.TheVariants.{ByCount}
use Rattle.tags.specs.Common.{Shown}
use Rattle.tags.specs.Pump.{PumpMeaning, PumpSized, pump_obeys, page_of}
use Rattle.tags.specs.Pages.{lock_bit, counter_in}
use Rattle.tags.specs.Rules.{writing_of}

-- The memory of a pump tag, in order: page p is bytes 8 p to 8 p + 7.
abbrev pub memory_of : PumpMeaning → List ℕ
memory_of m = m.shown.pages ++ m.hidden

-- Eight bytes of a list, from one place on.
abbrev pub eight_from : ℕ → List ℕ → List ℕ
eight_from first list = map (λ j. slice_index list (first + j)) (range_with_len 0 8)

-- Every number of a list is a byte.
abbrev pub IsBytes : List ℕ → Type 0
IsBytes list = (i : ℕ) → slice_index list i < 256

-- A tag of 24 shown and 232 hidden bytes; eight data bytes.
pub record IsWhole (m : PumpMeaning) : Type 0 where
  pub sized : PumpSized m
  pub bytes : IsBytes (memory_of m)

pub record IsPage (bytes : List ℕ) : Type 0 where
  pub long : length bytes ≡ 8
  pub each : IsBytes bytes

-- Bytes 4 to 7, of a memory as of data, are a number of 32 bits, low byte first: bit i of it is the
-- lock of page i.
abbrev pub locks_in : List ℕ → ℕ
locks_in list =
    slice_index list 4 + 2 ^ 8 * slice_index list 5
    + 2 ^ 16 * slice_index list 6 + 2 ^ 24 * slice_index list 7

abbrev pub locks_page : ℕ → List ℕ → Bool
locks_page page list = bit_at (locks_in list) page == 1

abbrev pub is_locked : ℕ → PumpMeaning → Bool
is_locked page m = locks_page page (memory_of m)

-- The counter is bytes 22 and 23 of the memory, low byte first.
abbrev pub counter_of : PumpMeaning → ℕ
counter_of m = slice_index (memory_of m) 22 + 256 * slice_index (memory_of m) 23

-- All bytes but those from one place up to another are what they were, and the tag is whole again.
pub record ChangesOnly (first behind : ℕ) (m after : PumpMeaning) : Type 0 where
  pub whole : IsWhole after
  pub others : (i : ℕ) → i < 256 → (i < first) ⊎ (behind ≤ i)
      → slice_index (memory_of after) i ≡ slice_index (memory_of m) i

-- What a command comes to: the tag after it, and what it says.
abbrev pub PumpReaction : Type 0
PumpReaction = Reaction PumpMeaning

-- Refused with a code, the tag as it was.
pub record IsRefused (code : ℕ) (m : PumpMeaning) (r : PumpReaction) : Type 0 where
  pub says : r.says ≡ Some (Refused code)
  pub after : r.after ≡ m

-- The eight bytes of a page.
abbrev pub page_in : ℕ → PumpMeaning → List ℕ
page_in page m = eight_from (8 * page) (memory_of m)

-- The pages, lock bits and counter of which the laws over runs speak are these bytes and bits.
pub record PagesStand (m : PumpMeaning) : Type 0 where
  pub pages : (page : ℕ) → page < 32 → page_of page m ≡ page_in page m
  pub locks : (page : ℕ) → page < 32
      → lock_bit page (page_of 0 m) ≡ bit_at (locks_in (memory_of m)) page
  pub counter : counter_in (page_of 2 m) ≡ counter_of m

-- READ gives the eight bytes of a page: of pages 0 to 2 always, of page 3 never, of the others
-- while the tag is open. It changes nothing.
pub record Reads (page : ℕ) (m : PumpMeaning) (r : PumpReaction) : Type 0 where
  pub shown : page < 3 → r.says ≡ Some (Page (page_in page m))
  pub opened : 3 < page → m.opened ≡ true → r.says ≡ Some (Page (page_in page m))
  pub password : page ≡ 3 → r.says ≡ Some (Refused 0x21)
  pub closed : 3 < page → m.opened ≡ false → r.says ≡ Some (Refused 0x41)
  pub after : r.after ≡ m

-- An acknowledged WRITE: the page is the data bytes.
pub record Written (page : ℕ) (bytes : List ℕ) (m : PumpMeaning) (r : PumpReaction) : Type 0 where
  pub says : r.says ≡ Some Acknowledged
  pub here : (j : ℕ) → j < 8 → slice_index (memory_of r.after) (8 * page + j) ≡ slice_index bytes j
  pub rest : ChangesOnly (8 * page) (8 * page + 8) m r.after

-- WRITE: open? Page neither 0 nor 2? Not locked?
pub record Writes (page : ℕ) (bytes : List ℕ) (m : PumpMeaning) (r : PumpReaction) : Type 0 where
  pub done : m.opened ≡ true → (page ≢ 0) → (page ≢ 2) → is_locked page m ≡ false
      → Written page bytes m r
  pub closed : m.opened ≡ false → IsRefused 0x41 m r
  pub fixed : m.opened ≡ true → (page ≡ 0) ⊎ (page ≡ 2) → IsRefused 0x21 m r
  pub locked : m.opened ≡ true → (page ≢ 0) → (page ≢ 2) → is_locked page m ≡ true
      → IsRefused 0x11 m r

-- An acknowledged LOCK: a page is locked if it was, or if the data name it and it is not page 0.
pub record Locked (bytes : List ℕ) (m : PumpMeaning) (r : PumpReaction) : Type 0 where
  pub says : r.says ≡ Some Acknowledged
  pub locks : (page : ℕ) → page < 32
      → is_locked page r.after ≡ (is_locked page m || (not (page == 0) && locks_page page bytes))
  pub rest : ChangesOnly 4 8 m r.after

-- LOCK: open?
pub record Locks (bytes : List ℕ) (m : PumpMeaning) (r : PumpReaction) : Type 0 where
  pub done : m.opened ≡ true → Locked bytes m r
  pub closed : m.opened ≡ false → IsRefused 0x41 m r

-- An acknowledged COUNT: page 2 is the first six data bytes, and the counter has risen by one. It
-- has changed the page whose right of writing is COUNT's, and no page of any other right.
pub record Counted (bytes : List ℕ) (m : PumpMeaning) (r : PumpReaction) : Type 0 where
  pub says : r.says ≡ Some Acknowledged
  pub signature : (j : ℕ) → j < 6 → slice_index (memory_of r.after) (16 + j) ≡ slice_index bytes j
  pub counter : counter_of r.after ≡ counter_of m + 1
  pub by_count : (page : ℕ) → page < 32 → writing_of page ≡ ByCount
      → (page_in page r.after ≢ page_in page m)
  pub by_no_count : (page : ℕ) → page < 32 → (writing_of page ≢ ByCount)
      → page_in page r.after ≡ page_in page m
  pub rest : ChangesOnly 16 24 m r.after

-- COUNT: open? Page 2 not locked? Counter below its end?
pub record Counts (bytes : List ℕ) (m : PumpMeaning) (r : PumpReaction) : Type 0 where
  pub done : m.opened ≡ true → is_locked 2 m ≡ false → counter_of m < 0x8000 → Counted bytes m r
  pub closed : m.opened ≡ false → IsRefused 0x41 m r
  pub locked : m.opened ≡ true → is_locked 2 m ≡ true → IsRefused 0x11 m r
  pub ended : m.opened ≡ true → is_locked 2 m ≡ false → 0x8000 ≤ counter_of m → IsRefused 0x21 m r

-- CHECK PASSWORD: acknowledged where the data are page 3 and not all ones; else refused. It changes
-- no page.
pub record Checks (bytes : List ℕ) (m : PumpMeaning) (r : PumpReaction) : Type 0 where
  pub passed : bytes ≡ page_in 3 m → (bytes ≢ replicate 8 0xFF) → r.says ≡ Some Acknowledged
  pub wrong : (bytes ≢ page_in 3 m) → r.says ≡ Some (Refused 0x41)
  pub ones : bytes ≡ replicate 8 0xFF → r.says ≡ Some (Refused 0x41)
  pub pages : r.after.shown.pages ≡ m.shown.pages
  pub hidden : r.after.hidden ≡ m.hidden

-- DESELECT: acknowledged, whatever the tag holds. It changes no page.
pub record Deselects {H : Type 0} (m : Meaning Shown H) (r : Reaction (Meaning Shown H))
    : Type 0 where
  pub says : r.says ≡ Some Acknowledged
  pub pages : r.after.shown.pages ≡ m.shown.pages
  pub hidden : r.after.hidden ≡ m.hidden

-- All of these, of every whole tag, each page of 32 and any eight data bytes.
pub record DataLaws (page : ℕ) (bytes : List ℕ) (m : PumpMeaning) : Type 0 where
  pub reads : Reads page m (pump_obeys Read page bytes m)
  pub writes : Writes page bytes m (pump_obeys Write page bytes m)
  pub locks : Locks bytes m (pump_obeys Lock page bytes m)
  pub checks : Checks bytes m (pump_obeys CheckPassword page bytes m)
  pub deselects : Deselects m (pump_obeys Deselect page bytes m)
  pub counts : Counts bytes m (pump_obeys Count page bytes m)

abbrev pub DataObeyed : Type 0
DataObeyed =
    (page : ℕ) (bytes : List ℕ) (m : PumpMeaning) → page < 32 → IsPage bytes → IsWhole m
    → DataLaws page bytes m
