-- The law over every run: no sequence of calls shows what a closed tag hides, undoes a lock or
-- loses a count; and a pump tag has power exactly while it is on the tray and the field is on.
use Rattle.std.specs.Prelude.{◌≡◌, ℕ, ◌+◌, ◌<◌, ◌≤◌, Bool, true, false, if◌then◌else◌, not, ◌&&◌, List, [], ◌∷◌, ◌++◌, All, length, replicate, Some, None, Option, slice_get, unwrap_or}
use Rattle.typeb.specs.declared.frames.Op.{Op}
use Rattle.typeb.specs.declared.frames.Op.TheVariants as op
use Rattle.typeb.specs.Hears.{Heard, Command, heard}
use Rattle.kinds.specs.Kinds.{Meaning, Behaviour}
use Rattle.tags.specs.Common.{Shown, is_off_tag, reacts_by}
use Rattle.tags.specs.Conduct.{acknowledges, is_check}
use Rattle.tags.specs.Making.{JustMade, new_pump}
use Rattle.tags.specs.Pages.{lock_bit, counter_in, serial_in}
use Rattle.tags.specs.Pump.{PumpMeaning, pump_acts, pump_obeys, page_of}
use Rattle.kinds.specs.Reacts.{says_to}
use Rattle.tray_core.specs.Hiding.{Which, front, back, NoCheck, Hiding}
use Rattle.tray_core.specs.Rows.{Post}
use Rattle.tray_core.specs.Runs.{Turn, turn, run}
use Rattle.tray_core.specs.Step.{Asks, Frame, refused_by}
use Rattle.tray_core.specs.Trays.{Model, loaded_with}

-- A run that sends no CHECK PASSWORD: none of its frames is one. (A stock sends none.)
abbrev pub sends_check : Asks → Bool
sends_check (Frame frame) = is_check (heard frame)
sends_check other = false

abbrev pub NoneSent : List Turn → Type 0
NoneSent cs = All (λ c. sends_check c.call ≡ false) cs

-- A COUNT that a pump tag acknowledges: the frame is one, and the tag's reply acknowledges it.
abbrev pub counting_op : Op → Bool
counting_op op.Read = false
counting_op op.Write = false
counting_op op.Lock = false
counting_op op.CheckPassword = false
counting_op op.Deselect = false
counting_op op.Count = true

abbrev pub is_count : Option Heard → Bool
is_count (Some (Command op cid address bytes)) = counting_op op
is_count other = false

abbrev pub counts_now : List ℕ → PumpMeaning → Bool
counts_now frame m =
    is_count (heard frame) && acknowledges (says_to (reacts_by pump_obeys) frame m)

-- How many of them a call brings to a tag, by whether it has power. A refused call brings none.
abbrev pub brings : Option ℕ → Asks → Bool → PumpMeaning → ℕ
brings None (Frame frame) power m = if power && counts_now frame m then 1 else 0
brings refused other power m = 0

-- A row of pump tags, which may be the front row of a tray, before any kind, or the back row.
abbrev pub PumpRow : Type 0
PumpRow = List (Post Shown (List ℕ))

-- What stands past the end of a row: a blank tag, off the tray.
abbrev pub past_end : Post Shown (List ℕ)
past_end = record { here = false; tag = new_pump (replicate 256 0) 0 }

module _ {S H : Type 0} where
  abbrev pub front_row : Model Shown (List ℕ) S H → PumpRow
  front_row t = t.front

  abbrev pub back_row : Model S H Shown (List ℕ) → PumpRow
  back_row t = t.back

module _ {SF HF SB HB : Type 0} (row : Model SF HF SB HB → PumpRow) where
  -- A loaded tray: the field is off, all tags are on the tray, and those of the row were just made.
  pub record Loaded (t : Model SF HF SB HB) : Type 0 where
    pub dark : t.field ≡ false
    pub front : All (λ p. p.here ≡ true) t.front
    pub back : All (λ p. p.here ≡ true) t.back
    pub made : All (λ p. JustMade p.tag) (row t)

  -- The place of a number in the row, and its tag.
  abbrev pub place : ℕ → Model SF HF SB HB → Post Shown (List ℕ)
  place n t = unwrap_or (slice_get (row t) n) past_end

  abbrev pub pump : ℕ → Model SF HF SB HB → PumpMeaning
  pump n t = (place n t).tag

  -- It has power: the field is on, and it is on the tray.
  abbrev pub powered : ℕ → Model SF HF SB HB → Bool
  powered n t = t.field && (place n t).here

-- What every run keeps of a pump tag: as it was loaded, after a run that brought it so many
-- acknowledged COUNTs and left it with power or without, and after that run and more.
pub record Kept (loaded now later : PumpMeaning) (acknowledged : ℕ) (power : Bool) : Type 0 where
  -- A lock bit once set stays set, and the page that it names keeps its bytes from then on.
  pub locks : (i : ℕ) → i < 32
      → lock_bit i (page_of 0 now) ≡ 1 → lock_bit i (page_of 0 later) ≡ 1
  pub pages : (i : ℕ) → i < 32
      → lock_bit i (page_of 0 now) ≡ 1 → page_of i later ≡ page_of i now
  -- The serial number never changes.
  pub serial : serial_in now.shown.pages ≡ serial_in loaded.shown.pages
  -- The counter is the counter at loading plus the COUNTs acknowledged since, and at most 32,768.
  pub sum : counter_in (page_of 2 now) ≡ counter_in (page_of 2 loaded) + acknowledged
  pub most : counter_in (page_of 2 now) ≤ 32768
  -- The tag is off exactly while it has no power.
  pub off : is_off_tag now.shown ≡ not power

-- The law for a row of pump tags, whose tags are named so.
module _ {SF HF SB HB : Type 0} (F : Behaviour SF HF) (B : Behaviour SB HB)
    (row : Model SF HF SB HB → PumpRow) (named : ℕ → Which) where
  -- The COUNTs that a tag of the row acknowledges in a run.
  abbrev pub counts : ℕ → Model SF HF SB HB → List Turn → ℕ
  counts n t [] = 0
  counts n t (c ∷ more) =
      brings (refused_by c.call t c.buffer c.list) c.call (powered row n t) (pump row n t)
      + counts n (turn F B c t).tray more

  pub record PumpLaw : Type 0 where
    -- A run from a loaded tray leaves every tag in its row, and keeps of it what is said above.
    pub stays : (t : Model SF HF SB HB) → Loaded row t → (n : ℕ) → n < length (row t)
        → (cs : List Turn) → n < length (row (run F B t cs))
    pub kept : (t : Model SF HF SB HB) → Loaded row t → (n : ℕ) → n < length (row t)
        → (cs more : List Turn)
        → Kept (pump row n t) (pump row n (run F B t cs)) (pump row n (run F B t (cs ++ more)))
        (counts n t cs) (powered row n (run F B t cs))
    -- In a run that sends no CHECK PASSWORD, from any tray, no tag of the row accepts a check.
    pub unchecked : (t : Model SF HF SB HB) (n : ℕ) (cs : List Turn) → NoneSent cs
        → NoCheck F B (named n) t cs
    -- Loading pump tags just made, and any tags in the other row, makes a loaded tray.
    pub loads : (fs : List (Meaning SF HF)) (bs : List (Meaning SB HB))
        → All (λ p. JustMade p.tag) (row (loaded_with fs bs)) → Loaded row (loaded_with fs bs)

-- The whole law, for a front and a back kind.
pub record Law {SF HF SB HB : Type 0} (F : Behaviour SF HF) (B : Behaviour SB HB) : Type 0 where
  pub hiding : Hiding F B
  -- Of pump tags in front, before any kind; and behind any kind.
  pub in_front : PumpLaw pump_acts B front_row front
  pub behind : PumpLaw F pump_acts back_row back
