-- The commands of a reader, and the frames that carry them.
use Rattle.std.specs.Prelude.{ℕ, Bool, true, is_some, unwrap_or, ◌&&◌, List, [], ◌∷◌, ◌++◌, length, drop, replicate, Ok, Result, if◌then◌else◌, nat_le}
use Rattle.refusals.specs.Numbers.{asked}
use Rattle.typeb.specs.CheckBytes.{sealed}
use Rattle.typeb.specs.declared.frames.Slots.TheVariants.{One}
use Rattle.typeb.specs.declared.frames.Op.TheVariants as op
use Rattle.typeb.specs.Hears as hears
use Rattle.typeb.specs.Hears.{Heard, slots_for}
use Rattle.typeb.specs.Carries.{format}
use Rattle.reader.specs.declared.commands.Command.{Command}
use Rattle.reader.specs.declared.commands.Command.TheVariants as command

-- A command, with its values.
pub data Asked : Type 0 where
  -- REQB, or WUPB where the flag is set: family code, number of slots
  Request : Bool → ℕ → ℕ → Asked
  SlotMarker : ℕ → Asked
  -- serial number, card number to take, INF
  Attrib : List ℕ → ℕ → List ℕ → Asked
  Halt : List ℕ → Asked
  -- card number and page
  Read : ℕ → ℕ → Asked
  -- card number, page, its eight bytes
  Write : ℕ → ℕ → List ℕ → Asked
  -- card number, four bytes of lock bits to set
  Lock : ℕ → List ℕ → Asked
  -- card number, eight bytes
  CheckPassword : ℕ → List ℕ → Asked
  Deselect : ℕ → Asked
  -- card number, six bytes of signature
  Count : ℕ → List ℕ → Asked

-- What a value of the code stands for.
abbrev pub asked_of : Command → Asked
asked_of (command.Request wake_up family slots) = Request wake_up family slots
asked_of (command.SlotMarker slot) = SlotMarker slot
asked_of (command.Attrib serial cid inf) = Attrib serial cid inf.now
asked_of (command.Halt serial) = Halt serial
asked_of (command.Read cid page) = Read cid page
asked_of (command.Write cid page bytes) = Write cid page bytes
asked_of (command.Lock cid locks) = Lock cid locks
asked_of (command.CheckPassword cid password) = CheckPassword cid password
asked_of (command.Deselect cid) = Deselect cid
asked_of (command.Count cid signature) = Count cid signature

-- Number of slots one of five, slot 2 to 16, card number to 15, page to 31, INF to 5 bytes.
abbrev pub in_range : Asked → Bool
in_range (Request wake_up family slots) = is_some (slots_for slots)
in_range (SlotMarker slot) = nat_le 2 slot && nat_le slot 16
in_range (Attrib serial cid inf) = nat_le cid 15 && nat_le (length inf) 5
in_range (Halt serial) = true
in_range (Read cid page) = nat_le cid 15 && nat_le page 31
in_range (Write cid page bytes) = nat_le cid 15 && nat_le page 31
in_range (Lock cid locks) = nat_le cid 15
in_range (CheckPassword cid password) = nat_le cid 15
in_range (Deselect cid) = nat_le cid 15
in_range (Count cid signature) = nat_le cid 15

-- What a tag hears in the frame of a command. What the command's values do not name is zero.
-- (A number of slots that is out of range has code 0.)
abbrev pub heard_as : Asked → Heard
heard_as (Request wake_up family slots) =
    hears.Request family wake_up (unwrap_or (slots_for slots) One)
heard_as (SlotMarker slot) = hears.SlotMarker slot
heard_as (Attrib serial cid inf) = hears.Attrib serial (0 ∷ 0 ∷ 0 ∷ cid ∷ []) inf
heard_as (Halt serial) = hears.Halt serial
heard_as (Read cid page) = hears.Command op.Read cid page (replicate 8 0)
heard_as (Write cid page bytes) = hears.Command op.Write cid page bytes
heard_as (Lock cid locks) = hears.Command op.Lock cid 0 (replicate 4 0 ++ locks)
heard_as (CheckPassword cid password) = hears.Command op.CheckPassword cid 0 password
heard_as (Deselect cid) = hears.Command op.Deselect cid 0 (replicate 8 0)
heard_as (Count cid signature) = hears.Command op.Count cid 0 (signature ++ replicate 2 0)

-- The frame of a command, without and with its check bytes. Bits that may be any are zero.
abbrev pub body_for : Asked → List ℕ
body_for command = format 0 (heard_as command)

abbrev pub frame_for : Asked → List ℕ
frame_for command = sealed (body_for command)

-- The eight data bytes of what is heard: zero where it has none.
abbrev pub data_of : Heard → List ℕ
data_of (hears.Request family wake_up slots) = replicate 8 0
data_of (hears.SlotMarker slot) = replicate 8 0
data_of (hears.Attrib serial params inf) = replicate 8 0
data_of (hears.Halt serial) = replicate 8 0
data_of (hears.Command op cid address bytes) = bytes

-- Making a frame: a buffer of 16 bytes or more? Every value in range? Then the frame's length.
abbrev pub made_for : Asked → List ℕ → Result ℕ ℕ
made_for command buffer =
    asked (nat_le 16 (length buffer)) 6
    (asked (in_range command) 8
    (Ok (length (frame_for command))))

-- The buffer then: the frame in front, every other byte as it was. A refusal leaves it as it was.
abbrev pub buffer_for : Asked → List ℕ → List ℕ
buffer_for command buffer =
    if nat_le 16 (length buffer) && in_range command then
    frame_for command ++ drop (length (frame_for command)) buffer
    else buffer
