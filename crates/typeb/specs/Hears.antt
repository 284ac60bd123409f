-- What a tag hears in a frame: the frame is taken apart by its first byte and its length.
use Rattle.std.specs.Prelude.{◌≡◌, IfErr, Result, ℕ, ◌+◌, ◌*◌, ◌/◌, ◌%◌, ◌^◌, Bool, ◌&&◌, List, [], ◌∷◌, ◌++◌, map, length, take, drop, Some, None, Option, option_map, if◌then◌else◌, ◌==◌, nat_le, nat_lt, slice_index}
use Rattle.std.specs.List.{find}
use Rattle.std.specs.Result.{result_ok}
use Rattle.typeb.specs.declared.frames.UnknownCode.{UnknownCode}
use Rattle.typeb.specs.declared.frames.Slots.{Slots}
use Rattle.typeb.specs.declared.frames.Slots.TheVariants.{One, Two, Four, Eight, Sixteen}
use Rattle.typeb.specs.declared.frames.Op.{Op}
use Rattle.typeb.specs.declared.frames.Op.TheVariants.{Read, Write, Lock, CheckPassword, Deselect, Count}
use Rattle.typeb.specs.declared.frames.Frame.{Frame}
use Rattle.typeb.specs.declared.frames.Frame.TheVariants as frame
use Rattle.typeb.specs.CheckBytes.{sound, body_of}

-- The code of a number of slots: bits 0 to 2 of a request's PARAM.
abbrev pub slot_code : Slots → ℕ
slot_code One = 0
slot_code Two = 1
slot_code Four = 2
slot_code Eight = 3
slot_code Sixteen = 4

-- The number of slots, N: two to the power of the code.
abbrev pub slot_count : Slots → ℕ
slot_count slots = 2 ^ slot_code slots

abbrev pub all_slots : List Slots
all_slots = One ∷ Two ∷ Four ∷ Eight ∷ Sixteen ∷ []

-- The slots that a code announces: none for 5, 6 and 7.
abbrev pub slots_of : ℕ → Option Slots
slots_of code = find (λ slots. code == slot_code slots) all_slots

-- The slots that are N: none for a number that no request announces.
abbrev pub slots_for : ℕ → Option Slots
slots_for n = find (λ slots. slot_count slots == n) all_slots

-- Codes 0 to 4 announce 1, 2, 4, 8 and 16 slots; 5, 6 and 7 none.
pub record SlotTable : Type 0 where
  pub numbers : map slot_count all_slots ≡ 1 ∷ 2 ∷ 4 ∷ 8 ∷ 16 ∷ []
  pub codes : map slots_of (0 ∷ 1 ∷ 2 ∷ 3 ∷ 4 ∷ 5 ∷ 6 ∷ 7 ∷ [])
      ≡ map Some all_slots ++ (None ∷ None ∷ None ∷ [])

-- The high nibble of a data command's first byte.
abbrev pub op_code : Op → ℕ
op_code Read = 0x4
op_code Write = 0x3
op_code Lock = 0x2
op_code CheckPassword = 0x6
op_code Deselect = 0xA
op_code Count = 0xE

abbrev pub all_ops : List Op
all_ops = Read ∷ Write ∷ Lock ∷ CheckPassword ∷ Deselect ∷ Count ∷ []

-- The command that a high nibble stands for.
abbrev pub op_of : ℕ → Option Op
op_of nibble = find (λ op. nibble == op_code op) all_ops

-- A data command's first byte: the command in the high nibble, the card number in the low one.
abbrev pub head_of : Op → ℕ → ℕ
head_of op cid = op_code op * 16 + cid % 16

-- A number read as what it names: the value, or an error with the number itself.
pub record Named {T : Type 0} (named : Option T) (code : ℕ) (got : Result T UnknownCode) : Type 0 where
  pub value : result_ok got ≡ named
  pub unknown : IfErr got (λ e. e.0 ≡ code)

-- A frame as it is heard.
pub data Heard : Type 0 where
  -- family code, whether it wakes halted tags (WUPB), slots announced
  Request : ℕ → Bool → Slots → Heard
  -- the slot, 2 to 16
  SlotMarker : ℕ → Heard
  -- serial number, PARAM1 to PARAM4, INF
  Attrib : List ℕ → List ℕ → List ℕ → Heard
  -- serial number
  Halt : List ℕ → Heard
  -- command, card number, address byte, eight data bytes
  Command : Op → ℕ → ℕ → List ℕ → Heard

-- A request: bit 3 of PARAM set means WUPB; its bits 4 to 7 are ignored.
abbrev pub request_of : ℕ → ℕ → Option Slots → Option Heard
request_of family param = option_map (Request family (param / 8 % 2 == 1))

-- A data command.
abbrev pub command_of : ℕ → ℕ → List ℕ → Option Op → Option Heard
command_of cid address bytes = option_map (λ op. Command op cid address bytes)

-- The byte at a place of the body.
abbrev pub at : ℕ → List ℕ → ℕ
at i body = slice_index body i

-- What stands in a body, the frame without its check bytes.
abbrev pub in_body : List ℕ → Option Heard
in_body body =
    -- 05, family code, PARAM
    if length body == 3 && at 0 body == 0x05 then
    request_of (at 1 body) (at 2 body) (slots_of (at 2 body % 8))
    -- high nibble 1 to 15, low nibble 5: the slot is the high nibble and one
    else if length body == 1 && (at 0 body % 16 == 5 && nat_lt 0 (at 0 body / 16)) then
    Some (SlotMarker (at 0 body / 16 + 1))
    -- 1D, serial number, four parameters, INF of 0 to 5 bytes
    else if nat_le 9 (length body) && (nat_le (length body) 14 && at 0 body == 0x1D) then
    Some (Attrib (take 4 (drop 1 body)) (take 4 (drop 5 body)) (drop 9 body))
    -- 50, serial number
    else if length body == 5 && at 0 body == 0x50 then
    Some (Halt (drop 1 body))
    -- command and card number, address byte, eight data bytes
    else if length body == 10 then
    command_of (at 0 body % 16) (at 1 body) (drop 2 body) (op_of (at 0 body / 16))
    else None

-- What is heard in a frame: nothing in an unsound one.
unfoldable pub heard : List ℕ → Option Heard
heard frame = if sound frame then in_body (body_of frame) else None

-- What a frame in hand stands for, with what its references point to.
abbrev pub frame_of : Frame → Heard
frame_of (frame.Request family wake_up slots) = Request family wake_up slots
frame_of (frame.SlotMarker slot) = SlotMarker slot
frame_of (frame.Attrib serial params inf) = Attrib serial params inf.now
frame_of (frame.Halt serial) = Halt serial
frame_of (frame.Command op cid address bytes) = Command op cid address bytes.now

abbrev pub reading_of : Option Frame → Option Heard
reading_of = option_map frame_of
