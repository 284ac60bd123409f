-- What every kind does alike: states, the draw of a slot, requests, slot markers, ATTRIB and HLTB.
use Rattle.std.specs.Prelude.{ℕ, ◌+◌, ◌*◌, ◌/◌, ◌%◌, Bool, true, false, cond, ◌&&◌, List, Some, None, Option, ◌==◌, nat_le, slice_index}
use Rattle.std.specs.Str.{bytes_eq}
use Rattle.typeb.specs.declared.frames.Op.{Op}
use Rattle.typeb.specs.declared.frames.Slots.{Slots}
use Rattle.typeb.specs.Hears.{Heard, Request, SlotMarker, Attrib, Halt, Command, slot_count}
use Rattle.tags.specs.declared.link.State.{State}
use Rattle.tags.specs.declared.link.State.TheVariants.{Off, Idle, Requested, Declared, Halted, Active}
use Rattle.tags.specs.declared.link.Link.{Link}
use Rattle.kinds.specs.Says.{Says, Answer, Card, Acknowledged, protocol_info}

-- A tag just made is off; its card number is 0.
abbrev pub new_link : ℕ → Link
new_link draw = record { state = Off; cid = 0; draw = draw }

-- Gaining power leads from off to idle; losing it leads to off. Card number and draw number stay.
abbrev pub powered : State → State
powered Off = Idle
powered Idle = Idle
powered (Requested slot) = Requested slot
powered Declared = Declared
powered Halted = Halted
powered Active = Active

abbrev pub gains_link : Link → Link
gains_link link = record { state = powered link.state; cid = link.cid; draw = link.draw }

abbrev pub loses_link : Link → Link
loses_link link = record { state = Off; cid = link.cid; draw = link.draw }

abbrev pub is_off : State → Bool
is_off Off = true
is_off Idle = false
is_off (Requested slot) = false
is_off Declared = false
is_off Halted = false
is_off Active = false

-- A draw number gives a slot of N and the next draw number together.
abbrev pub drawn : ℕ → ℕ → ℕ × ℕ
drawn draw n = (1 + draw / 4096 % n, (draw * 25173 + 13849) % 65536)

-- The tag after a frame that both kinds treat alike, and what it says.
pub record LinkHears : Type 0 where
  pub after : Link
  pub says : Option Says

-- Pairs of state and frame that are not named: no reply and no change.
abbrev pub unmoved : Link → LinkHears
unmoved link = record { after = link; says = None }

abbrev pub moved : Link → State → Option Says → LinkHears
moved link state says = record { after = record { state = state; cid = link.cid; draw = link.draw }; says = says }

-- A request is heard in idle, requested and declared; halted hears only WUPB.
abbrev pub listens : State → Bool → Bool
listens Off wake_up = false
listens Idle wake_up = true
listens (Requested slot) wake_up = true
listens Declared wake_up = true
listens Halted wake_up = wake_up
listens Active wake_up = false

-- A request to another family: halted stays, the others become idle.
abbrev pub dismissed : State → State
dismissed Off = Idle
dismissed Idle = Idle
dismissed (Requested slot) = Idle
dismissed Declared = Idle
dismissed Halted = Halted
dismissed Active = Idle

-- One slot is answered at once and draws nothing. Of more slots one is drawn:
-- the first is answered at once, for any other the tag waits.
abbrev pub requested : Says → ℕ → Link → LinkHears
requested answer n link =
    cond (n == 1) (moved link Declared (Some answer))
    (record {
      after =
          record {
            state = cond ((drawn link.draw n).0 == 1) Declared (Requested (drawn link.draw n).0);
            cid = link.cid;
            draw = (drawn link.draw n).1;
          };
      says = cond ((drawn link.draw n).0 == 1) (Some answer) None;
    })

-- Families 0x00 and 0x01 are this family.
abbrev pub hears_request : Says → ℕ → Bool → Slots → Link → LinkHears
hears_request answer family wake_up slots link =
    cond (listens link.state wake_up)
    (cond (nat_le family 1) (requested answer (slot_count slots) link) (moved link (dismissed link.state) None))
    (unmoved link)

-- In requested, the marker of the drawn slot is answered.
abbrev pub hears_marker : Says → ℕ → Link → State → LinkHears
hears_marker answer slot link Off = unmoved link
hears_marker answer slot link Idle = unmoved link
hears_marker answer slot link (Requested own) = cond (own == slot) (moved link Declared (Some answer)) (unmoved link)
hears_marker answer slot link Declared = unmoved link
hears_marker answer slot link Halted = unmoved link
hears_marker answer slot link Active = unmoved link

abbrev pub is_declared : State → Bool
is_declared Off = false
is_declared Idle = false
is_declared (Requested slot) = false
is_declared Declared = true
is_declared Halted = false
is_declared Active = false

-- In declared, ATTRIB with the tag's serial number selects it; the low nibble of PARAM4 becomes its card number.
abbrev pub hears_attrib : Bool → List ℕ → Link → LinkHears
hears_attrib own params link =
    cond (is_declared link.state && own)
    (record {
      after = record { state = Active; cid = slice_index params 3 % 16; draw = link.draw };
      says = Some (Card (slice_index params 3 % 16));
    })
    (unmoved link)

-- In declared, HLTB with the tag's serial number halts it.
abbrev pub hears_halt : Bool → Link → LinkHears
hears_halt own link = cond (is_declared link.state && own) (moved link Halted (Some Acknowledged)) (unmoved link)

-- What both kinds do alike, for a tag with this serial number and application data. Data commands are each kind's own.
abbrev pub link_hears : List ℕ → List ℕ → Heard → Link → LinkHears
link_hears serial application (Request family wake_up slots) link = hears_request (Answer serial application protocol_info) family wake_up slots link
link_hears serial application (SlotMarker slot) link = hears_marker (Answer serial application protocol_info) slot link link.state
link_hears serial application (Attrib named params inf) link = hears_attrib (bytes_eq named serial) params link
link_hears serial application (Halt named) link = hears_halt (bytes_eq named serial) link
link_hears serial application (Command op cid address bytes) link = unmoved link

-- Active obeys the data commands with its own card number.
abbrev pub is_active : State → Bool
is_active Off = false
is_active Idle = false
is_active (Requested slot) = false
is_active Declared = false
is_active Halted = false
is_active Active = true

abbrev pub answers_to : ℕ → Link → Bool
answers_to cid link = is_active link.state && cid == link.cid

-- A data command that a tag is to obey: which one, with its address byte and its eight data bytes.
pub record Order : Type 0 where
  pub op : Op
  pub address : ℕ
  pub bytes : List ℕ

-- Of all frames it obeys those alone.
abbrev pub obeyed : Heard → Link → Option Order
obeyed (Request family wake_up slots) link = None
obeyed (SlotMarker slot) link = None
obeyed (Attrib serial params inf) link = None
obeyed (Halt serial) link = None
obeyed (Command op cid address bytes) link =
    cond (answers_to cid link) (Some (record { op = op; address = address; bytes = bytes })) None

-- DESELECT halts the tag.
abbrev pub deselected : Link → Link
deselected link = record { state = Halted; cid = link.cid; draw = link.draw }
