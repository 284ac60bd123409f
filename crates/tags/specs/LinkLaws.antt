-- The laws of the link: what every kind of tag does with power, and with every frame but the
-- data commands that it obeys. They stand above the definitions and hold of every tag, in every
-- state.
use Rattle.std.specs.Prelude.{◌≡◌, ◌≢◌, ℕ, ◌+◌, ◌*◌, ◌<◌, ◌≤◌, Bool, true, false, not, List, [], ◌∷◌, ◌++◌, length, None, ◌==◌}
use Rattle.typeb.specs.declared.frames.Op.{Op}
use Rattle.typeb.specs.declared.frames.Slots.{Slots}
use Rattle.typeb.specs.declared.frames.Slots.TheVariants.{One}
use Rattle.typeb.specs.Hears.{Heard, Request, SlotMarker, Attrib, Halt, Command, slot_count}
use Rattle.tags.specs.declared.link.State.{State}
use Rattle.tags.specs.declared.link.State.TheVariants.{Off, Idle, Requested, Declared, Halted, Active}
use Rattle.kinds.specs.Kinds.{Meaning, Behaviour}
use Rattle.kinds.specs.Says.{Says, Answer, Card, Acknowledged}
use Rattle.kinds.specs.Reacts.{Reaction, unmoved, replies}
use Rattle.tags.specs.Common.{Shown, reacts_by, acts_by}
use Rattle.tags.specs.OnAir.{OnAir}

-- The frames that pass a tag by, in each state: requests pass by off and active tags, and REQB
-- halted ones; a marker concerns only a tag that waits for its slot, ATTRIB and HLTB only a
-- declared one, data commands only an active one.
abbrev pub not_declared : State → Bool
not_declared Off = true
not_declared Idle = true
not_declared (Requested slot) = true
not_declared Declared = false
not_declared Halted = true
not_declared Active = true

abbrev pub passes_by : Heard → State → Bool
passes_by (Request family wake_up slots) Off = true
passes_by (Request family wake_up slots) Idle = false
passes_by (Request family wake_up slots) (Requested slot) = false
passes_by (Request family wake_up slots) Declared = false
passes_by (Request family wake_up slots) Halted = not wake_up
passes_by (Request family wake_up slots) Active = true
passes_by (SlotMarker slot) Off = true
passes_by (SlotMarker slot) Idle = true
passes_by (SlotMarker slot) (Requested own) = not (own == slot)
passes_by (SlotMarker slot) Declared = true
passes_by (SlotMarker slot) Halted = true
passes_by (SlotMarker slot) Active = true
passes_by (Attrib serial params inf) state = not_declared state
passes_by (Halt serial) state = not_declared state
passes_by (Command op cid address bytes) Off = true
passes_by (Command op cid address bytes) Idle = true
passes_by (Command op cid address bytes) (Requested slot) = true
passes_by (Command op cid address bytes) Declared = true
passes_by (Command op cid address bytes) Halted = true
passes_by (Command op cid address bytes) Active = false

-- The pages of a tag from their first byte: serial number, lock bits, application data, and what
-- follows.
pub record OwnBytes (pages : List ℕ) : Type 0 where
  pub serial : List ℕ
  pub locks : List ℕ
  pub application : List ℕ
  pub rest : List ℕ
  pub serial_four : length serial ≡ 4
  pub locks_four : length locks ≡ 4
  pub application_four : length application ≡ 4
  pub in_order : pages ≡ serial ++ (locks ++ (application ++ rest))

-- ATQB of a tag with these pages.
abbrev pub atqb_of : {pages : List ℕ} → OwnBytes pages → Says
atqb_of own = Answer own.serial own.application (0x00 ∷ 0x00 ∷ 0x41 ∷ [])

-- One of n slots is drawn, from 1 to n. It is one more than the draw number divided by 4096, less
-- whole multiples of n. The next draw number is 25173 times the old one and 13849 more, less whole
-- multiples of 65536.
pub record Draws (n draw slot next : ℕ) : Type 0 where
  pub top : ℕ
  pub low : ℕ
  pub twelve_bits : low < 4096
  pub parts : draw ≡ 4096 * top + low
  pub rounds : ℕ
  pub from_one : 1 ≤ slot
  pub to_last : slot ≤ n
  pub counted : slot + n * rounds ≡ 1 + top
  pub carry : ℕ
  pub sixteen_bits : next < 65536
  pub follows : next + 65536 * carry ≡ 25173 * draw + 13849

module _ {H : Type 0} where
  -- A tag with this state, card number and draw number, all else as it was.
  abbrev pub moved_to : State → ℕ → ℕ → Meaning Shown H → Meaning Shown H
  moved_to state cid draw m =
      record {
        shown =
            record {
              link = record { state = state; cid = cid; draw = draw };
              pages = m.shown.pages;
            };
        hidden = m.hidden;
        opened = m.opened;
      }

  -- A tag in another state; one with another draw number too; an active one with another card
  -- number.
  abbrev pub in_state : State → Meaning Shown H → Meaning Shown H
  in_state state m = moved_to state m.shown.link.cid m.shown.link.draw m

  abbrev pub drawn_to : State → ℕ → Meaning Shown H → Meaning Shown H
  drawn_to state draw m = moved_to state m.shown.link.cid draw m

  abbrev pub selected : ℕ → Meaning Shown H → Meaning Shown H
  selected cid m = moved_to Active cid m.shown.link.draw m

  -- No reply.
  abbrev pub silently : Meaning Shown H → Reaction (Meaning Shown H)
  silently m = record { after = m; says = None; accepted = false }

  -- A tag draws a slot of n: the first is answered at once, for any other the tag waits in silence.
  pub record DrawsSlot (n : ℕ) (m : Meaning Shown H) (r : Reaction (Meaning Shown H)) : Type 0 where
    pub slot : ℕ
    pub next : ℕ
    pub draws : Draws n m.shown.link.draw slot next
    pub first : slot ≡ 1 → (own : OwnBytes m.shown.pages)
        → r ≡ replies (drawn_to Declared next m) (atqb_of own)
    pub waits : slot ≢ 1 → r ≡ silently (drawn_to (Requested slot) next m)

  -- Pages, what is hidden, card number and draw number stay.
  pub record Stays (m n : Meaning Shown H) : Type 0 where
    pub pages : n.shown.pages ≡ m.shown.pages
    pub hidden : n.hidden ≡ m.hidden
    pub card : n.shown.link.cid ≡ m.shown.link.cid
    pub draw : n.shown.link.draw ≡ m.shown.link.draw

  -- Power. A tag that loses it is off and closed. One that gains it is idle where it was off, and
  -- stays as it was where it was not.
  pub record Power (acts : Behaviour Shown H) (m : Meaning Shown H) : Type 0 where
    pub off : (acts.loses m).shown.link.state ≡ Off
    pub closed : (acts.loses m).opened ≡ false
    pub stays_off : Stays m (acts.loses m)
    pub idle : m.shown.link.state ≡ Off → (acts.gains m).shown.link.state ≡ Idle
    pub opens_none : (acts.gains m).opened ≡ m.opened
    pub stays_on : Stays m (acts.gains m)
    pub has_it : m.shown.link.state ≢ Off → acts.gains m ≡ m

  module _ (obeys : Op → ℕ → List ℕ → Meaning Shown H → Reaction (Meaning Shown H)) where
    -- A frame that passes a tag by meets silence and changes nothing.
    abbrev pub Deafness : Type 0
    Deafness =
        (frame : Heard) (m : Meaning Shown H) → passes_by frame m.shown.link.state ≡ true
        → reacts_by obeys frame m ≡ unmoved m

    -- Requests, where they do not pass the tag by.
    pub record Requests : Type 0 where
      -- Of family 0 or 1, REQB or WUPB: whatever the tag waited for or was, it does what it would
      -- do in idle.
      pub as_in_idle : (family : ℕ) (wake_up : Bool) (slots : Slots) (m : Meaning Shown H)
          → family < 2 → passes_by (Request family wake_up slots) m.shown.link.state ≡ false
          → reacts_by obeys (Request family wake_up slots) m
          ≡ reacts_by obeys (Request 0 false slots) (in_state Idle m)
      -- One slot: ATQB at once, and the draw number stays.
      pub one_slot : (m : Meaning Shown H) (own : OwnBytes m.shown.pages)
          → reacts_by obeys (Request 0 false One) (in_state Idle m)
          ≡ replies (in_state Declared m) (atqb_of own)
      -- More slots: one is drawn.
      pub more_slots : (slots : Slots) (m : Meaning Shown H) → slots ≢ One
          → DrawsSlot (slot_count slots) m
          (reacts_by obeys (Request 0 false slots) (in_state Idle m))
      -- Of any other family: silence and no draw. A halted tag stays so, the others become idle.
      pub other_family : (family : ℕ) (wake_up : Bool) (slots : Slots) (m : Meaning Shown H)
          → 2 ≤ family → passes_by (Request family wake_up slots) m.shown.link.state ≡ false
          → m.shown.link.state ≢ Halted
          → reacts_by obeys (Request family wake_up slots) m ≡ silently (in_state Idle m)
      pub other_family_halted : (family : ℕ) (wake_up : Bool) (slots : Slots)
          → (m : Meaning Shown H) → 2 ≤ family → m.shown.link.state ≡ Halted
          → reacts_by obeys (Request family wake_up slots) m ≡ unmoved m

    -- A marker is answered by a tag that waits for its slot, and changes no other, whatever its
    -- number.
    pub record Markers : Type 0 where
      pub own_slot : (slot : ℕ) (m : Meaning Shown H) (own : OwnBytes m.shown.pages)
          → m.shown.link.state ≡ Requested slot
          → reacts_by obeys (SlotMarker slot) m ≡ replies (in_state Declared m) (atqb_of own)
      pub other_slot : (slot : ℕ) (m : Meaning Shown H) → m.shown.link.state ≢ Requested slot
          → reacts_by obeys (SlotMarker slot) m ≡ unmoved m

    -- ATTRIB and HLTB for a declared tag's own serial number are obeyed, those for another change
    -- nothing.
    pub record Selection : Type 0 where
      -- The low nibble of PARAM4, from 0 to 15, is the card number. Nothing else of PARAM1 to
      -- PARAM4 and INF matters.
      pub attrib : (p q r high card : ℕ) (inf : List ℕ) (m : Meaning Shown H)
          → (own : OwnBytes m.shown.pages) → m.shown.link.state ≡ Declared → card < 16
          → reacts_by obeys (Attrib own.serial (p ∷ q ∷ r ∷ (16 * high + card) ∷ []) inf) m
          ≡ replies (selected card m) (Card card)
      pub hltb : (m : Meaning Shown H) (own : OwnBytes m.shown.pages)
          → m.shown.link.state ≡ Declared
          → reacts_by obeys (Halt own.serial) m ≡ replies (in_state Halted m) Acknowledged
      pub other_attrib : (named params inf : List ℕ) (m : Meaning Shown H)
          → (own : OwnBytes m.shown.pages) → named ≢ own.serial
          → reacts_by obeys (Attrib named params inf) m ≡ unmoved m
      pub other_hltb : (named : List ℕ) (m : Meaning Shown H) (own : OwnBytes m.shown.pages)
          → named ≢ own.serial → reacts_by obeys (Halt named) m ≡ unmoved m

    -- An active tag obeys the data commands with its own card number, of an address the low five
    -- bits; those with another number change nothing.
    pub record Addressing : Type 0 where
      pub own_card : (op : Op) (turns page : ℕ) (bytes : List ℕ) (m : Meaning Shown H)
          → m.shown.link.state ≡ Active → page < 32
          → reacts_by obeys (Command op m.shown.link.cid (32 * turns + page) bytes) m
          ≡ obeys op page bytes m
      pub other_card : (op : Op) (cid address : ℕ) (bytes : List ℕ) (m : Meaning Shown H)
          → cid ≢ m.shown.link.cid → reacts_by obeys (Command op cid address bytes) m ≡ unmoved m

    -- All of these.
    pub record LinkLaws : Type 0 where
      pub on_air : OnAir obeys
      pub deafness : Deafness
      pub requests : Requests
      pub markers : Markers
      pub selection : Selection
      pub addressing : Addressing
      pub power : (m : Meaning Shown H) → Power (acts_by obeys) m
