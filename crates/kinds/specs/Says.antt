-- What a tag says, and the bytes in which it says it.
use Rattle.std.specs.Prelude.{ℕ, ◌%◌, List, [], ◌∷◌, ◌++◌, Some, None, Option, Bool, cond, Ok, Err, Result}
use Rattle.typeb.specs.CheckBytes.{sealed}
use Rattle.typeb.specs.Hears.{Heard, Request, SlotMarker, Attrib, Halt, Command, head_of}
use Rattle.kinds.specs.declared.said.Nack.{Nack}
use Rattle.kinds.specs.declared.said.Nack.TheVariants.{Locked, Invalid, NotOpen}
use Rattle.kinds.specs.declared.said.Echo.{Echo}
use Rattle.kinds.specs.declared.said.Said.{Said}
use Rattle.kinds.specs.declared.said.Said.TheVariants as said

-- What a tag can say.
pub data Says : Type 0 where
  -- ATQB, the answer to a request: serial number, application data, protocol info
  Answer : List ℕ → List ℕ → List ℕ → Says
  -- the card number that it took from ATTRIB
  Card : ℕ → Says
  -- the page that was asked for
  Page : List ℕ → Says
  -- done (ACK)
  Acknowledged : Says
  -- not done (NACK), with the code that says why
  Refused : ℕ → Says

-- The protocol info of every tag here: 106 kbit/s only, frames of 16 bytes, no further protocol, card numbers supported.
abbrev pub protocol_info : List ℕ
protocol_info = 0x00 ∷ 0x00 ∷ 0x41 ∷ []

-- The code of each reason to refuse: the low nibble 1 marks the NACK.
abbrev pub nack_code : Nack → ℕ
nack_code Locked = 0x11
nack_code Invalid = 0x21
nack_code NotOpen = 0x41

-- What a reply repeats of the frame: a data command's first byte.
abbrev pub echo : Heard → List ℕ
echo (Request family wake_up slots) = []
echo (SlotMarker slot) = []
echo (Attrib serial params inf) = []
echo (Halt serial) = []
echo (Command op cid address bytes) = head_of op cid ∷ []

-- The page that a data command names: its address modulo 32.
abbrev pub page_named : Heard → ℕ
page_named (Request family wake_up slots) = 0
page_named (SlotMarker slot) = 0
page_named (Attrib serial params inf) = 0
page_named (Halt serial) = 0
page_named (Command op cid address bytes) = address % 32

-- The same of what the code takes from a data command, and from no other frame.
abbrev pub repeated : Option Echo → List ℕ
repeated (Some e) = e.head ∷ []
repeated None = []

abbrev pub page_repeated : Option Echo → ℕ
page_repeated (Some e) = e.page
page_repeated None = 0

-- What is said, behind what is repeated, without check bytes.
abbrev pub said_body : List ℕ → ℕ → Says → List ℕ
said_body repeats page (Answer serial application protocol) = 0x50 ∷ serial ++ application ++ protocol
said_body repeats page (Card cid) = cid ∷ []
said_body repeats page (Page bytes) = repeats ++ (page ∷ bytes)
said_body repeats page Acknowledged = repeats ++ (0x00 ∷ [])
said_body repeats page (Refused code) = repeats ++ (code ∷ [])

-- The bytes that go over the air: none where the tag says nothing.
abbrev pub reply_bytes : Heard → Option Says → List ℕ
reply_bytes frame (Some says) = sealed (said_body (echo frame) (page_named frame) says)
reply_bytes frame None = []

-- What a value of the code stands for.
abbrev pub says_of : Said → Says
says_of (said.Answer serial application) = Answer serial application protocol_info
says_of (said.Card cid) = Card cid
says_of (said.Page bytes) = Page bytes
says_of said.Acknowledged = Acknowledged
says_of (said.Refused why) = Refused (nack_code why)

abbrev pub saying_of : Option Said → Option Says
saying_of (Some s) = Some (says_of s)
saying_of None = None

-- A question that a command asks: yes, or why not.
abbrev pub granted : Bool → Nack → Result Unit Nack
granted passed why = cond passed (Ok tt) (Err why)

-- What is said of a command that is done or refused, and of one that gives a page or is refused.
abbrev pub done_said : Result Unit Nack → Said
done_said (Ok done) = said.Acknowledged
done_said (Err why) = said.Refused why

abbrev pub page_said : Result (List ℕ) Nack → Said
page_said (Ok page) = said.Page page
page_said (Err why) = said.Refused why
