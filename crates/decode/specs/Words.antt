-- What a tag hears in a frame, in plain words.
use Rattle.std.specs.Prelude.{ℕ, ◌%◌, Bool, cond, List, [], ◌∷◌, ◌++◌, take, drop, codes, decimal, ◌==◌, slice_index}
use Rattle.hex_pairs.specs.Hex.{hex_text}
use Rattle.typeb.specs.declared.frames.Op.{Op}
use Rattle.typeb.specs.declared.frames.Op.TheVariants.{Read, Write, Lock, CheckPassword, Deselect, Count}
use Rattle.typeb.specs.declared.frames.Slots.{Slots}
use Rattle.typeb.specs.Hears.{Heard, Request, SlotMarker, Attrib, Halt, Command, slot_count}

-- Parts of a text, one after another.
abbrev pub text : List (List ℕ) → List ℕ
text [] = []
text (part ∷ []) = part
text (part ∷ next ∷ parts) = part ++ text (next ∷ parts)

-- One byte.
abbrev pub hex_byte : ℕ → List ℕ
hex_byte byte = hex_text (byte ∷ [])

-- One slot, or more slots.
abbrev pub slot_word : ℕ → List ℕ
slot_word count = cond (count == 1) (codes "slot") (codes "slots")

-- REQB, or WUPB, which wakes halted tags too.
abbrev pub request_words : ℕ → Bool → Slots → List ℕ
request_words family wake_up slots =
    text (cond wake_up (codes "WUPB") (codes "REQB") ∷ codes ", family " ∷ hex_byte family ∷ codes ", " ∷ decimal (slot_count slots) ∷ codes " " ∷ slot_word (slot_count slots) ∷ [])

-- INF may be empty.
abbrev pub inf_words : List ℕ → List ℕ
inf_words [] = codes "no INF"
inf_words (byte ∷ bytes) = codes "INF " ++ hex_text (byte ∷ bytes)

-- The card number that the tag is to take is the low nibble of PARAM4.
abbrev pub card_of : List ℕ → ℕ
card_of params = slice_index params 3 % 16

-- ATTRIB.
abbrev pub attrib_words : List ℕ → List ℕ → List ℕ → List ℕ
attrib_words serial params inf =
    text (codes "ATTRIB, serial " ∷ hex_text serial ∷ codes ", parameters " ∷ hex_text params ∷ codes ", card " ∷ decimal (card_of params) ∷ codes ", " ∷ inf_words inf ∷ [])

-- HLTB.
abbrev pub halt_words : List ℕ → List ℕ
halt_words serial = text (codes "HLTB, serial " ∷ hex_text serial ∷ [])

-- The names of the data commands.
abbrev pub op_name : Op → List ℕ
op_name Read = codes "READ"
op_name Write = codes "WRITE"
op_name Lock = codes "LOCK"
op_name CheckPassword = codes "CHECK PASSWORD"
op_name Deselect = codes "DESELECT"
op_name Count = codes "COUNT"

-- The page that an address byte means.
abbrev pub page_of : ℕ → ℕ
page_of address = address % 32

-- What a command carries. LOCK has its lock bits in data bytes 4 to 7, COUNT its signature in data bytes 0 to 5.
abbrev pub carried_words : Op → ℕ → List ℕ → List ℕ
carried_words Read address bytes = text (codes ", page " ∷ decimal (page_of address) ∷ [])
carried_words Write address bytes = text (codes ", page " ∷ decimal (page_of address) ∷ codes ", data " ∷ hex_text bytes ∷ [])
carried_words Lock address bytes = text (codes ", lock bits " ∷ hex_text (take 4 (drop 4 bytes)) ∷ [])
carried_words CheckPassword address bytes = text (codes ", password " ∷ hex_text bytes ∷ [])
carried_words Deselect address bytes = []
carried_words Count address bytes = text (codes ", signature " ∷ hex_text (take 6 bytes) ∷ [])

-- A data command.
abbrev pub command_words : Op → ℕ → ℕ → List ℕ → List ℕ
command_words op cid address bytes = text (op_name op ∷ codes ", card " ∷ decimal cid ∷ carried_words op address bytes ∷ [])

-- What is heard.
abbrev pub words : Heard → List ℕ
words (Request family wake_up slots) = request_words family wake_up slots
words (SlotMarker slot) = text (codes "SlotMARKER, slot " ∷ decimal slot ∷ [])
words (Attrib serial params inf) = attrib_words serial params inf
words (Halt serial) = halt_words serial
words (Command op cid address bytes) = command_words op cid address bytes
