-- What a tag goes by: of two frames that agree on what their command names, it does not tell one
-- from the other.
use Rattle.std.specs.Prelude.{◌≡◌, ℕ, ◌+◌, ◌*◌, ◌<◌, ◌≤◌, Bool, List, [], ◌∷◌, Some}
use Rattle.typeb.specs.declared.frames.Op.{Op}
use Rattle.typeb.specs.declared.frames.Op.TheVariants.{Read, Write, Lock, CheckPassword, Deselect, Count}
use Rattle.typeb.specs.declared.frames.Slots.{Slots}
use Rattle.typeb.specs.Hears.{Heard, Request, SlotMarker, Attrib, Halt, Command, heard}
use Rattle.kinds.specs.Kinds.{Meaning}
use Rattle.kinds.specs.Reacts.{Reaction}
use Rattle.tags.specs.Common.{Shown, acts_by}

-- What two frames that are heard agree on.
pub data Agree : Heard → Heard → Type 0 where
  -- requests, both REQB or both WUPB: of family 0 or 1 each, with the same slots
  SameRequest : (family other : ℕ) (wake_up : Bool) (slots : Slots) → family < 2 → other < 2
      → Agree (Request family wake_up slots) (Request other wake_up slots)
  -- requests, both REQB or both WUPB: of other families each, whatever slots they announce
  OtherRequest : (family other : ℕ) (wake_up : Bool) (slots more : Slots) → 2 ≤ family → 2 ≤ other
      → Agree (Request family wake_up slots) (Request other wake_up more)
  -- slot markers: the slot
  SameMarker : (slot : ℕ) → Agree (SlotMarker slot) (SlotMarker slot)
  -- ATTRIB: the serial number and the low nibble of PARAM4
  SameAttrib : (serial : List ℕ) (p q r s t u high higher card : ℕ) (inf others : List ℕ)
      → card < 16
      → Agree (Attrib serial (p ∷ q ∷ r ∷ (16 * high + card) ∷ []) inf)
      (Attrib serial (s ∷ t ∷ u ∷ (16 * higher + card) ∷ []) others)
  -- HLTB: the serial number
  SameHalt : (serial : List ℕ) → Agree (Halt serial) (Halt serial)
  -- READ: the page, which is the address modulo 32
  SameRead : (cid j k page : ℕ) (bytes others : List ℕ) → page < 32
      → Agree (Command Read cid (32 * j + page) bytes) (Command Read cid (32 * k + page) others)
  -- WRITE: the page, and the eight bytes
  SameWrite : (cid j k page : ℕ) (bytes : List ℕ) → page < 32
      → Agree (Command Write cid (32 * j + page) bytes) (Command Write cid (32 * k + page) bytes)
  -- LOCK: data bytes 4 to 7
  SameLock : (cid j k a b c d e f g h : ℕ) (locks : List ℕ)
      → Agree (Command Lock cid j (a ∷ b ∷ c ∷ d ∷ locks))
      (Command Lock cid k (e ∷ f ∷ g ∷ h ∷ locks))
  -- CHECK PASSWORD: the eight bytes
  SameCheck : (cid j k : ℕ) (bytes : List ℕ)
      → Agree (Command CheckPassword cid j bytes) (Command CheckPassword cid k bytes)
  -- DESELECT: nothing but the card number
  SameDeselect : (cid j k : ℕ) (bytes others : List ℕ)
      → Agree (Command Deselect cid j bytes) (Command Deselect cid k others)
  -- COUNT: the first six bytes
  SameCount : (cid j k a b c d e f : ℕ) (rest others : List ℕ)
      → Agree (Command Count cid j (a ∷ b ∷ c ∷ d ∷ e ∷ f ∷ rest))
      (Command Count cid k (a ∷ b ∷ c ∷ d ∷ e ∷ f ∷ others))

-- Two such frames leave every tag the same, bring the same bytes, and are both accepted checks or
-- neither.
abbrev pub GoesBy : {H : Type 0}
    → (Op → ℕ → List ℕ → Meaning Shown H → Reaction (Meaning Shown H)) → Type 0
GoesBy {H} obeys =
    (f g : List ℕ) (a b : Heard) (m : Meaning Shown H)
    → heard f ≡ Some a → heard g ≡ Some b → Agree a b
    → (acts_by obeys).hears f m ≡ (acts_by obeys).hears g m
