-- What goes over the air: from the bytes of a frame to the bytes that a tag answers.
use Rattle.std.specs.Prelude.{◌≡◌, ℕ, ◌+◌, ◌*◌, ◌<◌, false, List, [], ◌∷◌, ◌++◌, take, Some, None, slice_index}
use Rattle.typeb.specs.CheckBytes.{Bytes, sealed}
use Rattle.typeb.specs.declared.frames.Op.{Op}
use Rattle.typeb.specs.Hears.{Heard, Halt, Command, heard}
use Rattle.kinds.specs.Kinds.{Meaning}
use Rattle.kinds.specs.Says.{Answer, Card, Page, Acknowledged, Refused, reply_bytes}
use Rattle.kinds.specs.Reacts.{Reaction}
use Rattle.tags.specs.Common.{Shown, reacts_by, acts_by}

-- What is said to a data command, in the bytes of the frame that brought it. Its first byte, of
-- command and card number, is repeated. Behind it stand 00 where the command is done, the code
-- where it is refused, and else the page, which is the second byte less whole multiples of 32, and
-- the bytes that were read.
pub record CommandBytes (f : List ℕ) (frame : Heard) : Type 0 where
  pub acknowledged : reply_bytes frame (Some Acknowledged) ≡ sealed (take 1 f ++ (0x00 ∷ []))
  pub refused : (code : ℕ)
      → reply_bytes frame (Some (Refused code)) ≡ sealed (take 1 f ++ (code ∷ []))
  pub page : (turns page : ℕ) (read : List ℕ) → slice_index f 1 ≡ 32 * turns + page → page < 32
      → reply_bytes frame (Some (Page read)) ≡ sealed (take 1 f ++ (page ∷ read))

-- What is said, in bytes: ATQB begins with 50, the answer to ATTRIB is the card number, that to
-- HLTB is 00.
pub record SaidBytes (f : List ℕ) (frame : Heard) : Type 0 where
  pub nothing : reply_bytes frame None ≡ []
  pub atqb : (serial application protocol : List ℕ)
      → reply_bytes frame (Some (Answer serial application protocol))
      ≡ sealed (0x50 ∷ serial ++ application ++ protocol)
  pub card : (cid : ℕ) → reply_bytes frame (Some (Card cid)) ≡ sealed (cid ∷ [])
  pub hltb : (serial : List ℕ) → frame ≡ Halt serial
      → reply_bytes frame (Some Acknowledged) ≡ sealed (0x00 ∷ [])
  pub command : (op : Op) (cid address : ℕ) (bytes : List ℕ) → frame ≡ Command op cid address bytes
      → CommandBytes f frame

-- What a tag does with the bytes of a frame it does with what is heard in them, and what it says
-- goes out in these bytes. A frame in which nothing is heard meets silence and changes nothing.
pub record OnAir {H : Type 0}
    (obeys : Op → ℕ → List ℕ → Meaning Shown H → Reaction (Meaning Shown H)) : Type 0 where
  pub told : (f : List ℕ) (frame : Heard) (m : Meaning Shown H) → heard f ≡ Some frame
      → (acts_by obeys).hears f m
      ≡ record {
        after = (reacts_by obeys frame m).after;
        reply = reply_bytes frame (reacts_by obeys frame m).says;
        accepted = (reacts_by obeys frame m).accepted;
      }
  pub said : (f : List ℕ) (frame : Heard) → Bytes f → heard f ≡ Some frame → SaidBytes f frame
  pub unheard : (f : List ℕ) (m : Meaning Shown H) → heard f ≡ None
      → (acts_by obeys).hears f m ≡ record { after = m; reply = []; accepted = false }
