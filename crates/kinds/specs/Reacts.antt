-- From what is heard in a frame to the bytes that are answered: the same for every kind.
use Rattle.std.specs.Prelude.{◌≡◌, ℕ, Bool, false, List, [], Some, None, Option}
use Rattle.typeb.specs.Hears.{Heard, heard}
use Rattle.kinds.specs.declared.said.Said.{Said}
use Rattle.kinds.specs.Kinds.{Meaning, Hears}
use Rattle.kinds.specs.Says.{Says, reply_bytes, saying_of}

-- What a tag does with what it heard: what it is then, what it says, and whether it accepted a check.
pub record Reaction (M : Type 0) : Type 0 where
  pub after : M
  pub says : Option Says
  pub accepted : Bool

module _ {M : Type 0} where
  -- No reply and no change.
  abbrev pub unmoved : M → Reaction M
  unmoved m = record { after = m; says = None; accepted = false }

  -- A reply, with no check accepted.
  abbrev pub replies : M → Says → Reaction M
  replies m says = record { after = m; says = Some says; accepted = false }

  -- What a function of the code left and answered is this reaction.
  pub record Reacted (r : Reaction M) (tag : M) (said : Option Said) (accepted : Bool) : Type 0 where
    pub tag_after : tag ≡ r.after
    pub says : saying_of said ≡ r.says
    pub check : accepted ≡ r.accepted

module _ {S H : Type 0} where
  -- The reaction to a frame, with the reply in bytes. A frame that is not heard changes nothing.
  abbrev pub answered : (Heard → Meaning S H → Reaction (Meaning S H)) → Meaning S H → Option Heard → Hears S H
  answered reacts m (Some frame) =
      record {
        after = (reacts frame m).after;
        reply = reply_bytes frame (reacts frame m).says;
        accepted = (reacts frame m).accepted;
      }
  answered reacts m None = record { after = m; reply = []; accepted = false }

  abbrev pub hears_by : (Heard → Meaning S H → Reaction (Meaning S H)) → List ℕ → Meaning S H → Hears S H
  hears_by reacts frame m = answered reacts m (heard frame)

  -- What a tag says to a frame.
  abbrev pub says_at : (Heard → Meaning S H → Reaction (Meaning S H)) → Meaning S H → Option Heard → Option Says
  says_at reacts m (Some frame) = (reacts frame m).says
  says_at reacts m None = None

  abbrev pub says_to : (Heard → Meaning S H → Reaction (Meaning S H)) → List ℕ → Meaning S H → Option Says
  says_to reacts frame m = says_at reacts m (heard frame)
