-- Two things heard are equal in at most one way: what is heard can be written as lists of numbers, and read from them again.
use Rattle.std.proofs.Common.{◌≡◌, ℕ, Bool, true, false, cond, eqb, List, [], ◌∷◌, get_or, Some, None, Option, sym, refl, ap, ◌∙◌, ap₂}
use Rattle.std.specs.Option.{option_map}
use base.Stored.{Coded-set, coded_via, coded_list, coded_ℕ}
use Rattle.typeb.specs.declared.frames.Slots.{Slots}
use Rattle.typeb.specs.declared.frames.Slots.TheVariants.{One, Two, Four, Eight, Sixteen}
use Rattle.typeb.specs.declared.frames.Op.{Op}
use Rattle.typeb.specs.declared.frames.Op.TheVariants.{Read, Write, Lock, CheckPassword, Deselect, Count}
use Rattle.typeb.specs.Hears.{Heard, Request, SlotMarker, Attrib, Halt, Command, slot_code, slots_of, op_code, op_of, command_of}

abbrev flat : Option Heard → List (List ℕ)
flat None = []
flat (Some (Request family wake_up slots)) = (1 ∷ family ∷ cond wake_up 1 0 ∷ slot_code slots ∷ []) ∷ []
flat (Some (SlotMarker slot)) = (2 ∷ slot ∷ []) ∷ []
flat (Some (Attrib serial params inf)) = (3 ∷ []) ∷ serial ∷ params ∷ inf ∷ []
flat (Some (Halt serial)) = (4 ∷ []) ∷ serial ∷ []
flat (Some (Command op cid address bytes)) = (5 ∷ op_code op ∷ cid ∷ address ∷ []) ∷ bytes ∷ []

abbrev part : ℕ → List (List ℕ) → List ℕ
part i code = get_or code i []

abbrev figure : ℕ → List (List ℕ) → ℕ
figure i code = get_or (part 0 code) i 0

abbrev unflat : List (List ℕ) → Option Heard
unflat code =
    cond (eqb (figure 0 code) 1) (option_map (Request (figure 1 code) (eqb (figure 2 code) 1)) (slots_of (figure 3 code)))
    (cond (eqb (figure 0 code) 2) (Some (SlotMarker (figure 1 code)))
    (cond (eqb (figure 0 code) 3) (Some (Attrib (part 1 code) (part 2 code) (part 3 code)))
    (cond (eqb (figure 0 code) 4) (Some (Halt (part 1 code)))
    (cond (eqb (figure 0 code) 5) (command_of (figure 2 code) (figure 3 code) (part 1 code) (op_of (figure 1 code))) None))))

flag_back : (b : Bool) → eqb (cond b 1 0) 1 ≡ b
flag_back true = refl
flag_back false = refl

-- a number of slots is read back from its code
pub slots_back : (s : Slots) → slots_of (slot_code s) ≡ Some s
slots_back One = refl
slots_back Two = refl
slots_back Four = refl
slots_back Eight = refl
slots_back Sixteen = refl

-- a command is read back from its code
pub op_back : (op : Op) → op_of (op_code op) ≡ Some op
op_back Read = refl
op_back Write = refl
op_back Lock = refl
op_back CheckPassword = refl
op_back Deselect = refl
op_back Count = refl

flat_back : (h : Option Heard) → unflat (flat h) ≡ h
flat_back None = refl
flat_back (Some (Request family wake_up slots)) = ap₂ (λ b o. option_map (Request family b) o) (flag_back wake_up) (slots_back slots)
flat_back (Some (SlotMarker slot)) = refl
flat_back (Some (Attrib serial params inf)) = refl
flat_back (Some (Halt serial)) = refl
flat_back (Some (Command op cid address bytes)) = ap (command_of cid address bytes) (op_back op)

pub heard_set : IsSet (Option Heard)
heard_set = Coded-set (coded_via (coded_list (coded_list coded_ℕ)) flat (λ x y p. sym (flat_back x) ∙ ap unflat p ∙ flat_back y))
