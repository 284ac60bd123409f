-- Which frames carry a data command.
use Rattle.std.proofs.Common.{◌≡◌, ℕ, ◌-◌, ◌/◌, ◌%◌, false, ◌&&◌, eqb, ltb, leb, List, length, drop, Some, None, Option, sym, refl, ap, ◌∙◌, subst}
use Rattle.std.proofs.lemmas.List.{length-drop}
use Rattle.std.proofs.lemmas.Bool.{cond_both, eqb-true}
use Rattle.typeb.specs.CheckBytes.{sealed, sound, body_of}
use Rattle.typeb.specs.declared.frames.Slots.{Slots}
use Rattle.typeb.specs.declared.frames.Op.{Op}
use Rattle.typeb.specs.Hears.{Heard, Request, SlotMarker, Attrib, Halt, Command, heard, in_body, at, request_of, command_of, slots_of, op_of}
use Rattle.typeb.proofs.Sealed.{body_of_sealed}
use Rattle.tags.specs.Conduct.{is_check}
use Rattle.handling.specs.Laws.{is_count}

-- a frame for the link
abbrev pub ForLink : Heard → Type 0
ForLink (Request family wake_up slots) = Unit {0}
ForLink (SlotMarker slot) = Unit {0}
ForLink (Attrib serial params inf) = Unit {0}
ForLink (Halt serial) = Unit {0}
ForLink (Command op cid address bytes) = ⊥

-- what holds of no frame, of every frame for the link and of a command of ten bytes holds of what is heard
module _ (P : Option Heard → Type 0) (nothing : P None) (link : (frame : Heard) → ForLink frame → P (Some frame)) where
  request : (family param : ℕ) (slots : Option Slots) → P (request_of family param slots)
  request family param (Some slots) = link _ tt
  request family param None = nothing

  of_body : (b : List ℕ) → (length b ≡ 10 → P (command_of (at 0 b % 16) (at 1 b) (drop 2 b) (op_of (at 0 b / 16)))) → P (in_body b)
  of_body b command =
      cond_both (eqb (length b) 3 && eqb (at 0 b) 0x05) _ _ P (λ _. request (at 1 b) (at 2 b) (slots_of (at 2 b % 8)))
      (λ _. cond_both (eqb (length b) 1 && (eqb (at 0 b % 16) 5 && ltb 0 (at 0 b / 16))) _ _ P (λ _. link _ tt)
      (λ _. cond_both (leb 9 (length b) && (leb (length b) 14 && eqb (at 0 b) 0x1D)) _ _ P (λ _. link _ tt)
      (λ _. cond_both (eqb (length b) 5 && eqb (at 0 b) 0x50) _ _ P (λ _. link _ tt)
      (λ _. cond_both (eqb (length b) 10) _ _ P (λ ten. command (eqb-true _ _ ten)) (λ _. nothing)))))

  of_heard : (frame : List ℕ) → P (in_body (body_of frame)) → P (heard frame)
  unfolding heard
  of_heard frame body = cond_both (sound frame) _ _ P (λ _. body) (λ _. nothing)

-- a command has eight data bytes
abbrev pub Eight : Option Heard → Type 0
Eight (Some (Request family wake_up slots)) = Unit {0}
Eight (Some (SlotMarker slot)) = Unit {0}
Eight (Some (Attrib serial params inf)) = Unit {0}
Eight (Some (Halt serial)) = Unit {0}
Eight (Some (Command op cid address bytes)) = length bytes ≡ 8
Eight None = Unit {0}

eight_link : (frame : Heard) → ForLink frame → Eight (Some frame)
eight_link (Request family wake_up slots) h = tt
eight_link (SlotMarker slot) h = tt
eight_link (Attrib serial params inf) h = tt
eight_link (Halt serial) h = tt
eight_link (Command op cid address bytes) h = absurd h

eight_command : (cid address : ℕ) (bytes : List ℕ) (op : Option Op) → length bytes ≡ 8 → Eight (command_of cid address bytes op)
eight_command cid address bytes (Some op) eight = eight
eight_command cid address bytes None eight = tt

pub eight_heard : (frame : List ℕ) → Eight (heard frame)
eight_heard frame =
    of_heard Eight tt eight_link frame
    (of_body Eight tt eight_link (body_of frame)
    (λ ten. eight_command _ _ (drop 2 (body_of frame)) _ (length-drop 2 (body_of frame) ∙ ap (λ (n : ℕ). n - 2) ten)))

-- a sealed body that has not ten bytes, or not the head of a data command, carries none
abbrev pub Plain : Option Heard → Type 0
Plain (Some frame) = ForLink frame
Plain None = Unit {0}

pub no_command : (body : List ℕ) → (length body ≡ 10 → op_of (at 0 body / 16) ≡ None) → Plain (heard (sealed body))
no_command body other =
    of_heard Plain tt (λ frame h. h) (sealed body)
    (subst (λ (b : List ℕ). Plain (in_body b)) (sym (body_of_sealed body))
    (of_body Plain tt (λ frame h. h) body
    (λ ten. subst (λ (op : Option Op). Plain (command_of (at 0 body % 16) (at 1 body) (drop 2 body) op)) (sym (other ten)) tt)))

-- and so neither a COUNT nor a CHECK PASSWORD
pub no_count : (o : Option Heard) → Plain o → is_count o ≡ false
no_count (Some (Request family wake_up slots)) h = refl
no_count (Some (SlotMarker slot)) h = refl
no_count (Some (Attrib serial params inf)) h = refl
no_count (Some (Halt serial)) h = refl
no_count (Some (Command op cid address bytes)) h = absurd h
no_count None h = refl

pub no_check : (o : Option Heard) → Plain o → is_check o ≡ false
no_check (Some (Request family wake_up slots)) h = refl
no_check (Some (SlotMarker slot)) h = refl
no_check (Some (Attrib serial params inf)) h = refl
no_check (Some (Halt serial)) h = refl
no_check (Some (Command op cid address bytes)) h = absurd h
no_check None h = refl
