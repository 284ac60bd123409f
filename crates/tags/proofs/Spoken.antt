-- What a tag of either kind can say to a frame, whatever its state.
use Rattle.std.proofs.Common.{◌≡◌, ℕ, ◌+◌, ◌*◌, ◌%◌, ◌<◌, ◌≤◌, Bool, true, false, cond, ◌&&◌, eqb, ltb, leb, List, length, get_or, IfSome, Option, refl, arith}
use Rattle.std.specs.Str.{bytes_eq}
use Rattle.std.proofs.lemmas.List.{length-take, length-drop}
use Rattle.std.proofs.lemmas.Bool.{cond_both, ltb-true}
use Rattle.typeb.specs.declared.frames.Op.{Op}
use Rattle.typeb.specs.declared.frames.Op.TheVariants.{Read, Write, Lock, CheckPassword, Deselect, Count}
use Rattle.typeb.specs.Hears.{Heard, Request, SlotMarker, Attrib, Halt, Command, slot_count}
use Rattle.tags.specs.declared.link.State.{State}
use Rattle.tags.specs.declared.link.State.TheVariants.{Off, Idle, Requested, Declared, Halted, Active}
use Rattle.tags.specs.declared.link.Link.{Link}
use Rattle.kinds.specs.Kinds.{Meaning}
use Rattle.kinds.specs.Says.{Says, Answer, Card, Page, Acknowledged, Refused, protocol_info}
use Rattle.tags.specs.Links.{LinkHears, link_hears, hears_marker, listens, drawn, is_declared, answers_to}
use Rattle.tags.specs.Pages.{page_at, serial_in, application_in, unlocked, counter_in}
use Rattle.tags.specs.Common.{Shown, link_of, by_link, reacts_by}
use Rattle.kinds.specs.Reacts.{Reaction}
use Rattle.tags.specs.Pump.{PumpMeaning, PumpSized, pump_obeys, page_of, passes}
use Rattle.tags.specs.Rules.{reading_of, writing_of, ever_read, read_now, by_write}
use Rattle.tags.proofs.Replaced.{page_long}
use Rattle.tags.specs.Gauge.{GaugeMeaning, GaugeSized, gauge_obeys}

-- P holds of what is said, where anything is
abbrev pub Only : (Says → Type 0) → Option Says → Type 0
Only P says = IfSome says P

-- P holds of every answer to a request; of every refusal
abbrev pub Answering : (Says → Type 0) → Type 0
Answering P = (serial application protocol : List ℕ) → length serial ≡ 4 → length application ≡ 4 → length protocol ≡ 3 → P (Answer serial application protocol)

abbrev pub Refusing : (Says → Type 0) → Type 0
Refusing P = (code : ℕ) → code % 16 ≡ 1 → P (Refused code)

-- P holds of all that can be said to a data command; to a frame
abbrev pub ToCommand : (Says → Type 0) → Op → Type 0
ToCommand P Read = ((bytes : List ℕ) → length bytes ≡ 8 → P (Page bytes)) × Refusing P
ToCommand P Write = P Acknowledged × Refusing P
ToCommand P Lock = P Acknowledged × Refusing P
ToCommand P CheckPassword = P Acknowledged × Refusing P
ToCommand P Deselect = P Acknowledged
ToCommand P Count = P Acknowledged × Refusing P

abbrev pub ToFrame : (Says → Type 0) → Heard → Type 0
ToFrame P (Request family wake_up slots) = Answering P
ToFrame P (SlotMarker slot) = Answering P
ToFrame P (Attrib serial params inf) = P (Card (get_or params 3 0 % 16))
ToFrame P (Halt serial) = P Acknowledged
ToFrame P (Command op cid address bytes) = ToCommand P op

-- what holds on both ways of a test holds of its outcome
either : {A : Type 0} (Q : A → Type 0) (t : Bool) {x y : A} → Q x → Q y → Q (cond t x y)
either Q true p q = p
either Q false p q = q

-- a page within a memory has eight bytes
length_page : (n : ℕ) (memory : List ℕ) → 8 * n + 8 ≤ length memory → length (page_at n memory) ≡ 8
length_page n memory fits = simp (length-take, length-drop) (omega arith)

module _ (P : Says → Type 0) where
  -- the link, for a tag with this serial number and application data
  module _ (serial application : List ℕ) (serial_four : length serial ≡ 4) (application_four : length application ≡ 4) (link : Link) where
    abbrev OnlyHears : LinkHears → Type 0
    OnlyHears h = Only P h.says

    marker_says : (slot : ℕ) → Answering P → (state : State) → OnlyHears (hears_marker (Answer serial application protocol_info) slot link state)
    marker_says slot all Off = tt
    marker_says slot all Idle = tt
    marker_says slot all (Requested own) = either OnlyHears (eqb own slot) (all serial application protocol_info serial_four application_four refl) tt
    marker_says slot all Declared = tt
    marker_says slot all Halted = tt
    marker_says slot all Active = tt

    link_says : (frame : Heard) → ToFrame P frame → OnlyHears (link_hears serial application frame link)
    link_says (Request family wake_up slots) all =
        let answer = all serial application protocol_info serial_four application_four refl in
        let drawn_says = either (Only P) (eqb (drawn link.draw (slot_count slots)).0 1) answer tt in
        let requested_says = either OnlyHears (eqb (slot_count slots) 1) answer drawn_says in
        either OnlyHears (listens link.state wake_up) (either OnlyHears (leb family 1) requested_says tt) tt
    link_says (SlotMarker slot) all = marker_says slot all link.state
    link_says (Attrib named params inf) card = either OnlyHears (is_declared link.state && bytes_eq named serial) card tt
    link_says (Halt named) done = either OnlyHears (is_declared link.state && bytes_eq named serial) done tt
    link_says (Command op cid address bytes) all = tt

  abbrev OnlyReacts : {M : Type 0} → Reaction M → Type 0
  OnlyReacts r = Only P r.says

  -- a kind says what its link and its data commands say
  module _ {H : Type 0} (obeys : Op → ℕ → List ℕ → Meaning Shown H → Reaction (Meaning Shown H)) (m : Meaning Shown H) (two_pages : 16 ≤ length m.shown.pages) where
    shown_says : (frame : Heard) → ToFrame P frame → OnlyReacts (by_link (link_of frame m) m)
    shown_says =
        link_says (serial_in m.shown.pages) (application_in m.shown.pages) (simp length-take (omega arith))
        (simp (length-take, length-drop) (omega arith)) m.shown.link

    reacts_say : ((op : Op) (page : ℕ) (bytes : List ℕ) → page < 32 → ToCommand P op → OnlyReacts (obeys op page bytes m))
        → (frame : Heard) → ToFrame P frame → OnlyReacts (reacts_by obeys frame m)
    reacts_say each (Request family wake_up slots) all = shown_says (Request family wake_up slots) all
    reacts_say each (SlotMarker slot) all = shown_says (SlotMarker slot) all
    reacts_say each (Attrib serial params inf) all = shown_says (Attrib serial params inf) all
    reacts_say each (Halt serial) all = shown_says (Halt serial) all
    reacts_say each (Command op cid address bytes) all =
        either OnlyReacts (answers_to cid m.shown.link) (each op (address % 32) bytes (omega arith) all) tt

  -- the pump tag
  module _ (m : PumpMeaning) (sized : PumpSized m) where
    pump_obeys_lem : (op : Op) (page : ℕ) (bytes : List ℕ) → page < 32 → ToCommand P op → OnlyReacts (pump_obeys op page bytes m)
    pump_obeys_lem Read page bytes below all =
        either OnlyReacts (ever_read (reading_of page))
        (either OnlyReacts (read_now (reading_of page) m.opened) (all.0 (page_of page m) (page_long m sized page below)) (all.1 0x41 refl))
        (all.1 0x21 refl)
    pump_obeys_lem Write page bytes below all =
        either OnlyReacts m.opened
        (either OnlyReacts (by_write (writing_of page)) (either OnlyReacts (unlocked page (page_of 0 m)) all.0 (all.1 0x11 refl)) (all.1 0x21 refl))
        (all.1 0x41 refl)
    pump_obeys_lem Lock page bytes below all = either OnlyReacts m.opened all.0 (all.1 0x41 refl)
    pump_obeys_lem CheckPassword page bytes below all = either OnlyReacts (passes bytes m) all.0 (all.1 0x41 refl)
    pump_obeys_lem Deselect page bytes below done = done
    pump_obeys_lem Count page bytes below all =
        either OnlyReacts m.opened
        (either OnlyReacts (unlocked 2 (page_of 0 m))
        (either OnlyReacts (ltb (counter_in (page_of 2 m)) 0x8000) all.0 (all.1 0x21 refl))
        (all.1 0x11 refl))
        (all.1 0x41 refl)

    pub pump_says : (frame : Heard) → ToFrame P frame → Only P (reacts_by pump_obeys frame m).says
    pump_says = reacts_say pump_obeys m (omega arith) pump_obeys_lem

  -- the gauge tag
  module _ (m : GaugeMeaning) (sized : GaugeSized m) where
    gauge_obeys_lem : (op : Op) (page : ℕ) (bytes : List ℕ) → page < 32 → ToCommand P op → OnlyReacts (gauge_obeys op page bytes m)
    gauge_obeys_lem Read page bytes below all =
        cond_both (ltb page 2) _ _ OnlyReacts
        (λ t. let low = ltb-true page 2 t in all.0 (page_at page m.shown.pages) (length_page page m.shown.pages (omega arith)))
        (λ t. all.1 0x21 refl)
    gauge_obeys_lem Write page bytes below all = tt
    gauge_obeys_lem Lock page bytes below all = tt
    gauge_obeys_lem CheckPassword page bytes below all = tt
    gauge_obeys_lem Deselect page bytes below done = done
    gauge_obeys_lem Count page bytes below all = tt

    pub gauge_says : (frame : Heard) → ToFrame P frame → Only P (reacts_by gauge_obeys frame m).says
    gauge_says = reacts_say gauge_obeys m (omega arith) gauge_obeys_lem
