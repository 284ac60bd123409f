-- No frame turns a tag on or off: an off tag hears nothing, and no frame leads to off.
use Rattle.std.proofs.Common.{◌≡◌, ℕ, ◌%◌, Bool, true, false, cond, ◌&&◌, eqb, leb, List, Some, None, Option, sym, refl, ap, ◌∙◌, ⊎_elim}
use Rattle.std.specs.Str.{bytes_eq}
use Rattle.std.proofs.lemmas.Bool.{cond_both, cases_Bool}
use Rattle.typeb.specs.declared.frames.Op.{Op}
use Rattle.typeb.specs.declared.frames.Op.TheVariants.{Read, Write, Lock, CheckPassword, Deselect, Count}
use Rattle.typeb.specs.Hears.{Heard, Request, SlotMarker, Attrib, Halt, Command, heard, slot_count}
use Rattle.tags.specs.declared.link.Link.{Link}
use Rattle.tags.specs.declared.link.State.{State}
use Rattle.tags.specs.declared.link.State.TheVariants.{Off, Idle, Requested, Declared, Halted, Active}
use Rattle.tags.specs.Common.{is_off_tag, reacts_by, with_opened}
use Rattle.tags.specs.Links.{LinkHears, link_hears, hears_marker, listens, dismissed, requested, drawn, is_off, is_declared, answers_to}
use Rattle.tags.specs.Pages.{serial_in, application_in}
use Rattle.tags.specs.Pump.{PumpMeaning, pump_acts, pump_obeys, passes}
use Rattle.kinds.specs.Reacts.{Reaction, answered, unmoved, replies}
use Rattle.kinds.specs.Says.{Says, Answer, Acknowledged, Refused, protocol_info}
use Rattle.tags.proofs.Asked.{after_read, after_write, after_lock, after_count}
use Rattle.tags.specs.OffLinks.{off_link, off_answers}

abbrev OnIs : LinkHears → Type 0
OnIs h = is_off h.after.state ≡ false

dismissed_on : (s : State) → is_off (dismissed s) ≡ false
dismissed_on Off = refl
dismissed_on Idle = refl
dismissed_on (Requested slot) = refl
dismissed_on Declared = refl
dismissed_on Halted = refl
dismissed_on Active = refl

drawn_on : (first : Bool) (slot : ℕ) → is_off (cond first Declared (Requested slot)) ≡ false
drawn_on true slot = refl
drawn_on false slot = refl

requested_on : (answer : Says) (n : ℕ) (link : Link) → OnIs (requested answer n link)
requested_on answer n link = cond_both (eqb n 1) _ _ OnIs (λ _. refl) (λ _. drawn_on (eqb (drawn link.draw n).0 1) (drawn link.draw n).0)

marker_on : (answer : Says) (slot : ℕ) (link : Link) (s : State) → is_off link.state ≡ false → OnIs (hears_marker answer slot link s)
marker_on answer slot link Off h = h
marker_on answer slot link Idle h = h
marker_on answer slot link (Requested own) h = cond_both (eqb own slot) _ _ OnIs (λ _. refl) (λ _. h)
marker_on answer slot link Declared h = h
marker_on answer slot link Halted h = h
marker_on answer slot link Active h = h

-- a link with power keeps it
link_on : (serial application : List ℕ) (frame : Heard) (link : Link) → is_off link.state ≡ false → OnIs (link_hears serial application frame link)
link_on serial application (Request family wake_up slots) link h =
    cond_both (listens link.state wake_up) _ _ OnIs
    (λ _. cond_both (leb family 1) _ _ OnIs (λ _. requested_on (Answer serial application protocol_info) (slot_count slots) link) (λ _. dismissed_on link.state))
    (λ _. h)
link_on serial application (SlotMarker slot) link h = marker_on (Answer serial application protocol_info) slot link link.state h
link_on serial application (Attrib named params inf) link h = cond_both (is_declared link.state && bytes_eq named serial) _ _ OnIs (λ _. refl) (λ _. h)
link_on serial application (Halt named) link h = cond_both (is_declared link.state && bytes_eq named serial) _ _ OnIs (λ _. refl) (λ _. h)
link_on serial application (Command op cid address bytes) link h = h

-- a link without power has none after a frame either
link_keeps : (serial application : List ℕ) (frame : Heard) (link : Link) → is_off (link_hears serial application frame link).after.state ≡ is_off link.state
link_keeps serial application frame link =
    ⊎_elim
    (λ (o : is_off link.state ≡ true). ap (λ (h : LinkHears). is_off h.after.state) (off_link serial application frame link o))
    (λ (o : is_off link.state ≡ false). link_on serial application frame link o ∙ sym o)
    (cases_Bool (is_off link.state))

-- a tag that obeys a command has power
abbrev AsOn : PumpMeaning → PumpMeaning → Type 0
AsOn m n = is_off_tag n.shown ≡ is_off_tag m.shown

checks_on : (test : Bool) (m : PumpMeaning)
    → AsOn m (cond test (record { after = with_opened true m; says = Some Acknowledged; accepted = true }) (replies (with_opened false m) (Refused 0x41))).after
checks_on true m = refl
checks_on false m = refl

obeys_on : (op : Op) (page : ℕ) (bytes : List ℕ) (m : PumpMeaning) → is_off_tag m.shown ≡ false → AsOn m (pump_obeys op page bytes m).after
obeys_on Read page bytes m h = after_read (AsOn m) m refl (λ p b. refl) page
obeys_on Write page bytes m h = after_write (AsOn m) m refl (λ p b. refl) page bytes
obeys_on Lock page bytes m h = after_lock (AsOn m) m refl (λ p b. refl) bytes
obeys_on CheckPassword page bytes m h = checks_on (passes bytes m) m
obeys_on Deselect page bytes m h = sym h
obeys_on Count page bytes m h = after_count (AsOn m) m refl (λ p b. refl) bytes

command_on : (op : Op) (cid address : ℕ) (bytes : List ℕ) (m : PumpMeaning) → AsOn m (cond (answers_to cid m.shown.link) (pump_obeys op (address % 32) bytes m) (unmoved m)).after
command_on op cid address bytes m =
    ⊎_elim
    (λ (o : is_off_tag m.shown ≡ true). ap (λ (b : Bool). is_off_tag (cond b (pump_obeys op (address % 32) bytes m) (unmoved m)).after.shown) (off_answers cid m.shown.link o))
    (λ (o : is_off_tag m.shown ≡ false). cond_both (answers_to cid m.shown.link) _ _ (λ (r : Reaction PumpMeaning). AsOn m r.after) (λ _. obeys_on op (address % 32) bytes m o) (λ _. refl))
    (cases_Bool (is_off_tag m.shown))

step_on : (o : Option Heard) (m : PumpMeaning) → AsOn m (answered (reacts_by pump_obeys) m o).after
step_on (Some (Request family wake_up slots)) m = link_keeps _ _ (Request family wake_up slots) m.shown.link
step_on (Some (SlotMarker slot)) m = link_keeps (serial_in m.shown.pages) (application_in m.shown.pages) (SlotMarker slot) m.shown.link
step_on (Some (Attrib serial params inf)) m = link_keeps (serial_in m.shown.pages) (application_in m.shown.pages) (Attrib serial params inf) m.shown.link
step_on (Some (Halt serial)) m = link_keeps (serial_in m.shown.pages) (application_in m.shown.pages) (Halt serial) m.shown.link
step_on (Some (Command op cid address bytes)) m = command_on op cid address bytes m
step_on None m = refl

pub keeps_power : (frame : List ℕ) (m : PumpMeaning) → AsOn m (pump_acts.hears frame m).after
keeps_power frame m = step_on (heard frame) m
