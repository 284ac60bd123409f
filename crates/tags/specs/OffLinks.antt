-- No frame moves the link of an off tag.
use Rattle.std.specs.Prelude.{◌≡◌, ℕ, true, false, ◌&&◌, List, ◌==◌, refl}
use Rattle.std.proofs.Common.{ap}
use Rattle.std.specs.Str.{bytes_eq}
use Rattle.std.proofs.lemmas.Bool.{false≢true, cond-false}
use Rattle.typeb.specs.Hears.{Heard, Request, SlotMarker, Attrib, Halt, Command}
use Rattle.kinds.specs.Says.{Answer, protocol_info}
use Rattle.tags.specs.declared.link.Link.{Link}
use Rattle.tags.specs.declared.link.State.{State}
use Rattle.tags.specs.declared.link.State.TheVariants.{Off, Idle, Requested, Declared, Halted, Active}
use Rattle.tags.specs.Links.{is_off, is_declared, is_active, answers_to, listens, link_hears, hears_marker}
use Rattle.tags.specs.Links as links

-- no frame moves the link of an off tag
off_state : (s : State) → is_off s ≡ true → s ≡ Off
off_state Off h = refl
off_state Idle h = absurd (false≢true h)
off_state (Requested slot) h = absurd (false≢true h)
off_state Declared h = absurd (false≢true h)
off_state Halted h = absurd (false≢true h)
off_state Active h = absurd (false≢true h)

pub off_link : (serial application : List ℕ) (frame : Heard) (link : Link) → is_off link.state ≡ true → link_hears serial application frame link ≡ links.unmoved link
off_link serial application (Request family wake_up slots) link h = cond-false (listens link.state wake_up) _ _ (ap (λ (s : State). listens s wake_up) (off_state link.state h))
off_link serial application (SlotMarker slot) link h = ap (hears_marker (Answer serial application protocol_info) slot link) (off_state link.state h)
off_link serial application (Attrib named params inf) link h = cond-false (is_declared link.state && bytes_eq named serial) _ _ (ap (λ (s : State). is_declared s && bytes_eq named serial) (off_state link.state h))
off_link serial application (Halt named) link h = cond-false (is_declared link.state && bytes_eq named serial) _ _ (ap (λ (s : State). is_declared s && bytes_eq named serial) (off_state link.state h))
off_link serial application (Command op cid address bytes) link h = refl

pub off_answers : (cid : ℕ) (link : Link) → is_off link.state ≡ true → answers_to cid link ≡ false
off_answers cid link h = ap (λ (s : State). is_active s && cid == link.cid) (off_state link.state h)
