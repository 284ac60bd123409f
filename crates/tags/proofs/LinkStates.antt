-- What the link does in each state: who hears a request, a marker, and the rest.
use Rattle.std.proofs.Common.{◌≡◌, ℕ, Bool, true, false, not, eqb, List, sym, refl, ap, ◌∙◌}
use Rattle.std.proofs.lemmas.Bool.{cond-false, false≢true, ne_eqb, eq-eqb}
use Rattle.typeb.specs.declared.frames.Op.{Op}
use Rattle.typeb.specs.declared.frames.Slots.{Slots}
use Rattle.typeb.specs.Hears.{Request, SlotMarker, Command}
use Rattle.tags.specs.declared.link.Link.{Link}
use Rattle.tags.specs.declared.link.State.{State}
use Rattle.tags.specs.declared.link.State.TheVariants.{Off, Idle, Requested, Declared, Halted, Active}
use Rattle.kinds.specs.Says.{Says}
use Rattle.tags.specs.Links.{hears_marker, dismissed, listens, powered, is_off, is_declared, is_active}
use Rattle.tags.specs.Links as links
use Rattle.tags.specs.LinkLaws.{passes_by, not_declared}

-- a request is listened to where it does not pass by; so are the others
pub listens_is : (family : ℕ) (wake_up : Bool) (slots : Slots) (s : State)
    → listens s wake_up ≡ not (passes_by (Request family wake_up slots) s)
listens_is family wake_up slots Off = refl
listens_is family wake_up slots Idle = refl
listens_is family wake_up slots (Requested slot) = refl
listens_is family wake_up slots Declared = refl
listens_is family true slots Halted = refl
listens_is family false slots Halted = refl
listens_is family wake_up slots Active = refl

pub declared_is : (s : State) → is_declared s ≡ not (not_declared s)
declared_is Off = refl
declared_is Idle = refl
declared_is (Requested slot) = refl
declared_is Declared = refl
declared_is Halted = refl
declared_is Active = refl

pub active_is : (op : Op) (cid address : ℕ) (bytes : List ℕ) (s : State)
    → is_active s ≡ not (passes_by (Command op cid address bytes) s)
active_is op cid address bytes Off = refl
active_is op cid address bytes Idle = refl
active_is op cid address bytes (Requested slot) = refl
active_is op cid address bytes Declared = refl
active_is op cid address bytes Halted = refl
active_is op cid address bytes Active = refl

-- a marker that passes by is not that of the slot that is waited for, and another is not answered
pub other_waits : (slot : ℕ) (s : State) → passes_by (SlotMarker slot) s ≡ true → s ≡ Requested slot → ⊥
other_waits slot s h e =
    false≢true (sym (ap not (eq-eqb slot slot refl)) ∙ sym (ap (passes_by (SlotMarker slot)) e) ∙ h)

pub not_its_slot : (answer : Says) (slot : ℕ) (link : Link) (s : State) → (s ≡ Requested slot → ⊥) → hears_marker answer slot link s ≡ links.unmoved link
not_its_slot answer slot link Off h = refl
not_its_slot answer slot link Idle h = refl
not_its_slot answer slot link (Requested own) h = cond-false (eqb own slot) _ _ (ne_eqb own slot (λ e. h (ap Requested e)))
not_its_slot answer slot link Declared h = refl
not_its_slot answer slot link Halted h = refl
not_its_slot answer slot link Active h = refl

-- a request to another family dismisses, power stays where it is
pub dismissed_idle : (s : State) → (s ≡ Halted → ⊥) → dismissed s ≡ Idle
dismissed_idle Off h = refl
dismissed_idle Idle h = refl
dismissed_idle (Requested slot) h = refl
dismissed_idle Declared h = refl
dismissed_idle Halted h = absurd (h refl)
dismissed_idle Active h = refl

pub stays_on : (s : State) → (s ≡ Off → ⊥) → powered s ≡ s
stays_on Off h = absurd (h refl)
stays_on Idle h = refl
stays_on (Requested slot) h = refl
stays_on Declared h = refl
stays_on Halted h = refl
stays_on Active h = refl

-- a tag that has gained power is not off
pub has_power : (s : State) → is_off (powered s) ≡ false
has_power Off = refl
has_power Idle = refl
has_power (Requested slot) = refl
has_power Declared = refl
has_power Halted = refl
has_power Active = refl
