-- How a gauge tag conducts itself.
use Rattle.std.proofs.Common.{◌≡◌, ℕ, ◌%◌, true, false, Bool, List, Some, None, Option, cond, ltb, refl, ap, ◌∙◌, arith}
use Rattle.std.proofs.lemmas.Bool.{lt-ltb, le-ltb, cond-true, cond-false}
use Rattle.std.proofs.lemmas.List.{length-take, length-drop}
use Rattle.typeb.specs.declared.frames.Op.{Op}
use Rattle.typeb.specs.declared.frames.Op.TheVariants.{Read, Write, Lock, CheckPassword, Deselect, Count}
use Rattle.typeb.specs.CheckBytes.{fold_bit, fold_bits, fold_byte, check_bytes, sound}
use Rattle.typeb.specs.Hears.{Heard, Request, SlotMarker, Attrib, Halt, Command, heard}
use Rattle.tags.specs.Common.{reacts_by}
use Rattle.tags.specs.Conduct.{answers_all, LinkStays}
use Rattle.tags.specs.Gauge.{GaugeMeaning, gauge_acts, gauge_obeys}
use Rattle.tags.proofs.LinkLawful.{link_laws}
use Rattle.tags.proofs.GoingBy.{gauge_goes_by}
use Rattle.tags.specs.GaugeConduct.{GaugeConduct, GaugeKeeps, gauge_new, told_gauge, gauge_replies, GaugeObeyed}
use Rattle.tags.specs.Links.{answers_to}
use Rattle.tags.specs.Pages.{page_at}
use Rattle.kinds.specs.Reacts.{Reaction, answered, unmoved, replies}
use Rattle.kinds.specs.Says.{Says, Page, Refused}
use Rattle.tags.proofs.Bytes.{eight_page}
use Rattle.tags.proofs.Makings.{gauge_making}

-- a gauge as it was, but for its link
abbrev Keeps : GaugeMeaning → Reaction GaugeMeaning → Type 0
Keeps m r = (r.after.shown.pages ≡ m.shown.pages) × (r.after.opened ≡ m.opened) × (r.accepted ≡ false)

either : (test : Bool) (m : GaugeMeaning) (r q : Reaction GaugeMeaning) → Keeps m r → Keeps m q → Keeps m (cond test r q)
either true m r q a b = a
either false m r q a b = b

obeyed : (op : Op) (page : ℕ) (bytes : List ℕ) (m : GaugeMeaning) → Keeps m (gauge_obeys op page bytes m)
obeyed Read page bytes m = either (ltb page 2) m _ _ (refl, refl, refl) (refl, refl, refl)
obeyed Write page bytes m = (refl, refl, refl)
obeyed Lock page bytes m = (refl, refl, refl)
obeyed CheckPassword page bytes m = (refl, refl, refl)
obeyed Deselect page bytes m = (refl, refl, refl)
obeyed Count page bytes m = (refl, refl, refl)

step : (o : Option Heard) (m : GaugeMeaning)
    → ((answered (reacts_by gauge_obeys) m o).after.shown.pages ≡ m.shown.pages) × ((answered (reacts_by gauge_obeys) m o).after.opened ≡ m.opened) × ((answered (reacts_by gauge_obeys) m o).accepted ≡ false)
step (Some (Request family wake_up slots)) m = (refl, refl, refl)
step (Some (SlotMarker slot)) m = (refl, refl, refl)
step (Some (Attrib serial params inf)) m = (refl, refl, refl)
step (Some (Halt serial)) m = (refl, refl, refl)
step (Some (Command op cid address bytes)) m = either (answers_to cid m.shown.link) m _ (unmoved m) (obeyed op (address % 32) bytes m) (refl, refl, refl)
step None m = (refl, refl, refl)

keeps : (frame : List ℕ) (m : GaugeMeaning) → GaugeKeeps frame m
keeps frame m =
    let kept = step (heard frame) m in
    record { pages = kept.0; opened = kept.1; accepted = kept.2 }

read_stays : (test : Bool) (m : GaugeMeaning) (says other : Says) → (cond test (replies m says) (replies m other)).after.shown.link ≡ m.shown.link
read_stays true m says other = refl
read_stays false m says other = refl

link_stays : LinkStays gauge_obeys
link_stays Read page bytes m = read_stays (ltb page 2) m (Page (page_at page m.shown.pages)) (Refused 0x21)
link_stays Write page bytes m = refl
link_stays Lock page bytes m = refl
link_stays CheckPassword page bytes m = refl
link_stays Deselect page bytes m = refl
link_stays Count page bytes m = refl

read_after : (test : Bool) (m : GaugeMeaning) (says other : Says) → (cond test (replies m says) (replies m other)).after ≡ m
read_after true m says other = refl
read_after false m says other = refl

-- READ and the rest, over every page and all bytes
unheard : (page : ℕ) (bytes : List ℕ) (m : GaugeMeaning) (op : Op) → (op ≡ Read → ⊥) → (op ≡ Deselect → ⊥) → gauge_obeys op page bytes m ≡ unmoved m
unheard page bytes m Read no_read no_halt = absurd (no_read refl)
unheard page bytes m Write no_read no_halt = refl
unheard page bytes m Lock no_read no_halt = refl
unheard page bytes m CheckPassword no_read no_halt = refl
unheard page bytes m Deselect no_read no_halt = absurd (no_halt refl)
unheard page bytes m Count no_read no_halt = refl

data_obeyed : GaugeObeyed
data_obeyed page bytes m sized =
    let given : Reaction GaugeMeaning = replies m (Page (page_at page m.shown.pages)) in
    let refused : Reaction GaugeMeaning = replies m (Refused 0x21) in
    let says = λ (r : Reaction GaugeMeaning). r.says in
    record {
      reads =
          record {
            given = λ low.
                ap says (cond-true (ltb page 2) given refused (lt-ltb page 2 low))
                ∙ ap (λ (p : List ℕ). Some (Page p)) (eight_page page m.shown.pages (simp (length-take, length-drop) (omega arith)));
            refused = λ high. ap says (cond-false (ltb page 2) given refused (le-ltb page 2 high));
            after = read_after (ltb page 2) m (Page (page_at page m.shown.pages)) (Refused 0x21);
          };
      deselects = record { says = refl; pages = refl; hidden = refl };
      unheard = unheard page bytes m;
    }

conversation : answers_all gauge_acts (gauge_acts.gains gauge_new) told_gauge ≡ gauge_replies
unfolding fold_bit fold_bits fold_byte check_bytes sound heard
conversation = refl

pub conduct : GaugeConduct
conduct = record { making = gauge_making; data_obeyed = data_obeyed; keeps = keeps; link = link_laws gauge_obeys; goes_by = gauge_goes_by; link_stays = link_stays; conversation = conversation }
