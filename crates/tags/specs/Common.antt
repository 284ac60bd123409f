-- What both kinds do alike, whatever they hide: power, frames for the link, and which data commands are obeyed.
use Rattle.std.specs.Prelude.{ℕ, ◌%◌, Bool, false, cond, List}
use Rattle.typeb.specs.declared.frames.Op.{Op}
use Rattle.typeb.specs.Hears.{Heard, Request, SlotMarker, Attrib, Halt, Command}
use Rattle.tags.specs.declared.link.Link.{Link}
use Rattle.kinds.specs.Kinds.{Meaning, Behaviour}
use Rattle.kinds.specs.Says.{Acknowledged}
use Rattle.tags.specs.Links.{gains_link, loses_link, is_off, link_hears, LinkHears, answers_to, deselected}
use Rattle.tags.specs.Pages.{serial_in, application_in}
use Rattle.kinds.specs.Reacts.{Reaction, unmoved, replies, hears_by}

-- What a tag shows: its state with the drawn slot, card number and draw number, and the pages that anyone may read.
pub record Shown : Type 0 where
  pub link : Link
  pub pages : List ℕ

-- What a tag holds beside its link: the pages that anyone may read, what it hides, and whether it is open.
pub record Contents (H : Type 0) : Type 0 where
  pub pages : List ℕ
  pub hidden : H
  pub opened : Bool

abbrev pub tag_by : {H : Type 0} → Link → Contents H → Meaning Shown H
tag_by link c = record { shown = record { link = link; pages = c.pages }; hidden = c.hidden; opened = c.opened }

abbrev pub is_off_tag : Shown → Bool
is_off_tag shown = is_off shown.link.state

module _ {H : Type 0} where
  -- A tag with one part replaced.
  abbrev pub with_link : Link → Meaning Shown H → Meaning Shown H
  with_link link m =
      record { shown = record { link = link; pages = m.shown.pages }; hidden = m.hidden; opened = m.opened }

  abbrev pub with_opened : Bool → Meaning Shown H → Meaning Shown H
  with_opened opened m = record { shown = m.shown; hidden = m.hidden; opened = opened }

  -- A frame for the link: requests, slot markers, ATTRIB and HLTB.
  abbrev pub link_of : Heard → Meaning Shown H → LinkHears
  link_of frame m = link_hears (serial_in m.shown.pages) (application_in m.shown.pages) frame m.shown.link

  abbrev pub by_link : LinkHears → Meaning Shown H → Reaction (Meaning Shown H)
  by_link h m = record { after = with_link h.after m; says = h.says; accepted = false }

  -- DESELECT: acknowledged, and halted. It closes nothing.
  abbrev pub deselects : Meaning Shown H → Reaction (Meaning Shown H)
  deselects m = replies (with_link (deselected m.shown.link) m) Acknowledged

  -- How a kind obeys the data commands, given the page that the address names, makes how it reacts to every frame:
  -- active obeys those with its card number.
  abbrev pub reacts_by : (Op → ℕ → List ℕ → Meaning Shown H → Reaction (Meaning Shown H)) → Heard → Meaning Shown H → Reaction (Meaning Shown H)
  reacts_by obeys (Request family wake_up slots) m = by_link (link_of (Request family wake_up slots) m) m
  reacts_by obeys (SlotMarker slot) m = by_link (link_of (SlotMarker slot) m) m
  reacts_by obeys (Attrib serial params inf) m = by_link (link_of (Attrib serial params inf) m) m
  reacts_by obeys (Halt serial) m = by_link (link_of (Halt serial) m) m
  reacts_by obeys (Command op cid address bytes) m =
      cond (answers_to cid m.shown.link) (obeys op (address % 32) bytes m) (unmoved m)

  -- Losing power closes a tag.
  abbrev pub acts_by : (Op → ℕ → List ℕ → Meaning Shown H → Reaction (Meaning Shown H)) → Behaviour Shown H
  acts_by obeys =
      record {
        gains = λ m. with_link (gains_link m.shown.link) m;
        loses = λ m. with_opened false (with_link (loses_link m.shown.link) m);
        hears = hears_by (reacts_by obeys);
      }
