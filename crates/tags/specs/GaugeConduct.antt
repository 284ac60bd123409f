-- How a gauge tag conducts itself: laws above the definitions, as Conduct.antt has of a pump tag.
use Rattle.std.specs.Prelude.{◌≡◌, ◌≢◌, ℕ, ◌*◌, ◌<◌, ◌≤◌, false, List, [], ◌∷◌, replicate, Some}
use Rattle.typeb.specs.CheckBytes.{sealed}
use Rattle.typeb.specs.declared.frames.Op.{Op}
use Rattle.typeb.specs.declared.frames.Op.TheVariants.{Read, Deselect}
use Rattle.tags.specs.declared.link.State.TheVariants.{Off}
use Rattle.tags.specs.Conduct.{answers_all, LinkStays}
use Rattle.tags.specs.Gauge.{GaugeMeaning, gauge_acts, gauge_obeys, GaugeSized}
use Rattle.tags.specs.LinkLaws.{LinkLaws}
use Rattle.tags.specs.GoesBy.{GoesBy}
use Rattle.tags.specs.DataLaws.{Deselects, eight_from}
use Rattle.tags.specs.MakingLaws.{GaugeMaking}
use Rattle.kinds.specs.Reacts.{Reaction, unmoved}
use Rattle.kinds.specs.Says.{Page, Refused}

-- A gauge just made, of serial number 11223344, draw number 0xE123 and these bytes on its page 1.
abbrev pub gauge_image : List ℕ
gauge_image = 0x11 ∷ 0x22 ∷ 0x33 ∷ 0x44 ∷ 0 ∷ 0 ∷ 0 ∷ 0 ∷ 0xA1 ∷ 0xA2 ∷ 0xA3 ∷ 0xA4 ∷ 0xB1 ∷ 0xB2 ∷ 0xB3 ∷ 0xB4 ∷ []

abbrev pub gauge_new : GaugeMeaning
gauge_new = record { shown = record { link = record { state = Off; cid = 0; draw = 0xE123 }; pages = gauge_image }; hidden = tt; opened = false }

-- READ gives the eight bytes of pages 0 and 1, refuses every other page, and changes nothing.
pub record GaugeReads (page : ℕ) (m : GaugeMeaning) (r : Reaction GaugeMeaning) : Type 0 where
  pub given : page < 2 → r.says ≡ Some (Page (eight_from (8 * page) m.shown.pages))
  pub refused : 2 ≤ page → r.says ≡ Some (Refused 0x21)
  pub after : r.after ≡ m

-- Each page of 32, and all data. Of the data commands but READ and DESELECT none is heard.
pub record GaugeLaws (page : ℕ) (bytes : List ℕ) (m : GaugeMeaning) : Type 0 where
  pub reads : GaugeReads page m (gauge_obeys Read page bytes m)
  pub deselects : Deselects m (gauge_obeys Deselect page bytes m)
  pub unheard : (op : Op) → (op ≢ Read) → (op ≢ Deselect) → gauge_obeys op page bytes m ≡ unmoved m

abbrev pub GaugeObeyed : Type 0
GaugeObeyed = (page : ℕ) (bytes : List ℕ) (m : GaugeMeaning) → GaugeSized m → GaugeLaws page bytes m

-- No frame changes its pages, opens it, or is an accepted check.
pub record GaugeKeeps (frame : List ℕ) (m : GaugeMeaning) : Type 0 where
  pub pages : (gauge_acts.hears frame m).after.shown.pages ≡ m.shown.pages
  pub opened : (gauge_acts.hears frame m).after.opened ≡ m.opened
  pub accepted : (gauge_acts.hears frame m).accepted ≡ false

-- A worked conversation with that gauge, which has just gained power: REQB of 16 slots draws slot 15, whose marker brings ATQB; ATTRIB
-- gives card number 5; pages 0 and 1 are read, the latter at address 33, and page 2 refused; WRITE, LOCK, CHECK PASSWORD and
-- COUNT meet silence, as does READ for card 6; page 1 is as it was; DESELECT halts, and WUPB wakes.
abbrev pub told_gauge : List (List ℕ)
told_gauge =
    sealed (0x05 ∷ 0x00 ∷ 0x04 ∷ [])
    ∷ sealed (0xE5 ∷ [])
    ∷ sealed (0x1D ∷ 0x11 ∷ 0x22 ∷ 0x33 ∷ 0x44 ∷ 0 ∷ 0 ∷ 0 ∷ 5 ∷ [])
    ∷ sealed (0x45 ∷ 0 ∷ replicate 8 0)
    ∷ sealed (0x45 ∷ 33 ∷ replicate 8 0)
    ∷ sealed (0x45 ∷ 2 ∷ replicate 8 0)
    ∷ sealed (0x35 ∷ 1 ∷ replicate 8 9)
    ∷ sealed (0x25 ∷ 0 ∷ replicate 8 9)
    ∷ sealed (0x65 ∷ 0 ∷ replicate 8 0)
    ∷ sealed (0xE5 ∷ 0 ∷ replicate 8 9)
    ∷ sealed (0x46 ∷ 1 ∷ replicate 8 0)
    ∷ sealed (0x45 ∷ 1 ∷ replicate 8 0)
    ∷ sealed (0xA5 ∷ 0 ∷ replicate 8 0)
    ∷ sealed (0x45 ∷ 1 ∷ replicate 8 0)
    ∷ sealed (0x05 ∷ 0x00 ∷ 0x08 ∷ [])
    ∷ []

abbrev pub gauge_atqb : List ℕ
gauge_atqb = 0x50 ∷ 0x11 ∷ 0x22 ∷ 0x33 ∷ 0x44 ∷ 0xA1 ∷ 0xA2 ∷ 0xA3 ∷ 0xA4 ∷ 0x00 ∷ 0x00 ∷ 0x41 ∷ 0x47 ∷ 0xD9 ∷ []

abbrev pub gauge_page_one : List ℕ
gauge_page_one = 0x45 ∷ 0x01 ∷ 0xA1 ∷ 0xA2 ∷ 0xA3 ∷ 0xA4 ∷ 0xB1 ∷ 0xB2 ∷ 0xB3 ∷ 0xB4 ∷ 0xD2 ∷ 0x27 ∷ []

abbrev pub gauge_replies : List (List ℕ)
gauge_replies =
    []
    ∷ gauge_atqb
    ∷ (0x05 ∷ 0xD5 ∷ 0xA7 ∷ [])
    ∷ (0x45 ∷ 0x00 ∷ 0x11 ∷ 0x22 ∷ 0x33 ∷ 0x44 ∷ 0 ∷ 0 ∷ 0 ∷ 0 ∷ 0xD8 ∷ 0x07 ∷ [])
    ∷ gauge_page_one
    ∷ (0x45 ∷ 0x21 ∷ 0x12 ∷ 0x07 ∷ [])
    ∷ []
    ∷ []
    ∷ []
    ∷ []
    ∷ []
    ∷ gauge_page_one
    ∷ (0xA5 ∷ 0x00 ∷ 0x00 ∷ 0xDE ∷ [])
    ∷ []
    ∷ gauge_atqb
    ∷ []

-- All of these.
pub record GaugeConduct : Type 0 where
  pub making : (image : List ℕ) (draw : ℕ) → GaugeMaking image draw
  pub data_obeyed : GaugeObeyed
  pub keeps : (frame : List ℕ) (m : GaugeMeaning) → GaugeKeeps frame m
  pub link : LinkLaws gauge_obeys
  pub goes_by : GoesBy gauge_obeys
  pub link_stays : LinkStays gauge_obeys
  pub conversation : answers_all gauge_acts (gauge_acts.gains gauge_new) told_gauge ≡ gauge_replies
