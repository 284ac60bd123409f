-- The gauge tag: the same states, two pages, nothing hidden.
use Rattle.std.specs.Prelude.{◌≡◌, ℕ, false, cond, List, length, nat_lt}
use Rattle.typeb.specs.declared.frames.Op.{Op}
use Rattle.typeb.specs.declared.frames.Op.TheVariants.{Read, Write, Lock, CheckPassword, Deselect, Count}
use Rattle.tags.specs.declared.gauge.GaugePages.{GaugePages}
use Rattle.tags.specs.declared.linked.Linked.{Linked}
use Rattle.kinds.specs.Kinds.{Meaning, Behaviour}
use Rattle.kinds.specs.Says.{Page, Refused}
use Rattle.tags.specs.Common.{Shown, Contents, deselects, acts_by}
use Rattle.tags.specs.Holding.{tag_of}
use Rattle.tags.specs.Pages.{page_at}
use Rattle.kinds.specs.Reacts.{Reaction, unmoved, replies}

-- A gauge shows both of its pages and hides nothing.
abbrev pub GaugeMeaning : Type 0
GaugeMeaning = Meaning Shown (Unit {0})

-- It is never open.
abbrev pub gauge_holds : GaugePages → Contents (Unit {0})
gauge_holds p = record { pages = p.memory; hidden = tt; opened = false }

abbrev pub gauge_means : Linked GaugePages → GaugeMeaning
gauge_means tag = tag_of gauge_holds tag

-- A gauge has 16 bytes in its two pages.
abbrev pub GaugeSized : GaugeMeaning → Type 0
GaugeSized m = length m.shown.pages ≡ 16

-- READ of another page than 0 and 1 is refused.
abbrev pub gauge_reads : ℕ → GaugeMeaning → Reaction GaugeMeaning
gauge_reads page m = cond (nat_lt page 2) (replies m (Page (page_at page m.shown.pages))) (replies m (Refused 0x21))

-- Of the data commands a gauge hears READ and DESELECT alone.
abbrev pub gauge_obeys : Op → ℕ → List ℕ → GaugeMeaning → Reaction GaugeMeaning
gauge_obeys Read page bytes m = gauge_reads page m
gauge_obeys Write page bytes m = unmoved m
gauge_obeys Lock page bytes m = unmoved m
gauge_obeys CheckPassword page bytes m = unmoved m
gauge_obeys Deselect page bytes m = deselects m
gauge_obeys Count page bytes m = unmoved m

abbrev pub gauge_acts : Behaviour Shown (Unit {0})
gauge_acts = acts_by gauge_obeys
