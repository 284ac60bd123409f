-- The pump tag, AT88RF020: what it shows and hides, and what it does with every frame.
use Rattle.std.specs.Prelude.{◌≡◌, ℕ, ◌-◌, Bool, true, false, cond, not, ◌&&◌, List, length, take, drop, replicate, Some, nat_lt}
use Rattle.std.specs.Str.{bytes_eq}
use Rattle.typeb.specs.declared.frames.Op.{Op}
use Rattle.typeb.specs.declared.frames.Op.TheVariants.{Read, Write, Lock, CheckPassword, Deselect, Count}
use Rattle.tags.specs.declared.linked.Linked.{Linked}
use Rattle.tags.specs.declared.pump.PumpPages.{PumpPages}
use Rattle.kinds.specs.Kinds.{Meaning, Behaviour}
use Rattle.kinds.specs.Says.{Page, Acknowledged, Refused}
use Rattle.tags.specs.Common.{Shown, Contents, with_opened, deselects, acts_by}
use Rattle.tags.specs.Holding.{tag_of}
use Rattle.kinds.specs.Reacts.{Reaction, replies}
use Rattle.tags.specs.Pages.{page_at, put_page, unlocked, locked_by, counter_in, counted_by}
use Rattle.tags.specs.Rules.{reading_of, writing_of, ever_read, read_now, by_write}

-- A pump tag shows pages 0 to 2 and hides pages 3 to 31, in one list of bytes.
abbrev pub PumpMeaning : Type 0
PumpMeaning = Meaning Shown (List ℕ)

-- What a value of the code stands for: of its 256 bytes the first 24 are shown.
abbrev pub pump_holds : PumpPages → Contents (List ℕ)
pump_holds p = record { pages = take 24 p.memory; hidden = drop 24 p.memory; opened = p.opened }

abbrev pub pump_means : Linked PumpPages → PumpMeaning
pump_means tag = tag_of pump_holds tag

-- A pump tag has 24 bytes in pages 0 to 2 and 232 in pages 3 to 31.
pub record PumpSized (m : PumpMeaning) : Type 0 where
  pub shown : length m.shown.pages ≡ 24
  pub hidden : length m.hidden ≡ 232

-- A page of the 32, read and replaced.
abbrev pub page_of : ℕ → PumpMeaning → List ℕ
page_of n m = cond (nat_lt n 3) (page_at n m.shown.pages) (page_at (n - 3) m.hidden)

abbrev pub with_page : ℕ → List ℕ → PumpMeaning → PumpMeaning
with_page n page m =
    record {
      shown =
          record { link = m.shown.link; pages = cond (nat_lt n 3) (put_page n page m.shown.pages) m.shown.pages };
      hidden = cond (nat_lt n 3) m.hidden (put_page (n - 3) page m.hidden);
      opened = m.opened;
    }

-- A question that a command asks: where the answer is no, the tag refuses with a code and does not change.
abbrev pub asks : Bool → ℕ → PumpMeaning → Reaction PumpMeaning → Reaction PumpMeaning
asks passed code m go = cond passed go (replies m (Refused code))

-- The codes: 0x11 locked, 0x21 a page that cannot be used so or a counter at its end, 0x41 not open or a wrong password.
abbrev pub pump_reads : ℕ → PumpMeaning → Reaction PumpMeaning
pump_reads page m =
    asks (ever_read (reading_of page)) 0x21 m
    (asks (read_now (reading_of page) m.opened) 0x41 m
    (replies m (Page (page_of page m))))

abbrev pub pump_writes : ℕ → List ℕ → PumpMeaning → Reaction PumpMeaning
pump_writes page bytes m =
    asks m.opened 0x41 m
    (asks (by_write (writing_of page)) 0x21 m
    (asks (unlocked page (page_of 0 m)) 0x11 m
    (replies (with_page page bytes m) Acknowledged)))

abbrev pub pump_locks : List ℕ → PumpMeaning → Reaction PumpMeaning
pump_locks bytes m =
    asks m.opened 0x41 m
    (replies (with_page 0 (locked_by bytes (page_of 0 m)) m) Acknowledged)

-- The password of all ones opens nothing. A check that passes opens the tag; one that fails closes it.
abbrev pub passes : List ℕ → PumpMeaning → Bool
passes bytes m = not (bytes_eq bytes (replicate 8 0xFF)) && bytes_eq bytes (page_of 3 m)

abbrev pub pump_checks : List ℕ → PumpMeaning → Reaction PumpMeaning
pump_checks bytes m =
    cond (passes bytes m)
    (record { after = with_opened true m; says = Some Acknowledged; accepted = true })
    (replies (with_opened false m) (Refused 0x41))

abbrev pub pump_counts : List ℕ → PumpMeaning → Reaction PumpMeaning
pump_counts bytes m =
    asks m.opened 0x41 m
    (asks (unlocked 2 (page_of 0 m)) 0x11 m
    (asks (nat_lt (counter_in (page_of 2 m)) 0x8000) 0x21 m
    (replies (with_page 2 (counted_by bytes (page_of 2 m)) m) Acknowledged)))

abbrev pub pump_obeys : Op → ℕ → List ℕ → PumpMeaning → Reaction PumpMeaning
pump_obeys Read page bytes m = pump_reads page m
pump_obeys Write page bytes m = pump_writes page bytes m
pump_obeys Lock page bytes m = pump_locks bytes m
pump_obeys CheckPassword page bytes m = pump_checks bytes m
pump_obeys Deselect page bytes m = deselects m
pump_obeys Count page bytes m = pump_counts bytes m

abbrev pub pump_acts : Behaviour Shown (List ℕ)
pump_acts = acts_by pump_obeys
