-- How a pump tag conducts itself.
use Rattle.std.proofs.Common.{◌≡◌, ℕ, ◌%◌, Bool, true, false, cond, not, ◌&&◌, ltb, List, [], ◌∷◌, replicate, Some, None, Option, sym, refl, ap, ◌∙◌, lit<}
use Rattle.std.specs.Str.{bytes_eq}
use Rattle.std.proofs.Math.Bool.{and-true, and-false}
use Rattle.std.proofs.lemmas.Bool.{eq-eqb}
use Rattle.std.proofs.lemmas.Slice.Eq.{bytes_eq-Decides}
use Rattle.typeb.specs.declared.frames.Op.{Op}
use Rattle.typeb.specs.declared.frames.Op.TheVariants.{Read, Write, Lock, CheckPassword, Deselect, Count}
use Rattle.typeb.specs.CheckBytes.{fold_bit, fold_bits, fold_byte, check_bytes, sound}
use Rattle.typeb.specs.Hears.{Heard, Request, SlotMarker, Attrib, Halt, Command, heard}
use Rattle.tags.specs.Common.{reacts_by, with_opened}
use Rattle.tags.specs.Conduct.{Conduct, Openness, Accepting, LinkStays, TakesWrites, ReadsBack, PasswordCounts, Conversation, checking_op, is_check, acknowledges, speaks, checks_now, noted, verdicts_of, last_of}
use Rattle.tags.specs.Links.{answers_to}
use Rattle.tags.specs.Pages.{unlocked, locked_by, counter_in, counted_by}
use Rattle.tags.specs.Pump.{PumpMeaning, pump_acts, pump_obeys, pump_reads, pump_writes, pump_checks, asks, passes, page_of, with_page}
use Rattle.kinds.specs.Reacts.{Reaction, answered, unmoved, replies, says_at}
use Rattle.tags.specs.Rules.{reading_of, writing_of, ever_read, read_now, by_write}
use Rattle.kinds.specs.Says.{Page, Acknowledged, Refused}
use Rattle.tags.proofs.Asked.{after_read, after_write, after_lock, after_count, asked_yes, asked_on}
use Rattle.tags.proofs.Commands.{data_obeyed, pages_stand, read_open, write_taken}
use Rattle.tags.proofs.Makings.{pump_making}
use Rattle.tags.proofs.Replaced.{replaced_here}
use Rattle.tags.proofs.Staying.{keeps_power}
use Rattle.tags.proofs.LinkLawful.{link_laws}
use Rattle.tags.proofs.GoingBy.{pump_goes_by}

-- openness
abbrev AsOpen : PumpMeaning → PumpMeaning → Type 0
AsOpen m n = n.opened ≡ m.opened

-- a check that passes, and one that fails
abbrev passed : PumpMeaning → Reaction PumpMeaning
passed m = record { after = with_opened true m; says = Some Acknowledged; accepted = true }

abbrev failed : PumpMeaning → Reaction PumpMeaning
failed m = replies (with_opened false m) (Refused 0x41)

-- what one answered frame does to openness
abbrev Opens : Bool → Reaction PumpMeaning → PumpMeaning → Type 0
Opens checking r m = r.after.opened ≡ cond (checking && speaks r.says) r.accepted m.opened

check_opens : (test : Bool) (m : PumpMeaning) → Opens true (cond test (passed m) (failed m)) m
check_opens true m = refl
check_opens false m = refl

obey_opens : (op : Op) (page : ℕ) (bytes : List ℕ) (m : PumpMeaning) → Opens (checking_op op) (pump_obeys op page bytes m) m
obey_opens Read page bytes m = after_read (AsOpen m) m refl (λ p b. refl) page
obey_opens Write page bytes m = after_write (AsOpen m) m refl (λ p b. refl) page bytes
obey_opens Lock page bytes m = after_lock (AsOpen m) m refl (λ p b. refl) bytes
obey_opens CheckPassword page bytes m = check_opens (passes bytes m) m
obey_opens Deselect page bytes m = refl
obey_opens Count page bytes m = after_count (AsOpen m) m refl (λ p b. refl) bytes

addressed_opens : (mine checking : Bool) (m : PumpMeaning) (r : Reaction PumpMeaning) → Opens checking r m → Opens checking (cond mine r (unmoved m)) m
addressed_opens true checking m r same = same
addressed_opens false true m r same = refl
addressed_opens false false m r same = refl

step_opens : (o : Option Heard) (m : PumpMeaning)
    → (answered (reacts_by pump_obeys) m o).after.opened ≡ cond (is_check o && speaks (says_at (reacts_by pump_obeys) m o)) (answered (reacts_by pump_obeys) m o).accepted m.opened
step_opens (Some (Request family wake_up slots)) m = refl
step_opens (Some (SlotMarker slot)) m = refl
step_opens (Some (Attrib serial params inf)) m = refl
step_opens (Some (Halt serial)) m = refl
step_opens (Some (Command op cid address bytes)) m =
    addressed_opens (answers_to cid m.shown.link) (checking_op op) m _ (obey_opens op (address % 32) bytes m)
step_opens None m = refl

-- one verdict more, or none
noted_last : (checking before verdict : Bool) (more : List Bool) → last_of (cond checking verdict before) more ≡ last_of before (noted checking verdict more)
noted_last true before verdict more = refl
noted_last false before verdict more = refl

openness : Openness
openness m [] = refl
openness m (frame ∷ more) =
    openness (pump_acts.hears frame m).after more
    ∙ ap (λ (o : Bool). last_of o (verdicts_of (pump_acts.hears frame m).after more)) (step_opens (heard frame) m)
    ∙ noted_last (checks_now frame m) m.opened (pump_acts.hears frame m).accepted (verdicts_of (pump_acts.hears frame m).after more)

-- a check is accepted exactly where it is acknowledged
abbrev Accepts : Op → Reaction PumpMeaning → Type 0
Accepts op r = r.accepted ≡ checking_op op && acknowledges r.says

asked_accepts : (op : Op) (test : Bool) (code : ℕ) (m : PumpMeaning) (go : Reaction PumpMeaning) → Accepts op go → Accepts op (asks test code m go)
asked_accepts op true code m go h = h
asked_accepts op false code m go h = sym (and-false (checking_op op))

check_accepts : (test : Bool) (m : PumpMeaning) → Accepts CheckPassword (cond test (passed m) (failed m))
check_accepts true m = refl
check_accepts false m = refl

obey_accepts : (op : Op) (page : ℕ) (bytes : List ℕ) (m : PumpMeaning) → Accepts op (pump_obeys op page bytes m)
obey_accepts Read page bytes m = asked_accepts Read (ever_read (reading_of page)) 0x21 m _ (asked_accepts Read (read_now (reading_of page) m.opened) 0x41 m (replies m (Page (page_of page m))) refl)
obey_accepts Write page bytes m =
    asked_accepts Write m.opened 0x41 m _
    (asked_accepts Write (by_write (writing_of page)) 0x21 m _
    (asked_accepts Write (unlocked page (page_of 0 m)) 0x11 m (replies (with_page page bytes m) Acknowledged) refl))
obey_accepts Lock page bytes m = asked_accepts Lock m.opened 0x41 m (replies (with_page 0 (locked_by bytes (page_of 0 m)) m) Acknowledged) refl
obey_accepts CheckPassword page bytes m = check_accepts (passes bytes m) m
obey_accepts Deselect page bytes m = refl
obey_accepts Count page bytes m =
    asked_accepts Count m.opened 0x41 m _
    (asked_accepts Count (unlocked 2 (page_of 0 m)) 0x11 m _
    (asked_accepts Count (ltb (counter_in (page_of 2 m)) 0x8000) 0x21 m (replies (with_page 2 (counted_by bytes (page_of 2 m)) m) Acknowledged) refl))

addressed_accepts : (mine : Bool) (op : Op) (m : PumpMeaning) (r : Reaction PumpMeaning) → Accepts op r → Accepts op (cond mine r (unmoved m))
addressed_accepts true op m r h = h
addressed_accepts false op m r h = sym (and-false (checking_op op))

step_accepts : (o : Option Heard) (m : PumpMeaning)
    → (answered (reacts_by pump_obeys) m o).accepted ≡ is_check o && acknowledges (says_at (reacts_by pump_obeys) m o)
step_accepts (Some (Request family wake_up slots)) m = refl
step_accepts (Some (SlotMarker slot)) m = refl
step_accepts (Some (Attrib serial params inf)) m = refl
step_accepts (Some (Halt serial)) m = refl
step_accepts (Some (Command op cid address bytes)) m =
    addressed_accepts (answers_to cid m.shown.link) op m _ (obey_accepts op (address % 32) bytes m)
step_accepts None m = refl

accepting : Accepting
accepting frame m = step_accepts (heard frame) m

takes_writes : TakesWrites
takes_writes page bytes m not-0 not-2 now clear = ap (λ (r : Reaction PumpMeaning). r.says) (write_taken page bytes m now not-0 not-2 (eq-eqb _ _ clear))

-- an acknowledged WRITE has replaced its page, in an open tag
module _ (page : ℕ) (bytes : List ℕ) (m : PumpMeaning) (said : (pump_writes page bytes m).says ≡ Some Acknowledged) where
  abbrev third : Reaction PumpMeaning
  third = asks (unlocked page (page_of 0 m)) 0x11 m (replies (with_page page bytes m) Acknowledged)

  abbrev second : Reaction PumpMeaning
  second = asks (by_write (writing_of page)) 0x21 m third

  opened : m.opened ≡ true
  opened = asked_yes m.opened 0x41 m second said

  to_second : pump_writes page bytes m ≡ second
  to_second = asked_on m.opened 0x41 m second opened

  writable : by_write (writing_of page) ≡ true
  writable = asked_yes (by_write (writing_of page)) 0x21 m third (sym (ap (λ (r : Reaction PumpMeaning). r.says) to_second) ∙ said)

  to_third : pump_writes page bytes m ≡ third
  to_third = to_second ∙ asked_on (by_write (writing_of page)) 0x21 m third writable

  free : unlocked page (page_of 0 m) ≡ true
  free = asked_yes (unlocked page (page_of 0 m)) 0x11 m (replies (with_page page bytes m) Acknowledged) (sym (ap (λ (r : Reaction PumpMeaning). r.says) to_third) ∙ said)

  replaced : (pump_writes page bytes m).after ≡ with_page page bytes m
  replaced = ap (λ (r : Reaction PumpMeaning). r.after) (to_third ∙ asked_on (unlocked page (page_of 0 m)) 0x11 m (replies (with_page page bytes m) Acknowledged) free)

reads_back : ReadsBack
reads_back page bytes m sized below eight other said =
    ap (λ (n : PumpMeaning). (pump_reads page n).says) (replaced page bytes m said)
    ∙ ap (λ (r : Reaction PumpMeaning). r.says) (read_open page (with_page page bytes m) other (opened page bytes m said))
    ∙ ap (λ (p : List ℕ). Some (Page p)) (replaced_here m sized page below bytes eight)

accepted_by : (test : Bool) (m : PumpMeaning) → (cond test (passed m) (failed m)).accepted ≡ test
accepted_by true m = refl
accepted_by false m = refl

password_counts : PasswordCounts
password_counts bytes m sized eight said =
    ap (λ (n : PumpMeaning). (pump_checks bytes n).accepted) (replaced 3 bytes m said)
    ∙ accepted_by (passes bytes (with_page 3 bytes m)) (with_page 3 bytes m)
    ∙ ap (λ (b : Bool). not (bytes_eq bytes (replicate 8 0xFF)) && b) (ap (bytes_eq bytes) (replaced_here m sized 3 (lit< tt) bytes eight) ∙ (bytes_eq-Decides bytes bytes).1 refl)
    ∙ and-true (not (bytes_eq bytes (replicate 8 0xFF)))

-- what data commands do to state, card number and draw number
abbrev SameLink : PumpMeaning → PumpMeaning → Type 0
SameLink m n = n.shown.link ≡ m.shown.link

check_stays : (test : Bool) (m : PumpMeaning) → SameLink m (cond test (passed m) (failed m)).after
check_stays true m = refl
check_stays false m = refl

link_stays : LinkStays pump_obeys
link_stays Read page bytes m = after_read (SameLink m) m refl (λ p b. refl) page
link_stays Write page bytes m = after_write (SameLink m) m refl (λ p b. refl) page bytes
link_stays Lock page bytes m = after_lock (SameLink m) m refl (λ p b. refl) bytes
link_stays CheckPassword page bytes m = check_stays (passes bytes m) m
link_stays Deselect page bytes m = refl
link_stays Count page bytes m = after_count (SameLink m) m refl (λ p b. refl) bytes

conversation : Conversation
unfolding fold_bit fold_bits fold_byte check_bytes sound heard
conversation = refl

pub conduct : Conduct
conduct =
    record {
      openness = openness;
      accepting = accepting;
      link = link_laws pump_obeys;
      goes_by = pump_goes_by;
      link_stays = link_stays;
      frames = keeps_power;
      pages_stand = pages_stand;
      data_obeyed = data_obeyed;
      takes_writes = takes_writes;
      reads_back = reads_back;
      password_counts = password_counts;
      conversation = conversation;
      making = pump_making;
    }
