-- What the data commands do to the 256 bytes of a pump tag.
use Rattle.std.proofs.Common.{◌≡◌, ℕ, zero, suc, ◌+◌, ◌-◌, ◌*◌, ◌/◌, ◌%◌, ◌<◌, ◌≤◌, Bool, true, false, cond, not, ◌&&◌, ◌||◌, eqb, ltb, List, [], ◌∷◌, length, get_or, take, replicate, Some, sym, refl, ap, ◌∙◌, subst, inr, ⊎_elim, arith, lit<}
use Rattle.std.specs.Int.{bit_at}
use Rattle.std.specs.Str.{bytes_eq}
use Rattle.std.proofs.lemmas.Bool.{cases_lt, ne_eqb, lt-ltb, le-ltb, cond-true, cond-false, cond_both, and_left, and_right, and_from, false_from_ne_true, not_from_true, not_from_false}
use Rattle.std.proofs.lemmas.List.{length-take, get_or-take, get_or_append_left, get_or-append_right}
use Rattle.std.proofs.lemmas.Slice.Eq.{bytes_eq-Decides}
use Rattle.kinds.specs.Reacts.{Reaction, replies}
use Rattle.kinds.specs.Says.{Page, Acknowledged, Refused}
use Rattle.tags.specs.declared.rights.Reading.{Reading}
use Rattle.tags.specs.declared.rights.Reading.TheVariants.{Always, WhenOpen, Never}
use Rattle.tags.specs.Common.{with_opened}
use Rattle.tags.specs.DataLaws.{memory_of, eight_from, IsBytes, IsWhole, IsPage, ChangesOnly, locks_in, locks_page, counter_of, IsRefused, Reads, Writes, Locks, Counts, Checks, PagesStand, DataObeyed}
use Rattle.tags.specs.Pages.{unlocked, locked_by, counter_in, counted_by}
use Rattle.tags.specs.Pump.{PumpMeaning, asks, page_of, with_page, passes, pump_reads, pump_writes, pump_locks, pump_checks, pump_counts}
use Rattle.tags.specs.Rules.{reading_of, writing_of, ever_read, read_now, by_write}
use Rattle.tags.proofs.Asked.{asked_on, asked_off}
use Rattle.tags.proofs.Bytes.{eight_whole, byte_whole, page_bytes, byte_put, after_whole, changes_only, locks_whole, counter_whole}
use Rattle.tags.proofs.CountRight.{counts_page, spares_page}
use Rattle.tags.proofs.LockBits.{lock_bit_is, unlocked_is, locks_after, locked_bytes}
use Rattle.tags.proofs.Locks.{locked_long, counted_long, counted_one}
use Rattle.tags.proofs.Replaced.{page_long, replaced_here}

-- two bytes are bytes
two_bytes : (low high : ℕ) → low < 256 → high < 256 → IsBytes (low ∷ high ∷ [])
two_bytes low high h k zero = h
two_bytes low high h k (suc zero) = k
two_bytes low high h k (suc (suc i)) = lit< tt

-- a refusal leaves the tag as it was
refused : (code : ℕ) (m : PumpMeaning) (r : Reaction PumpMeaning) → r ≡ replies m (Refused code) → IsRefused code m r
refused code m r is = record { says = ap (λ (q : Reaction PumpMeaning). q.says) is; after = ap (λ (q : Reaction PumpMeaning). q.after) is }

-- READ, by what the page's row says
abbrev read_by : Reading → ℕ → PumpMeaning → Reaction PumpMeaning
read_by reading page m = asks (ever_read reading) 0x21 m (asks (read_now reading m.opened) 0x41 m (replies m (Page (page_of page m))))

always : (page : ℕ) → page < 3 → reading_of page ≡ Always
always page l = let t : ltb page 3 ≡ true = lt-ltb page 3 l in simp t refl

when_open : (page : ℕ) → 3 < page → reading_of page ≡ WhenOpen
when_open page g =
    let t : ltb page 3 ≡ false = le-ltb page 3 (omega arith) in
    let e : eqb page 3 ≡ false = ne_eqb page 3 (λ (i : page ≡ 3). omega arith) in
    simp (t, e) refl

one_way : (test : Bool) (code : ℕ) (m : PumpMeaning) (page : List ℕ) → (asks test code m (replies m (Page page))).after ≡ m
one_way true code m page = refl
one_way false code m page = refl

read_stays : (reading : Reading) (page : ℕ) (m : PumpMeaning) → (read_by reading page m).after ≡ m
read_stays Always page m = refl
read_stays WhenOpen page m = one_way m.opened 0x41 m (page_of page m)
read_stays Never page m = refl

-- an open tag gives every page but the password
pub read_open : (page : ℕ) (m : PumpMeaning) → (page ≡ 3 → ⊥) → m.opened ≡ true → pump_reads page m ≡ replies m (Page (page_of page m))
read_open page m other open_now =
    ⊎_elim
    (λ (l : page < 3). ap (λ (k : Reading). read_by k page m) (always page l))
    (λ (g : 3 ≤ page).
    ap (λ (k : Reading). read_by k page m) (when_open page (omega arith))
    ∙ asked_on m.opened 0x41 m (replies m (Page (page_of page m))) open_now)
    (cases_lt page 3)

read_lem : (page : ℕ) (m : PumpMeaning) → IsWhole m → page < 32 → Reads page m (pump_reads page m)
read_lem page m whole below =
    let given : Page (page_of page m) ≡ Page (eight_from (8 * page) (memory_of m)) = ap Page (eight_whole m whole.sized page below) in
    let says = λ (r : Reaction PumpMeaning). r.says in
    record {
      shown = λ (l : page < 3). ap says (ap (λ (k : Reading). read_by k page m) (always page l)) ∙ ap Some given;
      opened = λ (g : 3 < page) (o : m.opened ≡ true).
          ap says (read_open page m (λ (e : page ≡ 3). omega arith) o) ∙ ap Some given;
      password = λ (e : page ≡ 3). ap says (ap (λ (n : ℕ). read_by (reading_of n) page m) e);
      closed = λ (g : 3 < page) (o : m.opened ≡ false).
          ap says (ap (λ (k : Reading). read_by k page m) (when_open page g) ∙ asked_off m.opened 0x41 m (replies m (Page (page_of page m))) o);
      after = read_stays (reading_of page) page m;
    }

-- the lock of a page, asked of page 0
lock_seen : (m : PumpMeaning) → IsWhole m → (page : ℕ) → page < 32 → unlocked page (page_of 0 m) ≡ not (locks_page page (memory_of m))
lock_seen m whole page below =
    unlocked_is (page_of 0 m) (page_bytes m whole 0 (lit< tt)) page below
    ∙ ap (λ (n : ℕ). not (eqb (bit_at n page) 1)) (locks_whole m whole.sized)

-- WRITE: every page but 0 and 2 can be written
writable : (page : ℕ) → (page ≡ 0 → ⊥) → (page ≡ 2 → ⊥) → by_write (writing_of page) ≡ true
writable page not-0 not-2 =
    let zeroth : eqb page 0 ≡ false = ne_eqb page 0 not-0 in
    let second : eqb page 2 ≡ false = ne_eqb page 2 not-2 in
    simp (zeroth, second) refl

-- an open tag comes to the question about the lock for each of these pages, and takes WRITE where it is not locked
write_asked : (page : ℕ) (bytes : List ℕ) (m : PumpMeaning) → m.opened ≡ true → (page ≡ 0 → ⊥) → (page ≡ 2 → ⊥)
    → pump_writes page bytes m ≡ asks (unlocked page (page_of 0 m)) 0x11 m (replies (with_page page bytes m) Acknowledged)
write_asked page bytes m o not-0 not-2 =
    let third : Reaction PumpMeaning = asks (unlocked page (page_of 0 m)) 0x11 m (replies (with_page page bytes m) Acknowledged) in
    asked_on m.opened 0x41 m (asks (by_write (writing_of page)) 0x21 m third) o
    ∙ asked_on (by_write (writing_of page)) 0x21 m third (writable page not-0 not-2)

pub write_taken : (page : ℕ) (bytes : List ℕ) (m : PumpMeaning) → m.opened ≡ true → (page ≡ 0 → ⊥) → (page ≡ 2 → ⊥)
    → unlocked page (page_of 0 m) ≡ true → pump_writes page bytes m ≡ replies (with_page page bytes m) Acknowledged
write_taken page bytes m o not-0 not-2 free =
    write_asked page bytes m o not-0 not-2 ∙ asked_on (unlocked page (page_of 0 m)) 0x11 m (replies (with_page page bytes m) Acknowledged) free

write_lem : (page : ℕ) (bytes : List ℕ) (m : PumpMeaning) → page < 32 → IsPage bytes → IsWhole m → Writes page bytes m (pump_writes page bytes m)
write_lem page bytes m below given whole =
    let last : Reaction PumpMeaning = replies (with_page page bytes m) Acknowledged in
    let third : Reaction PumpMeaning = asks (unlocked page (page_of 0 m)) 0x11 m last in
    let second : Reaction PumpMeaning = asks (by_write (writing_of page)) 0x21 m third in
    let seen = lock_seen m whole page below in
    record {
      done = λ o not-0 not-2 free.
          let is : pump_writes page bytes m ≡ last = write_taken page bytes m o not-0 not-2 (seen ∙ ap not free) in
          record {
            says = ap (λ (r : Reaction PumpMeaning). r.says) is;
            here = λ j under.
                ap (λ (r : Reaction PumpMeaning). get_or (memory_of r.after) (8 * page + j) 0) is
                ∙ byte_put m whole page below bytes given j under;
            rest = subst (λ (r : Reaction PumpMeaning). ChangesOnly (8 * page) (8 * page + 8) m r.after) (sym is) (changes_only m whole page below bytes given);
          };
      closed = λ c. refused 0x41 m _ (asked_off m.opened 0x41 m second c);
      fixed = λ o either.
          let unwritten : by_write (writing_of page) ≡ false =
          ⊎_elim
          (λ (e : page ≡ 0). ap (λ (n : ℕ). by_write (writing_of n)) e)
          (λ (e : page ≡ 2). ap (λ (n : ℕ). by_write (writing_of n)) e)
          either in
          refused 0x21 m _ (asked_on m.opened 0x41 m second o ∙ asked_off (by_write (writing_of page)) 0x21 m third unwritten);
      locked = λ o not-0 not-2 set.
          refused 0x11 m _ (write_asked page bytes m o not-0 not-2 ∙ asked_off (unlocked page (page_of 0 m)) 0x11 m last (seen ∙ ap not set));
    }

-- LOCK
module _ (bytes : List ℕ) (m : PumpMeaning) (given : IsPage bytes) (whole : IsWhole m) where
  zeroth_long : length (page_of 0 m) ≡ 8
  zeroth_long = page_long m whole.sized 0 (lit< tt)

  zeroth : IsBytes (page_of 0 m)
  zeroth = page_bytes m whole 0 (lit< tt)

  locked_page : IsPage (locked_by bytes (page_of 0 m))
  locked_page =
      record {
        long = locked_long bytes (page_of 0 m) zeroth_long;
        each = locked_bytes bytes (page_of 0 m) zeroth_long given.each zeroth;
      }

  locked_locks : (page : ℕ) → locks_page page (memory_of (with_page 0 (locked_by bytes (page_of 0 m)) m)) ≡ (locks_page page (memory_of m) || (not (eqb page 0) && locks_page page bytes))
  locked_locks page =
      let new : List ℕ = locked_by bytes (page_of 0 m) in
      let left = after_whole m whole 0 (lit< tt) new locked_page in
      let number : locks_in (memory_of (with_page 0 new m)) ≡ locks_in new =
      sym (locks_whole (with_page 0 new m) left.sized)
      ∙ ap locks_in (replaced_here m whole.sized 0 (lit< tt) new locked_page.long) in
      ap (λ (n : ℕ). eqb (bit_at n page) 1) number
      ∙ locks_after bytes (page_of 0 m) zeroth_long given.each zeroth page
      ∙ ap (λ (n : ℕ). eqb (bit_at n page) 1 || (not (eqb page 0) && locks_page page bytes)) (locks_whole m whole.sized)

  locked_rest : ChangesOnly 4 8 m (with_page 0 (locked_by bytes (page_of 0 m)) m)
  locked_rest =
      let new : List ℕ = locked_by bytes (page_of 0 m) in
      let changes = changes_only m whole 0 (lit< tt) new locked_page in
      let four : length (take 4 (page_of 0 m)) ≡ 4 = length-take 4 (page_of 0 m) ∙ (let long = zeroth_long in omega arith) in
      record {
        whole = changes.whole;
        others = λ i under out.
            ⊎_elim
            (λ (l : i < 4).
            let place : 8 * 0 + i ≡ i = omega arith in
            ap (λ (k : ℕ). get_or (memory_of (with_page 0 new m)) k 0) (sym place)
            ∙ byte_put m whole 0 (lit< tt) new locked_page i (omega arith)
            ∙ get_or_append_left (take 4 (page_of 0 m)) _ 0 i (omega arith)
            ∙ get_or-take 4 (page_of 0 m) i 0 l
            ∙ byte_whole m whole.sized 0 (lit< tt) i (omega arith)
            ∙ ap (λ (k : ℕ). get_or (memory_of m) k 0) place)
            (λ (g : 8 ≤ i). changes.others i under (inr (omega arith)))
            out;
      }

  lock_lem : Locks bytes m (pump_locks bytes m)
  lock_lem =
      let last : Reaction PumpMeaning = replies (with_page 0 (locked_by bytes (page_of 0 m)) m) Acknowledged in
      record {
        done = λ o.
            let is : pump_locks bytes m ≡ last = asked_on m.opened 0x41 m last o in
            record {
              says = ap (λ (r : Reaction PumpMeaning). r.says) is;
              locks = λ page below. ap (λ (r : Reaction PumpMeaning). locks_page page (memory_of r.after)) is ∙ locked_locks page;
              rest = subst (λ (r : Reaction PumpMeaning). ChangesOnly 4 8 m r.after) (sym is) locked_rest;
            };
        closed = λ c. refused 0x41 m _ (asked_off m.opened 0x41 m last c);
      }

  -- COUNT, of a counter below its end
  lead : length (take 6 bytes) ≡ 6
  lead = let long = given.long in length-take 6 bytes ∙ omega arith

  counted_bytes : counter_in (page_of 2 m) < 0x8000 → IsBytes (counted_by bytes (page_of 2 m))
  counted_bytes room i =
      let count : ℕ = counter_in (page_of 2 m) + 1 in
      ⊎_elim
      (λ (l : i < 6).
      subst (λ (b : ℕ). b < 256) (sym (get_or_append_left (take 6 bytes) _ 0 i (omega (arith, lead)) ∙ get_or-take 6 bytes i 0 l)) (given.each i))
      (λ (g : 6 ≤ i).
      subst (λ (b : ℕ). b < 256) (sym (get_or-append_right (take 6 bytes) _ 6 i 0 lead g)) (two_bytes (count % 256) (count / 256) (omega arith) (omega arith) (i - 6)))
      (cases_lt i 6)

  count_lem : Counts bytes m (pump_counts bytes m)
  count_lem =
      let new : List ℕ = counted_by bytes (page_of 2 m) in
      let last : Reaction PumpMeaning = replies (with_page 2 new m) Acknowledged in
      let third : Reaction PumpMeaning = asks (ltb (counter_in (page_of 2 m)) 0x8000) 0x21 m last in
      let second : Reaction PumpMeaning = asks (unlocked 2 (page_of 0 m)) 0x11 m third in
      let seen = lock_seen m whole 2 (lit< tt) in
      let count : counter_in (page_of 2 m) ≡ counter_of m = counter_whole m whole.sized in
      let to_third = λ (o : m.opened ≡ true) (free : locks_page 2 (memory_of m) ≡ false).
      asked_on m.opened 0x41 m second o ∙ asked_on (unlocked 2 (page_of 0 m)) 0x11 m third (seen ∙ ap not free) in
      record {
        done = λ o free room.
            let low : counter_in (page_of 2 m) < 0x8000 = omega arith in
            let is : pump_counts bytes m ≡ last =
            to_third o free ∙ asked_on (ltb (counter_in (page_of 2 m)) 0x8000) 0x21 m last (lt-ltb _ _ low) in
            let page : IsPage new = record { long = counted_long bytes (page_of 2 m) given.long; each = counted_bytes low } in
            let left = after_whole m whole 2 (lit< tt) new page in
            let rest : ChangesOnly 16 24 m (pump_counts bytes m).after = subst (λ (r : Reaction PumpMeaning). ChangesOnly 16 24 m r.after) (sym is) (changes_only m whole 2 (lit< tt) new page) in
            let risen : counter_of (pump_counts bytes m).after ≡ counter_of m + 1 =
            ap (λ (r : Reaction PumpMeaning). counter_of r.after) is
            ∙ sym (counter_whole (with_page 2 new m) left.sized)
            ∙ ap counter_in (replaced_here m whole.sized 2 (lit< tt) new page.long)
            ∙ counted_one bytes (page_of 2 m) given.long
            ∙ ap (λ (n : ℕ). n + 1) count in
            record {
              says = ap (λ (r : Reaction PumpMeaning). r.says) is;
              signature = λ j under.
                  ap (λ (r : Reaction PumpMeaning). get_or (memory_of r.after) (16 + j) 0) is
                  ∙ byte_put m whole 2 (lit< tt) new page j (omega arith)
                  ∙ get_or_append_left (take 6 bytes) _ 0 j (omega (arith, lead))
                  ∙ get_or-take 6 bytes j 0 under;
              counter = risen;
              by_count = λ page under. counts_page m (pump_counts bytes m).after risen page;
              by_no_count = spares_page m (pump_counts bytes m).after rest;
              rest = rest;
            };
        closed = λ c. refused 0x41 m _ (asked_off m.opened 0x41 m second c);
        locked = λ o set.
            refused 0x11 m _ (asked_on m.opened 0x41 m second o ∙ asked_off (unlocked 2 (page_of 0 m)) 0x11 m third (seen ∙ ap not set));
        ended = λ o free end.
            refused 0x21 m _ (to_third o free ∙ asked_off (ltb (counter_in (page_of 2 m)) 0x8000) 0x21 m last (le-ltb _ _ (omega arith)));
      }

-- CHECK PASSWORD
check_says : (test : Bool) (m : PumpMeaning) (r q : Reaction PumpMeaning) → r.says ≡ Some Acknowledged → q.says ≡ Some (Refused 0x41) → (test ≡ true → (cond test r q).says ≡ Some Acknowledged) × (test ≡ false → (cond test r q).says ≡ Some (Refused 0x41))
check_says test m r q done not_done = (λ t. ap (λ (p : Reaction PumpMeaning). p.says) (cond-true test r q t) ∙ done, λ t. ap (λ (p : Reaction PumpMeaning). p.says) (cond-false test r q t) ∙ not_done)

check_lem : (bytes : List ℕ) (m : PumpMeaning) → IsWhole m → Checks bytes m (pump_checks bytes m)
check_lem bytes m whole =
    let done : Reaction PumpMeaning = record { after = with_opened true m; says = Some Acknowledged; accepted = true } in
    let not_done : Reaction PumpMeaning = replies (with_opened false m) (Refused 0x41) in
    let third : page_of 3 m ≡ eight_from 24 (memory_of m) = eight_whole m whole.sized 3 (lit< tt) in
    let ones : Bool = bytes_eq bytes (replicate 8 0xFF) in
    let same : Bool = bytes_eq bytes (page_of 3 m) in
    let says = check_says (passes bytes m) m done not_done refl refl in
    record {
      passed = λ is others.
          says.0 (and_from (not ones) same
          (not_from_false ones (false_from_ne_true ones (λ (t : ones ≡ true). others ((bytes_eq-Decides bytes (replicate 8 0xFF)).0 t))))
          ((bytes_eq-Decides bytes (page_of 3 m)).1 (is ∙ sym third)));
      wrong = λ apart.
          says.1 (and_right (not ones) same (false_from_ne_true same (λ (t : same ≡ true). apart ((bytes_eq-Decides bytes (page_of 3 m)).0 t ∙ third))));
      ones = λ is. says.1 (and_left (not ones) same (not_from_true ones ((bytes_eq-Decides bytes (replicate 8 0xFF)).1 is)));
      pages = cond_both (passes bytes m) done not_done (λ (r : Reaction PumpMeaning). r.after.shown.pages ≡ m.shown.pages) (λ _. refl) (λ _. refl);
      hidden = cond_both (passes bytes m) done not_done (λ (r : Reaction PumpMeaning). r.after.hidden ≡ m.hidden) (λ _. refl) (λ _. refl);
    }

pub pages_stand : (m : PumpMeaning) → IsWhole m → PagesStand m
pages_stand m whole =
    record {
      pages = eight_whole m whole.sized;
      locks = λ page below.
          lock_bit_is (page_of 0 m) page (page_bytes m whole 0 (lit< tt)) below
          ∙ ap (λ (n : ℕ). bit_at n page) (locks_whole m whole.sized);
      counter = counter_whole m whole.sized;
    }

pub data_obeyed : DataObeyed
data_obeyed page bytes m below given whole =
    record {
      reads = read_lem page m whole below;
      writes = write_lem page bytes m below given whole;
      locks = lock_lem bytes m given whole;
      checks = check_lem bytes m whole;
      deselects = record { says = refl; pages = refl; hidden = refl };
      counts = count_lem bytes m given whole;
    }
