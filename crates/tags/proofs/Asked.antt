-- What holds of a pump tag after the questions of a data command.
use Rattle.std.proofs.Common.{◌≡◌, ℕ, Bool, true, false, ltb, List, Some, refl, ap, arith}
use Rattle.tags.specs.Pages.{unlocked, locked_by, counter_in, counted_by}
use Rattle.tags.specs.Pump.{PumpMeaning, asks, page_of, with_page, pump_reads, pump_writes, pump_locks, pump_counts}
use Rattle.kinds.specs.Reacts.{Reaction, replies}
use Rattle.tags.specs.Rules.{reading_of, writing_of, ever_read, read_now, by_write}
use Rattle.kinds.specs.Says.{Page, Acknowledged, Refused}

-- after a question the tag is as it was, or as what follows leaves it
pub asks_either : (P : PumpMeaning → Type 0) (test : Bool) (code : ℕ) (m : PumpMeaning) (go : Reaction PumpMeaning) → P m → P go.after → P (asks test code m go).after
asks_either P true code m go stays goes = goes
asks_either P false code m go stays goes = stays

-- a question whose answer was yes, since the command was acknowledged
pub asked_yes : (test : Bool) (code : ℕ) (m : PumpMeaning) (go : Reaction PumpMeaning) → (asks test code m go).says ≡ Some Acknowledged → test ≡ true
asked_yes true code m go said = refl
asked_yes false code m go said = let z : ◌≡◌ {A = ℕ} 0 1 = cc in absurd (omega arith)

-- a question answered by yes, and by no
pub asked_on : (test : Bool) (code : ℕ) (m : PumpMeaning) (go : Reaction PumpMeaning) → test ≡ true → asks test code m go ≡ go
asked_on test code m go is = ap (λ (b : Bool). asks b code m go) is

pub asked_off : (test : Bool) (code : ℕ) (m : PumpMeaning) (go : Reaction PumpMeaning) → test ≡ false → asks test code m go ≡ replies m (Refused code)
asked_off test code m go is = ap (λ (b : Bool). asks b code m go) is

-- so what holds of a tag, and of it with another page, holds after every command that is no check and no DESELECT
module _ (P : PumpMeaning → Type 0) (m : PumpMeaning) (stays : P m) (paged : (page : ℕ) (bytes : List ℕ) → P (with_page page bytes m)) where
  pub after_read : (page : ℕ) → P (pump_reads page m).after
  after_read page = asks_either P (ever_read (reading_of page)) 0x21 m _ stays (asks_either P (read_now (reading_of page) m.opened) 0x41 m (replies m (Page (page_of page m))) stays stays)

  pub after_write : (page : ℕ) (bytes : List ℕ) → P (pump_writes page bytes m).after
  after_write page bytes =
      asks_either P m.opened 0x41 m _ stays
      (asks_either P (by_write (writing_of page)) 0x21 m _ stays
      (asks_either P (unlocked page (page_of 0 m)) 0x11 m (replies (with_page page bytes m) Acknowledged) stays (paged page bytes)))

  pub after_lock : (bytes : List ℕ) → P (pump_locks bytes m).after
  after_lock bytes = asks_either P m.opened 0x41 m (replies (with_page 0 (locked_by bytes (page_of 0 m)) m) Acknowledged) stays (paged 0 _)

  pub after_count : (bytes : List ℕ) → P (pump_counts bytes m).after
  after_count bytes =
      asks_either P m.opened 0x41 m _ stays
      (asks_either P (unlocked 2 (page_of 0 m)) 0x11 m _ stays
      (asks_either P (ltb (counter_in (page_of 2 m)) 0x8000) 0x21 m (replies (with_page 2 (counted_by bytes (page_of 2 m)) m) Acknowledged) stays (paged 2 _)))
