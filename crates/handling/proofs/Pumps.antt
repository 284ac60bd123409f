-- One pump tag: what power and frames keep of it.
use Rattle.std.proofs.Common.{◌≡◌, ℕ, ◌%◌, ◌<◌, Bool, true, false, cond, ◌&&◌, ltb, List, length, Some, None, Option, refl, subst, arith}
use Rattle.std.proofs.lemmas.Bool.{cond_both, eqb-true, ltb-true, false≢true}
use Rattle.typeb.specs.declared.frames.Op.{Op}
use Rattle.typeb.specs.declared.frames.Op.TheVariants.{Read, Write, Lock, CheckPassword, Deselect, Count}
use Rattle.typeb.specs.Hears.{Heard, Request, SlotMarker, Attrib, Halt, Command, heard}
use Rattle.tags.specs.Common.{reacts_by}
use Rattle.tags.specs.Links.{answers_to}
use Rattle.tags.specs.Pages.{unlocked, counter_in}
use Rattle.tags.specs.Pump.{PumpMeaning, pump_acts, pump_obeys, page_of, asks, passes}
use Rattle.kinds.specs.Reacts.{Reaction, answered, says_at}
use Rattle.tags.specs.Rules.{reading_of, writing_of, ever_read, read_now, by_write}
use Rattle.tags.proofs.Moves.{Good, Moves, moves_same, written_moves, locked_moves, counted_moves}
use Rattle.tags.specs.Conduct.{acknowledges}
use Rattle.handling.specs.Laws.{is_count, counts_now}
use Rattle.handling.proofs.CountFrames.{Eight, eight_heard}

-- a page that WRITE writes is neither page 0 nor page 2
not_written : (page other : ℕ) → by_write (writing_of other) ≡ false → by_write (writing_of page) ≡ true → page ≡ other → ⊥
not_written page other never may same = false≢true (subst (λ b. b ≡ true) never (subst (λ (p : ℕ). by_write (writing_of p) ≡ true) same may))

module _ (m : PumpMeaning) (good : Good m) where
  pub still : Moves m m 0
  still = moves_same m m.shown.link m.opened good

  -- a reaction, to a COUNT or to another command
  abbrev Fair : Bool → Reaction PumpMeaning → Type 0
  Fair counting r = Moves m r.after (cond (counting && acknowledges r.says) 1 0)

  unacknowledged : (counting : Bool) → Moves m m (cond (counting && false) 1 0)
  unacknowledged true = still
  unacknowledged false = still

  asked : (counting passed : Bool) (code : ℕ) (go : Reaction PumpMeaning) → (passed ≡ true → Fair counting go) → Fair counting (asks passed code m go)
  asked counting passed code go fair = cond_both passed go _ (Fair counting) fair (λ _. unacknowledged counting)

  obeyed : (op : Op) (cid address : ℕ) (bytes : List ℕ) (page : ℕ) → page < 32 → length bytes ≡ 8
      → Fair (is_count (Some (Command op cid address bytes))) (pump_obeys op page bytes m)
  obeyed Read cid address bytes page below eight =
      asked false (ever_read (reading_of page)) 0x21 _ (λ _. asked false (read_now (reading_of page) m.opened) 0x41 _ (λ _. still))
  obeyed Write cid address bytes page below eight =
      asked false m.opened 0x41 _
      (λ _. asked false (by_write (writing_of page)) 0x21 _
      (λ may. asked false (unlocked page (page_of 0 m)) 0x11 _
      (λ clear. written_moves m good page bytes below (not_written page 0 refl may) (not_written page 2 refl may) eight (eqb-true _ _ clear))))
  obeyed Lock cid address bytes page below eight = asked false m.opened 0x41 _ (λ _. locked_moves m good bytes)
  obeyed CheckPassword cid address bytes page below eight =
      cond_both (passes bytes m) _ _ (Fair false) (λ _. moves_same m m.shown.link true good) (λ _. moves_same m m.shown.link false good)
  obeyed Deselect cid address bytes page below eight = moves_same m _ m.opened good
  obeyed Count cid address bytes page below eight =
      asked true m.opened 0x41 _
      (λ _. asked true (unlocked 2 (page_of 0 m)) 0x11 _
      (λ clear. asked true (ltb (counter_in (page_of 2 m)) 0x8000) 0x21 _
      (λ room. counted_moves m good bytes eight (eqb-true _ _ clear) (ltb-true _ _ room))))

  answers : (o : Option Heard) → Eight o
      → Moves m (answered (reacts_by pump_obeys) m o).after (cond (is_count o && acknowledges (says_at (reacts_by pump_obeys) m o)) 1 0)
  answers (Some (Request family wake_up slots)) eight = moves_same m _ m.opened good
  answers (Some (SlotMarker slot)) eight = moves_same m _ m.opened good
  answers (Some (Attrib serial params inf)) eight = moves_same m _ m.opened good
  answers (Some (Halt serial)) eight = moves_same m _ m.opened good
  answers (Some (Command op cid address bytes)) eight =
      let counting : Bool = is_count (Some (Command op cid address bytes)) in
      cond_both (answers_to cid m.shown.link) _ _ (Fair counting)
      (λ _. obeyed op cid address bytes (address % 32) (omega arith) eight) (λ _. unacknowledged counting)
  answers None eight = still

  -- power and frames
  pub gains_moves : Moves m (pump_acts.gains m) 0
  gains_moves = moves_same m _ m.opened good

  pub loses_moves : Moves m (pump_acts.loses m) 0
  loses_moves = moves_same m _ false good

  pub hears_moves : (frame : List ℕ) → Moves m (pump_acts.hears frame m).after (cond (counts_now frame m) 1 0)
  hears_moves frame = answers (heard frame) (eight_heard frame)
