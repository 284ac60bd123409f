-- What every step of a pump tag keeps: its locks, the pages that they name, its serial number and its count.
use Rattle.std.proofs.Common.{◌≡◌, ℕ, ◌+◌, ◌<◌, ◌≤◌, Bool, true, false, eqb, leb, List, length, Ok, Result, sym, refl, ap, ◌∙◌, subst, add-zero, add_assoc, arith, lit<}
use Rattle.std.proofs.lemmas.List.{length-take, length-drop, take-take}
use Rattle.std.proofs.lemmas.Bool.{eqb-true, leb-true}
use Rattle.refusals.specs.Numbers.{asked}
use Rattle.tags.specs.declared.link.Link.{Link}
use Rattle.tags.specs.Common.{is_off_tag}
use Rattle.tags.specs.Making.{new_pump, pump_made}
use Rattle.tags.specs.Pages.{page_at, lock_bit, unlocked, locked_by, counter_in, counted_by, serial_in}
use Rattle.tags.specs.Pump.{PumpMeaning, PumpSized, page_of, with_page}
use Rattle.tags.proofs.Locks.{Firmer, firmer_same, firmer_trans, firmer_locked, locked_long, counted_long, counted_one}
use Rattle.tags.proofs.Replaced.{page_long, replaced_sized, replaced_here, replaced_elsewhere}
use Rattle.tags.proofs.Shown.{page_shown}

-- what holds of every tag at every time
pub record Good (m : PumpMeaning) : Type 0 where
  pub sized : PumpSized m
  pub free : lock_bit 0 (page_of 0 m) ≡ 0
  pub most : counter_in (page_of 2 m) ≤ 32768

-- a tag leads to another, with so many COUNTs between them
pub record Moves (m n : PumpMeaning) (count : ℕ) : Type 0 where
  pub good : Good n
  pub firmer : Firmer (page_of 0 m) (page_of 0 n)
  pub pages : (i : ℕ) → i < 32 → lock_bit i (page_of 0 m) ≡ 1 → page_of i n ≡ page_of i m
  pub sum : counter_in (page_of 2 n) ≡ counter_in (page_of 2 m) + count

pub moves_serial : (m n : PumpMeaning) (count : ℕ) → Moves m n count → serial_in n.shown.pages ≡ serial_in m.shown.pages
moves_serial m n count moves =
    sym (take-take 4 8 n.shown.pages (omega arith)) ∙ moves.firmer.serial ∙ take-take 4 8 m.shown.pages (omega arith)

-- link and openness aside, the tag stays
pub moves_same : (m : PumpMeaning) (link : Link) (opened : Bool) → Good m
    → Moves m (record { shown = record { link = link; pages = m.shown.pages }; hidden = m.hidden; opened = opened }) 0
moves_same m link opened good =
    record {
      good = record { sized = record { shown = good.sized.shown; hidden = good.sized.hidden }; free = good.free; most = good.most };
      firmer = firmer_same _ _ refl;
      pages = λ i below set. refl;
      sum = sym (add-zero (counter_in (page_of 2 m)));
    }

-- one step after another
pub moves_trans : (a b c : PumpMeaning) (j k : ℕ) → Moves a b j → Moves b c k → Moves a c (j + k)
moves_trans a b c j k first second =
    record {
      good = second.good;
      firmer = firmer_trans _ _ _ first.firmer second.firmer;
      pages = λ i below set. second.pages i below (first.firmer.locks i below set) ∙ first.pages i below set;
      sum = second.sum ∙ ap (λ (n : ℕ). n + k) first.sum ∙ add_assoc (counter_in (page_of 2 a)) j k;
    }

-- an unlocked page is replaced
module _ (m : PumpMeaning) (good : Good m) where
  module _ (j : ℕ) (page : List ℕ) (count : ℕ) (below : j < 32) (eight : length page ≡ 8) (clear : lock_bit j (page_of 0 m) ≡ 0) where
    pub replaced_moves : (p q : List ℕ) → page_of 0 (with_page j page m) ≡ p → page_of 2 (with_page j page m) ≡ q
        → Firmer (page_of 0 m) p → counter_in q ≡ counter_in (page_of 2 m) + count → counter_in q ≤ 32768 → Moves m (with_page j page m) count
    replaced_moves p q zeroth second firm sum most =
        let firmer : Firmer (page_of 0 m) (page_of 0 (with_page j page m)) = firmer_trans _ _ _ firm (firmer_same _ _ zeroth) in
        record {
          good =
              record {
                sized = replaced_sized m good.sized j below page eight;
                free = firmer.first ∙ good.free;
                most = subst (λ (n : ℕ). n ≤ 32768) (sym (ap counter_in second)) most;
              };
          firmer = firmer;
          pages = λ i under set.
              replaced_elsewhere m good.sized j below page eight i under
              (λ (e : i ≡ j). let unset : lock_bit i (page_of 0 m) ≡ 0 = ap (λ (n : ℕ). lock_bit n (page_of 0 m)) e ∙ clear in omega arith);
          sum = ap counter_in second ∙ sum;
        }

    elsewhere : (i : ℕ) → i < 32 → (i ≡ j → ⊥) → page_of i (with_page j page m) ≡ page_of i m
    elsewhere = replaced_elsewhere m good.sized j below page eight

  -- WRITE, LOCK and COUNT
  pub written_moves : (j : ℕ) (bytes : List ℕ) → j < 32 → (j ≡ 0 → ⊥) → (j ≡ 2 → ⊥) → length bytes ≡ 8 → lock_bit j (page_of 0 m) ≡ 0
      → Moves m (with_page j bytes m) 0
  written_moves j bytes below not-0 not-2 eight clear =
      replaced_moves j bytes 0 below eight clear (page_of 0 m) (page_of 2 m)
      (elsewhere j bytes 0 below eight clear 0 (lit< tt) (λ e. not-0 (sym e)))
      (elsewhere j bytes 0 below eight clear 2 (lit< tt) (λ e. not-2 (sym e)))
      (firmer_same _ _ refl) (sym (add-zero (counter_in (page_of 2 m)))) good.most

  pub locked_moves : (bytes : List ℕ) → Moves m (with_page 0 (locked_by bytes (page_of 0 m)) m) 0
  locked_moves bytes =
      let long : length (page_of 0 m) ≡ 8 = page_long m good.sized 0 (lit< tt) in
      let page : List ℕ = locked_by bytes (page_of 0 m) in
      let eight : length page ≡ 8 = locked_long bytes (page_of 0 m) long in
      replaced_moves 0 page 0 (lit< tt) eight good.free page (page_of 2 m)
      (replaced_here m good.sized 0 (lit< tt) page eight)
      (elsewhere 0 page 0 (lit< tt) eight good.free 2 (lit< tt) (λ e. omega arith))
      (firmer_locked bytes (page_of 0 m) long) (sym (add-zero (counter_in (page_of 2 m)))) good.most

  pub counted_moves : (bytes : List ℕ) → length bytes ≡ 8 → lock_bit 2 (page_of 0 m) ≡ 0 → counter_in (page_of 2 m) < 32768
      → Moves m (with_page 2 (counted_by bytes (page_of 2 m)) m) 1
  counted_moves bytes eight clear room =
      let page : List ℕ = counted_by bytes (page_of 2 m) in
      let long : length page ≡ 8 = counted_long bytes (page_of 2 m) eight in
      let one : counter_in page ≡ counter_in (page_of 2 m) + 1 = counted_one bytes (page_of 2 m) eight in
      replaced_moves 2 page 1 (lit< tt) long clear (page_of 0 m) page
      (elsewhere 2 page 1 (lit< tt) long clear 0 (lit< tt) (λ e. omega arith))
      (replaced_here m good.sized 2 (lit< tt) page long)
      (firmer_same _ _ refl) one (omega arith)

-- a question that was passed, where something was made
passed : {A : Type 0} (test : Bool) (why : ℕ) (go : Result A ℕ) (a : A) → asked test why go ≡ Ok a → (test ≡ true) × (go ≡ Ok a)
passed true why go a made = (refl, made)
passed false why go a made = let z : ◌≡◌ {A = ℕ} 0 1 = cc in absurd (omega arith)

-- the answers to the questions of making, and the tag that they lead to
pub record MadeBy (image : List ℕ) (draw : ℕ) (m : PumpMeaning) : Type 0 where
  pub long : length image ≡ 256
  pub clear : unlocked 0 (page_at 0 image) ≡ true
  pub room : leb (counter_in (page_at 2 image)) 0x8000 ≡ true
  pub is : new_pump image draw ≡ m

made_by : (image : List ℕ) (draw : ℕ) (m : PumpMeaning) → pump_made image draw ≡ Ok m → MadeBy image draw m
made_by image draw m made =
    let first = passed (eqb (length image) 256) 1 _ m made in
    let second = passed (unlocked 0 (page_at 0 image)) 2 _ m first.1 in
    let third = passed (leb (counter_in (page_at 2 image)) 0x8000) 3 _ m second.1 in
    record { long = eqb-true _ _ first.0; clear = second.0; room = third.0; is = cc third.1 }

-- a tag just made is off
pub made_off : (image : List ℕ) (draw : ℕ) (m : PumpMeaning) → pump_made image draw ≡ Ok m → is_off_tag m.shown ≡ true
made_off image draw m made = subst (λ (n : PumpMeaning). is_off_tag n.shown ≡ true) (made_by image draw m made).is refl

-- and good
pub made_good : (image : List ℕ) (draw : ℕ) (m : PumpMeaning) → pump_made image draw ≡ Ok m → Good m
made_good image draw m made =
    let by = made_by image draw m made in
    let whole : length image ≡ 256 = by.long in
    let most : counter_in (page_at 2 image) ≤ 32768 = leb-true _ _ by.room in
    subst Good by.is
    (record {
      sized = record { shown = length-take 24 image ∙ omega arith; hidden = length-drop 24 image ∙ omega arith };
      free = ap (lock_bit 0) (sym (page_shown 0 image whole (lit< tt))) ∙ eqb-true _ _ by.clear;
      most = subst (λ (p : List ℕ). counter_in p ≤ 32768) (page_shown 2 image whole (lit< tt)) most;
    })
