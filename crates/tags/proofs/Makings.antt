-- What is made of an image, by its bytes.
use Rattle.std.proofs.Common.{◌≡◌, ℕ, ◌+◌, ◌-◌, ◌*◌, ◌/◌, ◌%◌, ◌<◌, ◌≤◌, Bool, true, false, eqb, leb, List, length, get_or, take, drop, replicate, Ok, Err, Result, sym, refl, ap, ◌∙◌, subst, arith, lit<}
use Rattle.std.specs.Prelude.{IsOkAnd}
use Rattle.std.specs.Str.{bytes_eq}
use Rattle.std.proofs.lemmas.Bool.{eq-eqb, ne_eqb, le-leb, lt-leb, cond-true, cond-false, false_from_ne_true}
use Rattle.std.proofs.lemmas.List.{length-take, length-drop, take-append-drop, get_or-take, get_or-drop, get_or-replicate, ext_get_or}
use Rattle.std.proofs.lemmas.Slice.Eq.{bytes_eq-Decides}
use Rattle.refusals.specs.Numbers.{asked}
use Rattle.tags.specs.Gauge.{GaugeMeaning}
use Rattle.tags.specs.Making.{new_pump, pump_made, new_gauge, gauge_made}
use Rattle.tags.specs.MakingLaws.{PumpHolds, PumpMaking, GaugeHolds, GaugeMaking, image_counter}
use Rattle.tags.specs.Pages.{page_at, unlocked, counter_in}
use Rattle.tags.specs.Pump.{PumpMeaning}

-- questions answered by yes and by no
module _ {A : Type 0} (test : Bool) (why : ℕ) (go : Result A ℕ) where
  passed : test ≡ true → asked test why go ≡ go
  passed is = cond-true test go (Err why) is

  failed : test ≡ false → asked test why go ≡ Err why
  failed is = cond-false test go (Err why) is

-- a pump tag
module _ (image : List ℕ) (draw : ℕ) where
  byte_at : (n j : ℕ) → j < 8 → get_or (page_at n image) j 0 ≡ get_or image (8 * n + j) 0
  byte_at n j under = get_or-take 8 (drop (8 * n) image) j 0 under ∙ get_or-drop (8 * n) image j 0

  free : unlocked 0 (page_at 0 image) ≡ eqb (get_or image 4 0 % 2) 0
  free =
      let fourth : get_or (page_at 0 image) 4 0 ≡ get_or image 4 0 = byte_at 0 4 (lit< tt) in
      let bit : get_or (page_at 0 image) 4 0 / 1 % 2 ≡ get_or image 4 0 % 2 = omega arith in
      ap (λ (x : ℕ). eqb x 0) bit

  count : counter_in (page_at 2 image) ≡ image_counter image
  count =
      let low = byte_at 2 6 (lit< tt) in
      let high = byte_at 2 7 (lit< tt) in
      omega arith

  abbrev third : Result PumpMeaning ℕ
  third = asked (leb (counter_in (page_at 2 image)) 0x8000) 3 (Ok (new_pump image draw))

  abbrev second : Result PumpMeaning ℕ
  second = asked (unlocked 0 (page_at 0 image)) 2 third

  to_second : length image ≡ 256 → pump_made image draw ≡ second
  to_second whole = passed (eqb (length image) 256) 1 second (eq-eqb _ _ whole)

  to_third : length image ≡ 256 → get_or image 4 0 % 2 ≡ 0 → pump_made image draw ≡ third
  to_third whole even = to_second whole ∙ passed (unlocked 0 (page_at 0 image)) 2 third (free ∙ eq-eqb _ _ even)

  holds : length image ≡ 256 → PumpHolds image draw (new_pump image draw)
  holds whole =
      record {
        new = record { state = refl; card = refl; drawn = refl; opened = refl };
        sized = record { shown = length-take 24 image ∙ omega arith; hidden = length-drop 24 image ∙ omega arith };
        bytes = λ i under. ap (λ (l : List ℕ). get_or l i 0) (take-append-drop 24 image);
      }

  pub pump_making : PumpMaking image draw
  pump_making =
      record {
        made = λ whole even room.
            let low : counter_in (page_at 2 image) ≤ 0x8000 = subst (λ (n : ℕ). n ≤ 0x8000) (sym count) room in
            let is : pump_made image draw ≡ Ok (new_pump image draw) =
            to_third whole even ∙ passed (leb (counter_in (page_at 2 image)) 0x8000) 3 (Ok (new_pump image draw)) (le-leb _ _ low) in
            subst (λ (r : Result PumpMeaning ℕ). IsOkAnd r (PumpHolds image draw)) (sym is) (holds whole);
        size = λ other. failed (eqb (length image) 256) 1 second (ne_eqb _ _ other);
        locked = λ whole odd.
            to_second whole
            ∙ failed (unlocked 0 (page_at 0 image)) 2 third (free ∙ ap (λ (x : ℕ). eqb x 0) odd);
        counted = λ whole even over.
            let high : 0x8000 < counter_in (page_at 2 image) = subst (λ (n : ℕ). 0x8000 < n) (sym count) over in
            to_third whole even ∙ failed (leb (counter_in (page_at 2 image)) 0x8000) 3 (Ok (new_pump image draw)) (lt-leb _ _ high);
      }

  -- a gauge
  byte_of_zeros : (j : ℕ) → j < 4 → get_or (take 4 (drop 4 image)) j 0 ≡ get_or image (4 + j) 0
  byte_of_zeros j under = get_or-take 4 (drop 4 image) j 0 under ∙ get_or-drop 4 image j 0

  all_zero : length image ≡ 16 → ((i : ℕ) → 4 ≤ i → i < 8 → get_or image i 0 ≡ 0) → take 4 (drop 4 image) ≡ replicate 4 0
  all_zero whole clear =
      let behind : length (drop 4 image) ≡ 12 = length-drop 4 image ∙ omega arith in
      let long : length (take 4 (drop 4 image)) ≡ 4 = length-take 4 (drop 4 image) ∙ omega arith in
      ext_get_or 0 (take 4 (drop 4 image)) (replicate 4 0) long
      (λ j under.
      let below : j < 4 = omega arith in
      byte_of_zeros j below ∙ clear (4 + j) (omega arith) (omega arith) ∙ sym (get_or-replicate 4 j 0 0 below))

  one_not : (i : ℕ) → 4 ≤ i → i < 8 → take 4 (drop 4 image) ≡ replicate 4 0 → get_or image i 0 ≡ 0
  one_not i from below same =
      let place : 4 + (i - 4) ≡ i = omega arith in
      ap (λ (k : ℕ). get_or image k 0) (sym place)
      ∙ sym (byte_of_zeros (i - 4) (omega arith))
      ∙ ap (λ (l : List ℕ). get_or l (i - 4) 0) same
      ∙ get_or-replicate 4 (i - 4) 0 0 (omega arith)

  pub gauge_making : GaugeMaking image draw
  gauge_making =
      let done : Result GaugeMeaning ℕ = Ok (new_gauge image draw) in
      let clear : Bool = bytes_eq (take 4 (drop 4 image)) (replicate 4 0) in
      let asked_second : Result GaugeMeaning ℕ = asked clear 2 done in
      let decided = bytes_eq-Decides (take 4 (drop 4 image)) (replicate 4 0) in
      record {
        made = λ whole empty.
            let is : gauge_made image draw ≡ done =
            passed (eqb (length image) 16) 1 asked_second (eq-eqb _ _ whole) ∙ passed clear 2 done (decided.1 (all_zero whole empty)) in
            subst (λ (r : Result GaugeMeaning ℕ). IsOkAnd r (GaugeHolds image draw)) (sym is)
            (record { new = record { state = refl; card = refl; drawn = refl; opened = refl }; bytes = refl });
        size = λ other. failed (eqb (length image) 16) 1 asked_second (ne_eqb _ _ other);
        locked = λ whole i from below apart.
            passed (eqb (length image) 16) 1 asked_second (eq-eqb _ _ whole)
            ∙ failed clear 2 done (false_from_ne_true clear (λ (t : clear ≡ true). apart (one_not i from below (decided.0 t))));
      }
