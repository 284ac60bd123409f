-- The 32 pages of a pump tag by its meaning: three are shown, the others hidden.
use Rattle.std.proofs.Common.{◌≡◌, ℕ, ◌-◌, ◌<◌, ◌≤◌, Bool, true, false, cond, eqb, ltb, leb, List, ◌++◌, length, take, drop, Ok, sym, refl, ap, ◌∙◌, ⊎_elim, arith, lit<}
use Rattle.std.proofs.lemmas.List.{length-take, take_at, drop_at, take-append-drop}
use Rattle.std.proofs.lemmas.Bool.{eq-eqb, lt-ltb, le-ltb, cases_lt}
use Rattle.refusals.specs.Numbers.{asked}
use Rattle.tags.specs.Making.{new_pump, pump_made}
use Rattle.tags.specs.Pages.{page_at, put_page, unlocked, counter_in}
use Rattle.tags.specs.Pump.{PumpMeaning, page_of}
use Rattle.tags.proofs.Memory.{page_front, page_back, put_front, put_back, length_put}

module _ (n : ℕ) (memory : List ℕ) (whole : length memory ≡ 256) (below : n < 32) where
  front : List ℕ
  front = take 24 memory

  hidden : List ℕ
  hidden = drop 24 memory

  parts : memory ≡ take 24 memory ++ drop 24 memory
  parts = sym (take-append-drop 24 memory)

  long : length (take 24 memory) ≡ 24
  long = length-take 24 memory ∙ omega arith

  pub page_shown : page_at n memory ≡ cond (ltb n 3) (page_at n (take 24 memory)) (page_at (n - 3) (drop 24 memory))
  page_shown =
      let fit = long in
      ap (page_at n) parts
      ∙ ⊎_elim
      (λ (l : n < 3). let t : ltb n 3 ≡ true = lt-ltb n 3 l in simp t (page_front n (take 24 memory) (drop 24 memory) (omega arith)))
      (λ (g : 3 ≤ n). let t : ltb n 3 ≡ false = le-ltb n 3 g in simp t (page_back n (take 24 memory) (drop 24 memory) (n - 3) (omega arith)))
      (cases_lt n 3)

  module _ (page : List ℕ) (eight : length page ≡ 8) where
    pub put_shown : take 24 (put_page n page memory) ≡ cond (ltb n 3) (put_page n page (take 24 memory)) (take 24 memory)
    put_shown =
        let fit = long in
        ap (λ (m : List ℕ). take 24 (put_page n page m)) parts
        ∙ ⊎_elim
        (λ (l : n < 3). let t : ltb n 3 ≡ true = lt-ltb n 3 l in
        simp t (ap (take 24) (put_front n (take 24 memory) (drop 24 memory) page (omega arith))
        ∙ take_at (put_page n page (take 24 memory)) (drop 24 memory) 24 (length_put n page (take 24 memory) eight (omega arith) ∙ fit)))
        (λ (g : 3 ≤ n). let t : ltb n 3 ≡ false = le-ltb n 3 g in
        simp t (ap (take 24) (put_back n (take 24 memory) (drop 24 memory) (n - 3) (omega arith) page)
        ∙ take_at (take 24 memory) (put_page (n - 3) page (drop 24 memory)) 24 fit))
        (cases_lt n 3)

    pub put_hidden : drop 24 (put_page n page memory) ≡ cond (ltb n 3) (drop 24 memory) (put_page (n - 3) page (drop 24 memory))
    put_hidden =
        let fit = long in
        ap (λ (m : List ℕ). drop 24 (put_page n page m)) parts
        ∙ ⊎_elim
        (λ (l : n < 3). let t : ltb n 3 ≡ true = lt-ltb n 3 l in
        simp t (ap (drop 24) (put_front n (take 24 memory) (drop 24 memory) page (omega arith))
        ∙ drop_at (put_page n page (take 24 memory)) (drop 24 memory) 24 (length_put n page (take 24 memory) eight (omega arith) ∙ fit)))
        (λ (g : 3 ≤ n). let t : ltb n 3 ≡ false = le-ltb n 3 g in
        simp t (ap (drop 24) (put_back n (take 24 memory) (drop 24 memory) (n - 3) (omega arith) page)
        ∙ drop_at (take 24 memory) (put_page (n - 3) page (drop 24 memory)) 24 fit))
        (cases_lt n 3)

-- what is made of an image, by what was asked of the tag made of its bytes
pub made_of : (image memory : List ℕ) (draw : ℕ) (m : PumpMeaning) {free : Bool} {count : ℕ} → length image ≡ 256 → memory ≡ image → m ≡ new_pump memory draw
    → free ≡ unlocked 0 (page_of 0 m) → count ≡ counter_in (page_of 2 m)
    → pump_made image draw ≡ asked free 2 (asked (leb count 0x8000) 3 (Ok m))
made_of image memory draw m whole same is unlocks counts =
    let size : eqb (length image) 256 ≡ true = eq-eqb _ _ whole in
    simp (unlocks, counts, is, same, size, page_shown 0 image whole (lit< tt), page_shown 2 image whole (lit< tt)) refl
