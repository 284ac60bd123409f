-- A pump tag with one of its 32 pages replaced: that page is the new one, the others stay.
use Rattle.std.proofs.Common.{◌≡◌, ℕ, ◌+◌, ◌-◌, ◌*◌, ◌<◌, ◌≤◌, true, false, cond, ltb, List, ◌++◌, length, take, drop, sym, refl, ap, ◌∙◌, ⊎_elim, append_assoc, arith}
use Rattle.std.proofs.lemmas.List.{length-take, length-drop, length-append, take_at, drop_at, take-append-drop}
use Rattle.std.proofs.lemmas.Bool.{lt-ltb, le-ltb, cases_lt}
use Rattle.tags.specs.Pages.{page_at, put_page}
use Rattle.tags.specs.Pump.{PumpMeaning, PumpSized, page_of, with_page}
use Rattle.tags.proofs.Memory.{page_front, page_back, length_put}

-- pages of a list
module _ (j : ℕ) (page memory : List ℕ) (eight : length page ≡ 8) (fits : 8 * j + 8 ≤ length memory) where
  pub page_put : page_at j (put_page j page memory) ≡ page
  page_put =
      let before : length (take (8 * j) memory) ≡ 8 * j = length-take (8 * j) memory ∙ omega arith in
      ap (take 8) (drop_at (take (8 * j) memory) (page ++ drop (8 * j + 8) memory) (8 * j) before)
      ∙ take_at page (drop (8 * j + 8) memory) 8 eight

  page_before : (i : ℕ) → i < j → page_at i (put_page j page memory) ≡ page_at i memory
  page_before i l =
      let before : length (take (8 * j) memory) ≡ 8 * j = length-take (8 * j) memory ∙ omega arith in
      page_front i (take (8 * j) memory) (page ++ drop (8 * j + 8) memory) (omega arith)
      ∙ sym (page_front i (take (8 * j) memory) (drop (8 * j) memory) (omega arith))
      ∙ ap (page_at i) (take-append-drop (8 * j) memory)

  page_behind : (i : ℕ) → j < i → page_at i (put_page j page memory) ≡ page_at i memory
  page_behind i g =
      let before : length (take (8 * j) memory ++ page) ≡ 8 * j + 8 = simp (length-append, length-take) (omega arith) in
      let through : length (take (8 * j + 8) memory) ≡ 8 * j + 8 = length-take (8 * j + 8) memory ∙ omega arith in
      ap (page_at i) (sym (append_assoc (take (8 * j) memory) page (drop (8 * j + 8) memory)))
      ∙ page_back i (take (8 * j) memory ++ page) (drop (8 * j + 8) memory) (i - j - 1) (omega arith)
      ∙ sym (page_back i (take (8 * j + 8) memory) (drop (8 * j + 8) memory) (i - j - 1) (omega arith))
      ∙ ap (page_at i) (take-append-drop (8 * j + 8) memory)

  pub page_kept : (i : ℕ) → (i ≡ j → ⊥) → page_at i (put_page j page memory) ≡ page_at i memory
  page_kept i apart =
      ⊎_elim (λ (l : i < j). page_before i l) (λ (g : j ≤ i). page_behind i (omega arith)) (cases_lt i j)

-- pages of a tag
pub page_long : (m : PumpMeaning) → PumpSized m → (i : ℕ) → i < 32 → length (page_of i m) ≡ 8
page_long m sized i below =
    ⊎_elim
    (λ (l : i < 3). let t : ltb i 3 ≡ true = lt-ltb i 3 l in simp (t, length-take, length-drop) (omega arith))
    (λ (g : 3 ≤ i). let t : ltb i 3 ≡ false = le-ltb i 3 g in simp (t, length-take, length-drop) (omega arith))
    (cases_lt i 3)

module _ (m : PumpMeaning) (sized : PumpSized m) (j : ℕ) (below : j < 32) (page : List ℕ) (eight : length page ≡ 8) where
  pub replaced_sized : PumpSized (with_page j page m)
  replaced_sized =
      ⊎_elim
      (λ (l : j < 3). let t : ltb j 3 ≡ true = lt-ltb j 3 l in
      record { shown = simp t (length_put j page m.shown.pages eight (omega arith) ∙ sized.shown); hidden = simp t sized.hidden })
      (λ (g : 3 ≤ j). let t : ltb j 3 ≡ false = le-ltb j 3 g in
      record { shown = simp t sized.shown; hidden = simp t (length_put (j - 3) page m.hidden eight (omega arith) ∙ sized.hidden) })
      (cases_lt j 3)

  pub replaced_here : page_of j (with_page j page m) ≡ page
  replaced_here =
      ⊎_elim
      (λ (l : j < 3). let t : ltb j 3 ≡ true = lt-ltb j 3 l in simp t (page_put j page m.shown.pages eight (omega arith)))
      (λ (g : 3 ≤ j). let t : ltb j 3 ≡ false = le-ltb j 3 g in simp t (page_put (j - 3) page m.hidden eight (omega arith)))
      (cases_lt j 3)

  pub replaced_elsewhere : (i : ℕ) → i < 32 → (i ≡ j → ⊥) → page_of i (with_page j page m) ≡ page_of i m
  replaced_elsewhere i under apart =
      ⊎_elim
      (λ (l : j < 3). let t : ltb j 3 ≡ true = lt-ltb j 3 l in
      simp t (ap (λ (p : List ℕ). cond (ltb i 3) p (page_at (i - 3) m.hidden)) (page_kept j page m.shown.pages eight (omega arith) i apart)))
      (λ (g : 3 ≤ j). let t : ltb j 3 ≡ false = le-ltb j 3 g in
      ⊎_elim
      (λ (l : i < 3). let s : ltb i 3 ≡ true = lt-ltb i 3 l in simp (t, s) refl)
      (λ (f : 3 ≤ i). let s : ltb i 3 ≡ false = le-ltb i 3 f in
      simp (t, s) (page_kept (j - 3) page m.hidden eight (omega arith) (i - 3) (λ e. apart (omega arith))))
      (cases_lt i 3))
      (cases_lt j 3)
