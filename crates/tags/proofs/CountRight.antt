-- COUNT changes the page that the table of rights gives to it, and no other.
use Rattle.std.proofs.Common.{◌≡◌, ℕ, ◌+◌, ◌*◌, ◌<◌, ◌≤◌, Bool, true, false, cond, eqb, List, get_or, refl, ap, ◌∙◌, subst, inl, inr, ⊎_elim, arith}
use Rattle.std.proofs.lemmas.Bool.{eqb-true, cases_lt}
use Rattle.std.proofs.lemmas.List.FromFn.{get_or-map-range_with_len}
use Rattle.tags.specs.declared.rights.Writing.TheVariants.{WhenOpen, ByCount, Never}
use Rattle.tags.specs.DataLaws.{memory_of, page_in, counter_of, ChangesOnly}
use Rattle.tags.specs.Pump.{PumpMeaning}
use Rattle.tags.specs.Rules.{writing_of}
use Rattle.tags.proofs.Bytes.{eight_is}

-- the one page that COUNT writes
row_is : (zeroth second : Bool) → cond zeroth Never (cond second ByCount WhenOpen) ≡ ByCount → second ≡ true
row_is true second e = absurd cc
row_is false true e = refl
row_is false false e = absurd cc

by_count_two : (page : ℕ) → writing_of page ≡ ByCount → page ≡ 2
by_count_two page e = eqb-true page 2 (row_is (eqb page 0) (eqb page 2) e)

module _ (m after : PumpMeaning) where
  pub counts_page : counter_of after ≡ counter_of m + 1 → (page : ℕ) → writing_of page ≡ ByCount → page_in page after ≡ page_in page m → ⊥
  counts_page risen page right same =
      let two : page_in 2 after ≡ page_in 2 m = subst (λ (n : ℕ). page_in n after ≡ page_in n m) (by_count_two page right) same in
      let low : get_or (memory_of after) 22 0 ≡ get_or (memory_of m) 22 0 = ap (λ (l : List ℕ). get_or l 6 0) two in
      let high : get_or (memory_of after) 23 0 ≡ get_or (memory_of m) 23 0 = ap (λ (l : List ℕ). get_or l 7 0) two in
      omega (arith, risen, low, high)

  pub spares_page : ChangesOnly 16 24 m after → (page : ℕ) → page < 32 → (writing_of page ≡ ByCount → ⊥) → page_in page after ≡ page_in page m
  spares_page changes page below right =
      let apart : page ≡ 2 → ⊥ = λ (e : page ≡ 2). right (ap writing_of e) in
      eight_is (8 * page) (memory_of m) (page_in page after) refl
      (λ j under.
      get_or-map-range_with_len (λ (i : ℕ). get_or (memory_of after) (8 * page + i) 0) 0 8 j j 0 under (omega arith)
      ∙ changes.others (8 * page + j) (omega arith)
      (⊎_elim
      (λ (l : page < 2). inl (omega arith))
      (λ (g : 2 ≤ page). inr (⊎_elim (λ (k : page < 3). absurd (apart (omega arith))) (λ (h : 3 ≤ page). omega arith) (cases_lt page 3)))
      (cases_lt page 2)))
