-- A memory in two parts: its pages lie in one part or the other.
use Rattle.std.proofs.Common.{◌≡◌, ℕ, ◌+◌, ◌*◌, ◌≤◌, List, ◌++◌, length, take, drop, refl, ap, ◌∙◌, append_assoc, arith}
use lib.Seq.{take-append-add, drop-append-add}
use Rattle.std.proofs.lemmas.List.{take-append-le, drop-append-le, length-append, length-take, length-drop}
use Rattle.tags.specs.Pages.{page_at, put_page}

module _ (n : ℕ) (f h : List ℕ) where
  -- a page of the front part
  pub page_front : 8 * n + 8 ≤ length f → page_at n (f ++ h) ≡ page_at n f
  page_front fits =
      let room : 8 ≤ length (drop (8 * n) f) = simp length-drop (omega arith) in
      ap (take 8) (drop-append-le (8 * n) f h (omega arith)) ∙ take-append-le 8 (drop (8 * n) f) h room

  pub put_front : (page : List ℕ) → 8 * n + 8 ≤ length f → put_page n page (f ++ h) ≡ put_page n page f ++ h
  put_front page fits =
      let a : take (8 * n) (f ++ h) ≡ take (8 * n) f = take-append-le (8 * n) f h (omega arith) in
      let b : drop (8 * n + 8) (f ++ h) ≡ drop (8 * n + 8) f ++ h = drop-append-le (8 * n + 8) f h (omega arith) in
      simp (a, b, append_assoc) refl

  -- page n of both is page k of the back part
  module _ (k : ℕ) (place : 8 * n ≡ length f + 8 * k) where
    pub page_back : page_at n (f ++ h) ≡ page_at k h
    page_back = ap (take 8) (ap (λ (i : ℕ). drop i (f ++ h)) place ∙ drop-append-add f h (8 * k))

    pub put_back : (page : List ℕ) → put_page n page (f ++ h) ≡ f ++ put_page k page h
    put_back page =
        let a : take (8 * n) (f ++ h) ≡ f ++ take (8 * k) h =
        ap (λ (i : ℕ). take i (f ++ h)) place ∙ take-append-add f h (8 * k) in
        let e : 8 * n + 8 ≡ length f + (8 * k + 8) = omega arith in
        let b : drop (8 * n + 8) (f ++ h) ≡ drop (8 * k + 8) h =
        ap (λ (i : ℕ). drop i (f ++ h)) e ∙ drop-append-add f h (8 * k + 8) in
        simp (a, b, append_assoc) refl

-- a page replaces a page: the length stays
pub length_put : (n : ℕ) (page memory : List ℕ) → length page ≡ 8 → 8 * n + 8 ≤ length memory → length (put_page n page memory) ≡ length memory
length_put n page memory eight fits = simp (length-append, length-take, length-drop) (omega arith)
