-- A draft of a row is changed.
use Rattle.std.proofs.Common.{◌≡◌, ℕ, zero, suc, ◌<◌, ◌≤◌, Bool, true, false, cond, List, [], ◌∷◌, map, length, get_or, set, Ok, Err, Result, refl, ap, arith}
use Rattle.sheet.specs.declared.drafts.Draft as coded
use Rattle.sheet.specs.Drafts.{Draft, changed_at, in_front, behind, draft_of, tag_of}
use Rattle.sheet.specs.Sheets.{tags_of}

module _ {V M : Type 0} (v : V → Draft M) (f : Draft M → Result (Draft M) ℕ) where
  changed_past : (n : ℕ) (xs : List V) → length xs ≤ n → Err 18 ≡ changed_at n f (map v xs)
  changed_past n [] h = refl
  changed_past zero (x ∷ xs) h = absurd (omega arith)
  changed_past (suc n) (x ∷ xs) h = ap (behind (v x)) (changed_past n xs (omega arith))

  changed_ok : (n : ℕ) (xs : List V) (d y : V) → n < length xs → Ok (v y) ≡ f (v (get_or xs n d)) → Ok (map v (set xs n y)) ≡ changed_at n f (map v xs)
  changed_ok n [] d y h e = absurd (omega arith)
  changed_ok zero (x ∷ xs) d y h e = ap (λ (r : Result (Draft M) ℕ). in_front r (map v xs)) e
  changed_ok (suc n) (x ∷ xs) d y h e = ap (behind (v x)) (changed_ok n xs d y (omega arith) e)

  changed_err : (n : ℕ) (xs : List V) (d : V) (why : ℕ) → n < length xs → Err why ≡ f (v (get_or xs n d)) → Err why ≡ changed_at n f (map v xs)
  changed_err n [] d why h e = absurd (omega arith)
  changed_err zero (x ∷ xs) d why h e = ap (λ (r : Result (Draft M) ℕ). in_front r (map v xs)) e
  changed_err (suc n) (x ∷ xs) d why h e = ap (behind (v x)) (changed_err n xs d why (omega arith) e)

  -- the same where the page may not be there
  pub row_past : (b : Bool) (n : ℕ) (xs : List V) → length xs ≤ n → Err 18 ≡ cond b (changed_at n f (map v xs)) (Err 18)
  row_past true n xs h = changed_past n xs h
  row_past false n xs h = refl

  pub row_ok : (b : Bool) (n : ℕ) (xs : List V) (d y : V) → n < length xs → Ok (v y) ≡ cond b (f (v (get_or xs n d))) (Err 18) → Ok (map v (set xs n y)) ≡ cond b (changed_at n f (map v xs)) (Err 18)
  row_ok true n xs d y h e = changed_ok n xs d y h e
  row_ok false n xs d y h e = cc

  pub row_err : (b : Bool) (n : ℕ) (xs : List V) (d : V) (why : ℕ) → n < length xs → Err why ≡ cond b (f (v (get_or xs n d))) (Err 18) → Err why ≡ cond b (changed_at n f (map v xs)) (Err 18)
  row_err true n xs d why h e = changed_err n xs d why h e
  row_err false n xs d why h e = let same : why ≡ 18 = cc in ap (λ (k : ℕ). Err k) same

-- the tags of the drafts
pub tags_mean : {T M : Type 0} {N : ℕ} (means : T → M) (xs : List (coded.Draft T N)) → map means (map tag_of xs) ≡ tags_of (map (draft_of means) xs)
tags_mean means [] = refl
tags_mean means (x ∷ xs) = ap (λ (t : List _). means x.tag ∷ t) (tags_mean means xs)
