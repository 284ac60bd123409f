-- What is heard makes one list and no other.
use Rattle.std.proofs.Common.{◌≡◌, ℕ, inl, inr, ⊎_elim, Bool, true, false, Decides, List, [], ◌∷◌, ◌++◌, bytes_eq, sym, refl, ap, subst, ◌∙◌}
use Rattle.std.proofs.lemmas.Bool.Decides.{not_from_Decides}
use Rattle.std.proofs.lemmas.List.{append-nil, append_assoc}
use Rattle.std.proofs.lemmas.Slice.Eq.{bytes_eq-Decides}
use Rattle.tray_core.specs.Course.{Among, Lists}
use Rattle.tray_core.proofs.Listing.{among_there}

-- where a value was first heard
record FirstHeard (x : List ℕ) (heard : List (List ℕ)) : Type 0 where
  before : List (List ℕ)
  after : List (List ℕ)
  splits : heard ≡ before ++ (x ∷ after)
  unheard : Among x before → ⊥

heard_at : (x y : List ℕ) (ys : List (List ℕ)) → Among x (y ∷ ys) → (Among x ys → FirstHeard x ys) → (same : Bool) → Decides same (x ≡ y) → FirstHeard x (y ∷ ys)
heard_at x y ys some later true d =
    record { before = []; after = ys; splits = ap (λ (z : List ℕ). z ∷ ys) (sym (d.0 refl)); unheard = λ none. none }
heard_at x y ys some later false d =
    let other : x ≡ y → ⊥ = not_from_Decides false d refl in
    let rest = later (⊎_elim (λ (e : x ≡ y). absurd (other e)) (λ (m : Among x ys). m) some) in
    record {
      before = y ∷ rest.before;
      after = rest.after;
      splits = ap (◌∷◌ y) rest.splits;
      unheard = λ among. ⊎_elim other rest.unheard among;
    }

first_heard : (x : List ℕ) (heard : List (List ℕ)) → Among x heard → FirstHeard x heard
first_heard x [] none = absurd none
first_heard x (y ∷ ys) some = heard_at x y ys some (first_heard x ys) (bytes_eq x y) (bytes_eq-Decides x y)

-- two values, neither of them heard before the other, are equal
neither_first : (x y : List ℕ) (before after earlier later : List (List ℕ)) → before ++ (x ∷ after) ≡ earlier ++ (y ∷ later)
    → (Among y before → ⊥) → (Among x earlier → ⊥) → x ≡ y
neither_first x y [] after [] later e ys xs = cc
neither_first x y [] after (b ∷ earlier) later e ys xs = let same : x ≡ b = cc in absurd (xs (inl same))
neither_first x y (a ∷ before) after [] later e ys xs = let same : y ≡ a = cc in absurd (ys (inl same))
neither_first x y (a ∷ before) after (b ∷ earlier) later e ys xs =
    neither_first x y before after earlier later (cc) (λ m. ys (inr m)) (λ m. xs (inr m))

module _ (heard xs ys : List (List ℕ)) (one : Lists heard xs) (other : Lists heard ys) where
  -- the next entry, after a common front
  next : (front more rest : List (List ℕ)) (x y : List ℕ) → xs ≡ front ++ (x ∷ more) → ys ≡ front ++ (y ∷ rest) → x ≡ y
  next front more rest x y is are =
      let a = first_heard x heard (one.only x (among_there x front more xs is)) in
      let b = first_heard y heard (other.only y (among_there y front rest ys are)) in
      neither_first x y a.before a.after b.before b.after (sym a.splits ∙ b.splits)
      (λ m. (other.once front rest y are).0 ((one.order front more a.before a.after x y is a.splits a.unheard).1 m))
      (λ m. (one.once front more x is).0 ((other.order front rest b.before b.after y x are b.splits b.unheard).1 m))

  -- none is left in one list only
  ended : (us vs front more : List (List ℕ)) (x : List ℕ) → Lists heard us → Lists heard vs → us ≡ front ++ [] → vs ≡ front ++ (x ∷ more) → ⊥
  ended us vs front more x u v is are =
      (v.once front more x are).0
      (subst (Among x) (is ∙ append-nil front) (u.all x (v.only x (among_there x front more vs are))))

  on : (x : List ℕ) (all front more : List (List ℕ)) → all ≡ front ++ (x ∷ more) → all ≡ (front ++ (x ∷ [])) ++ more
  on x all front more is = is ∙ sym (append_assoc front (x ∷ []) more)

  same_rest : (front more rest : List (List ℕ)) → xs ≡ front ++ more → ys ≡ front ++ rest → more ≡ rest
  same_rest front [] [] is are = refl
  same_rest front [] (y ∷ rest) is are = absurd (ended xs ys front rest y one other is are)
  same_rest front (x ∷ more) [] is are = absurd (ended ys xs front more x other one are is)
  same_rest front (x ∷ more) (y ∷ rest) is are =
      let same : x ≡ y = next front more rest x y is are in
      let here : ys ≡ front ++ (x ∷ rest) = subst (λ (z : List ℕ). ys ≡ front ++ (z ∷ rest)) (sym same) are in
      ap (λ (z : List ℕ). z ∷ more) same
      ∙ ap (◌∷◌ y) (same_rest (front ++ (x ∷ [])) more rest (on x xs front more is) (on x ys front rest here))

  pub same_list : xs ≡ ys
  same_list = same_rest [] xs ys refl refl
