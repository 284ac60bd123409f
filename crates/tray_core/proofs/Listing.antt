-- What is listed of the serial numbers heard, one after another.
use Rattle.std.proofs.Common.{◌≡◌, ℕ, ◌⊎◌, inl, inr, ⊎_elim, Bool, true, false, cond, Decides, List, [], ◌∷◌, ◌++◌, bytes_eq, sym, refl, ap, subst}
use Rattle.std.proofs.lemmas.Bool.Decides.{Decides-or, not_from_Decides}
use Rattle.std.proofs.lemmas.List.{append-nil, append_assoc}
use Rattle.std.proofs.lemmas.Slice.Eq.{bytes_eq-Decides}
use Rattle.tray_core.specs.Course.{Among, Lists}
use Rattle.tray_core.specs.Stock.{lists, joins}

-- the list after these serial numbers were heard
abbrev pub noted_all : List (List ℕ) → List (List ℕ) → List (List ℕ)
noted_all [] xs = xs
noted_all (s ∷ more) xs = noted_all more (joins s xs)

-- the test that the list is put to
tells : (s : List ℕ) (xs : List (List ℕ)) → Decides (lists s xs) (Among s xs)
tells s [] = (λ e. absurd cc, λ none. absurd none)
tells s (x ∷ xs) = Decides-or (bytes_eq s x) (lists s xs) (bytes_eq-Decides s x) (tells s xs)

-- one more behind a list
among_front : (x s : List ℕ) (xs : List (List ℕ)) → Among x xs → Among x (xs ++ (s ∷ []))
among_front x s (y ∷ ys) (inl is) = inl is
among_front x s (y ∷ ys) (inr more) = inr (among_front x s ys more)
among_front x s [] none = absurd none

among_last : (x s : List ℕ) (xs : List (List ℕ)) → x ≡ s → Among x (xs ++ (s ∷ []))
among_last x s [] is = inl is
among_last x s (y ∷ ys) is = inr (among_last x s ys is)

among_push : (x s : List ℕ) (xs : List (List ℕ)) → Among x (xs ++ (s ∷ [])) → Among x xs ⊎ (x ≡ s)
among_push x s [] (inl is) = inr is
among_push x s [] (inr none) = absurd none
among_push x s (y ∷ ys) (inl is) = inl (inl is)
among_push x s (y ∷ ys) (inr more) = ⊎_elim (λ (m : Among x ys). inl (inr m)) (λ (e : x ≡ s). inr e) (among_push x s ys more)

-- a place of a list with one more behind it: the last, or an earlier one
data LastOrEarlier (x s : List ℕ) (first second xs : List (List ℕ)) : Type 0 where
  last : x ≡ s → first ≡ xs → second ≡ [] → LastOrEarlier x s first second xs
  earlier : (rest : List (List ℕ)) → xs ≡ first ++ (x ∷ rest) → second ≡ rest ++ (s ∷ []) → LastOrEarlier x s first second xs

further : (y x s : List ℕ) (first second xs : List (List ℕ)) → LastOrEarlier x s first second xs → LastOrEarlier x s (y ∷ first) second (y ∷ xs)
further y x s first second xs (last is whole none) = last is (ap (◌∷◌ y) whole) none
further y x s first second xs (earlier rest here then) = earlier rest (ap (◌∷◌ y) here) then

place : (x s : List ℕ) (first second xs : List (List ℕ)) → xs ++ (s ∷ []) ≡ first ++ (x ∷ second) → LastOrEarlier x s first second xs
place x s [] second [] e = last (cc) refl (cc)
place x s [] second (y ∷ ys) e = earlier ys (cc) (cc)
place x s (f ∷ []) second [] e = absurd cc
place x s (f ∷ (g ∷ first)) second [] e = absurd cc
place x s (f ∷ first) second (y ∷ ys) e =
    let same : y ≡ f = cc in
    subst (λ (g : List ℕ). LastOrEarlier x s (g ∷ first) second (y ∷ ys)) same (further y x s first second ys (place x s first second ys (cc)))

pub among_there : (x : List ℕ) (first second xs : List (List ℕ)) → xs ≡ first ++ (x ∷ second) → Among x xs
among_there x first second xs e = subst (Among x) (sym e) (there first)
  where
    there : (front : List (List ℕ)) → Among x (front ++ (x ∷ second))
    there [] = inl refl
    there (y ∷ ys) = inr (there ys)

-- one more serial number is heard
module _ (s : List ℕ) (heard entries : List (List ℕ)) (l : Lists heard entries) where
  known : Among s entries → Lists (heard ++ (s ∷ [])) entries
  known here =
      record {
        all = λ x some. ⊎_elim (l.all x) (λ (e : x ≡ s). subst (λ (y : List ℕ). Among y entries) (sym e) here) (among_push x s heard some);
        only = λ x some. among_front x s heard (l.only x some);
        once = l.once;
        order = λ first second before after x y is was unheard.
            order_known first second before after x y is unheard (place x s before after heard was);
      }
    where
      order_known : (first second before after : List (List ℕ)) (x y : List ℕ) → entries ≡ first ++ (x ∷ second) → (Among x before → ⊥)
          → LastOrEarlier x s before after heard → (Among y first → Among y before) × (Among y before → Among y first)
      order_known first second before after x y is unheard (last same whole none) =
          absurd (unheard (subst (Among x) (sym whole) (l.only x (among_there x first second entries is))))
      order_known first second before after x y is unheard (earlier rest was then) = l.order first second before rest x y is was unheard

  new : (Among s entries → ⊥) → Lists (heard ++ (s ∷ [])) (entries ++ (s ∷ []))
  new gone =
      record {
        all = λ x some. ⊎_elim (λ (h : Among x heard). among_front x s entries (l.all x h)) (among_last x s entries) (among_push x s heard some);
        only = λ x some. ⊎_elim (λ (h : Among x entries). among_front x s heard (l.only x h)) (among_last x s heard) (among_push x s entries some);
        once = λ first second x is. once_new first second x (place x s first second entries is);
        order = λ first second before after x y is was unheard.
            order_new first second before after x y unheard (place x s first second entries is) (place x s before after heard was);
      }
    where
      once_new : (first second : List (List ℕ)) (x : List ℕ) → LastOrEarlier x s first second entries → (Among x first → ⊥) × (Among x second → ⊥)
      once_new first second x (last same whole none) =
          (λ some. gone (subst (λ (y : List ℕ). Among y entries) same (subst (Among x) whole some)), λ some. subst (Among x) none some)
      once_new first second x (earlier rest was then) =
          let one = l.once first rest x was in (
            one.0,
            λ some.
                ⊎_elim one.1 (λ (e : x ≡ s). gone (subst (λ (y : List ℕ). Among y entries) e (among_there x first rest entries was)))
                (among_push x s rest (subst (Among x) then some)),
          )

      order_new : (first second before after : List (List ℕ)) (x y : List ℕ) → (Among x before → ⊥)
          → LastOrEarlier x s first second entries → LastOrEarlier x s before after heard → (Among y first → Among y before) × (Among y before → Among y first)
      order_new first second before after x y unheard (last same whole none) (last also all nothing) = (
        λ some. subst (Among y) (sym all) (l.only y (subst (Among y) whole some)),
        λ some. subst (Among y) (sym whole) (l.all y (subst (Among y) all some)),
      )
      order_new first second before after x y unheard (last same whole none) (earlier rest was then) =
          absurd (gone (subst (λ (z : List ℕ). Among z entries) same (l.all x (among_there x before rest heard was))))
      order_new first second before after x y unheard (earlier rest was then) (last same whole none) =
          absurd (unheard (subst (Among x) (sym whole) (l.only x (among_there x first rest entries was))))
      order_new first second before after x y unheard (earlier rest was then) (earlier more is next) =
          l.order first rest before more x y was is unheard

joined : (s : List ℕ) (heard entries : List (List ℕ)) → Lists heard entries → Lists (heard ++ (s ∷ [])) (joins s entries)
joined s heard entries l = by (lists s entries) (tells s entries)
  where
    by : (there : Bool) → Decides there (Among s entries) → Lists (heard ++ (s ∷ [])) (cond there entries (entries ++ (s ∷ [])))
    by true d = known s heard entries l (d.0 refl)
    by false d = new s heard entries l (not_from_Decides false d refl)

listing_on : (more heard entries : List (List ℕ)) → Lists heard entries → Lists (heard ++ more) (noted_all more entries)
listing_on [] heard entries l = subst (λ (h : List (List ℕ)). Lists h entries) (sym (append-nil heard)) l
listing_on (s ∷ more) heard entries l =
    subst (λ (h : List (List ℕ)). Lists h (noted_all more (joins s entries))) (append_assoc heard (s ∷ []) more)
    (listing_on more (heard ++ (s ∷ [])) (joins s entries) (joined s heard entries l))

nothing_listed : Lists [] []
nothing_listed =
    record {
      all = λ x none. none;
      only = λ x none. none;
      once = λ first second x is. elsewhere first second x is;
      order = λ first second before after x y is was unheard. absurd (among_there x first second [] is);
    }
  where
    elsewhere : (first second : List (List ℕ)) (x : List ℕ) → [] ≡ first ++ (x ∷ second) → (Among x first → ⊥) × (Among x second → ⊥)
    elsewhere first second x is = absurd (among_there x first second [] is)

pub listing : (heard : List (List ℕ)) → Lists heard (noted_all heard [])
listing heard = listing_on heard [] [] nothing_listed
