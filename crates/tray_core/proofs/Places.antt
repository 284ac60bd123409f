-- What a call makes of one place of a row, and so of every place of a row of a tray.
use Rattle.std.proofs.Common.{◌≡◌, ℕ, zero, suc, ◌+◌, ◌-◌, ◌<◌, ◌≤◌, ⊎_elim, Bool, true, false, cond, not, ◌&&◌, ◌||◌, eqb, leb, List, [], ◌∷◌, map, length, Some, None, Option, slice_get, option_map, sym, refl, ap, ◌∙◌, arith}
use Rattle.std.proofs.lemmas.Bool.{and_parts, cond_both, ne_eqb, leb-true, leb-false, or_cases}
use Rattle.std.proofs.lemmas.Bool.Decides.{nat_tests}
use Rattle.std.proofs.lemmas.Option.{slice_get-map}
use Rattle.std.proofs.Math.Dec.{eqb-suc-suc, eqb-suc-zero, eqb-zero-suc}
use Rattle.kinds.specs.Kinds.{Meaning, Behaviour}
use Rattle.tray_core.specs.Rows.{Post, if_here, change_at, row_gains, row_loses, placed, lifted, hearing, row_hears}
use Rattle.tray_core.specs.Step.{Asks, On, Off, Place, Lift, Frame, Stock, refused_by, does}
use Rattle.tray_core.specs.Steps.{befalls, lit_by}
use Rattle.tray_core.specs.Trays.{Model, rows_fit, in_front, in_back, names, turned_on, turned_off, with_placed, with_lifted, after_frame}

same_map : {A : Type 0} (f g : A → A) (o : Option A) → ((p : A) → f p ≡ g p) → option_map f o ≡ option_map g o
same_map f g None same = refl
same_map f g (Some p) same = ap Some (same p)

-- where nothing befalls the tags of a row
untouched : {A : Type 0} (f : A → A) (row : List A) (n : ℕ) → ((p : A) → n < length row → f p ≡ p) → slice_get row n ≡ option_map f (slice_get row n)
untouched f [] n none = refl
untouched f (p ∷ row) zero none = ap Some (sym (none p (omega arith)))
untouched f (p ∷ row) (suc n) none = untouched f row n (λ q low. none q (omega arith))

-- a place of a row after a change
get_change : {S H : Type 0} (k : ℕ) (g : Post S H → Post S H) (row : List (Post S H)) (n : ℕ)
    → slice_get (change_at k g row) n ≡ option_map (λ p. cond (eqb k n) (g p) p) (slice_get row n)
get_change k g [] n = refl
get_change zero g (p ∷ row) zero = refl
get_change zero g (p ∷ row) (suc n) = untouched (λ q. cond (eqb zero (suc n)) (g q) q) row n (λ q low. ap (λ x. cond x (g q) q) (eqb-zero-suc n))
get_change (suc k) g (p ∷ row) zero = ap Some (sym (ap (λ x. cond x (g p) p) (eqb-suc-zero k)))
get_change (suc k) g (p ∷ row) (suc n) = get_change k g row n ∙ same_map _ _ (slice_get row n) (λ q. ap (λ x. cond x (g q) q) (sym (eqb-suc-suc k n)))

abbrev post : {S H : Type 0} → Bool → Meaning S H → Post S H
post here m = record { here = here; tag = m }

-- one tag
module _ {S H : Type 0} (b : Behaviour S H) where
  on_again : (n : ℕ) (here : Bool) (m : Meaning S H) → befalls b On true n (post here m) ≡ post here m
  on_again n true m = refl
  on_again n false m = refl

  on_first : (n : ℕ) (here : Bool) (m : Meaning S H) → if_here b.gains (post here m) ≡ befalls b On false n (post here m)
  on_first n true m = refl
  on_first n false m = refl

  off_again : (n : ℕ) (here : Bool) (m : Meaning S H) → befalls b Off false n (post here m) ≡ post here m
  off_again n true m = refl
  off_again n false m = refl

  off_first : (n : ℕ) (here : Bool) (m : Meaning S H) → if_here b.loses (post here m) ≡ befalls b Off true n (post here m)
  off_first n true m = refl
  off_first n false m = refl

  hears_dark : (frame : List ℕ) (n : ℕ) (here : Bool) (m : Meaning S H) → befalls b (Frame frame) false n (post here m) ≡ post here m
  hears_dark frame n true m = refl
  hears_dark frame n false m = refl

  hears_lit : (frame : List ℕ) (n : ℕ) (here : Bool) (m : Meaning S H) → if_here (hearing b frame) (post here m) ≡ befalls b (Frame frame) true n (post here m)
  hears_lit frame n true m = refl
  hears_lit frame n false m = refl

  placed_so : (same field here : Bool) (m : Meaning S H)
      → cond same (placed b field (post here m)) (post here m) ≡ record { here = here || same; tag = cond (same && (field && not here)) (b.gains m) m }
  placed_so true true true m = refl
  placed_so true false true m = refl
  placed_so true true false m = refl
  placed_so true false false m = refl
  placed_so false field true m = refl
  placed_so false field false m = refl

  lifted_so : (same field here : Bool) (m : Meaning S H)
      → cond same (lifted b field (post here m)) (post here m) ≡ record { here = here && not same; tag = cond (same && (field && here)) (b.loses m) m }
  lifted_so true true true m = refl
  lifted_so true false true m = refl
  lifted_so true true false m = refl
  lifted_so true false false m = refl
  lifted_so false field true m = refl
  lifted_so false field false m = refl

  -- one tag of a row
  gains_at : (i n : ℕ) (row : List (Post S H)) → slice_get (map (if_here b.gains) row) i ≡ option_map (befalls b On false n) (slice_get row i)
  gains_at i n row = slice_get-map (if_here b.gains) row i ∙ same_map _ _ (slice_get row i) (λ p. on_first n p.here p.tag)

  loses_at : (i n : ℕ) (row : List (Post S H)) → slice_get (map (if_here b.loses) row) i ≡ option_map (befalls b Off true n) (slice_get row i)
  loses_at i n row = slice_get-map (if_here b.loses) row i ∙ same_map _ _ (slice_get row i) (λ p. off_first n p.here p.tag)

  hears_at : (frame : List ℕ) (i n : ℕ) (row : List (Post S H))
      → slice_get (map (if_here (hearing b frame)) row) i ≡ option_map (befalls b (Frame frame) true n) (slice_get row i)
  hears_at frame i n row = slice_get-map (if_here (hearing b frame)) row i ∙ same_map _ _ (slice_get row i) (λ p. hears_lit frame n p.here p.tag)

  -- k is its place in the row, and j its number
  placed_at : (k j i n : ℕ) (field : Bool) (row : List (Post S H)) → eqb k i ≡ eqb j n
      → slice_get (change_at k (placed b field) row) i ≡ option_map (befalls b (Place j) field n) (slice_get row i)
  placed_at k j i n field row e =
      get_change k (placed b field) row i
      ∙ same_map _ _ (slice_get row i) (λ p. ap (λ x. cond x (placed b field p) p) e ∙ placed_so (eqb j n) field p.here p.tag)

  lifted_at : (k j i n : ℕ) (field : Bool) (row : List (Post S H)) → eqb k i ≡ eqb j n
      → slice_get (change_at k (lifted b field) row) i ≡ option_map (befalls b (Lift j) field n) (slice_get row i)
  lifted_at k j i n field row e =
      get_change k (lifted b field) row i
      ∙ same_map _ _ (slice_get row i) (λ p. ap (λ x. cond x (lifted b field p) p) e ∙ lifted_so (eqb j n) field p.here p.tag)

  -- a call for a tag that is none of this row
  place_other : (j i n : ℕ) (field : Bool) (row : List (Post S H)) → (i < length row → j ≡ n → ⊥)
      → slice_get row i ≡ option_map (befalls b (Place j) field n) (slice_get row i)
  place_other j i n field row other =
      untouched (befalls b (Place j) field n) row i
      (λ p low. sym (placed_so (eqb j n) field p.here p.tag) ∙ ap (λ x. cond x (placed b field p) p) (ne_eqb j n (other low)))

  lift_other : (j i n : ℕ) (field : Bool) (row : List (Post S H)) → (i < length row → j ≡ n → ⊥)
      → slice_get row i ≡ option_map (befalls b (Lift j) field n) (slice_get row i)
  lift_other j i n field row other =
      untouched (befalls b (Lift j) field n) row i
      (λ p low. sym (lifted_so (eqb j n) field p.here p.tag) ∙ ap (λ x. cond x (lifted b field p) p) (ne_eqb j n (other low)))

  -- power and a frame, with the field on or off
  on_at : (field : Bool) (i n : ℕ) (row : List (Post S H)) → slice_get (cond field row (row_gains b row)) i ≡ option_map (befalls b On field n) (slice_get row i)
  on_at true i n row = untouched (befalls b On true n) row i (λ p low. on_again n p.here p.tag)
  on_at false i n row = gains_at i n row

  off_at : (field : Bool) (i n : ℕ) (row : List (Post S H)) → slice_get (cond field (row_loses b row) row) i ≡ option_map (befalls b Off field n) (slice_get row i)
  off_at true i n row = loses_at i n row
  off_at false i n row = untouched (befalls b Off false n) row i (λ p low. off_again n p.here p.tag)

  frame_at : (frame : List ℕ) (field : Bool) (i n : ℕ) (row : List (Post S H))
      → slice_get (cond field (row_hears b frame row) row) i ≡ option_map (befalls b (Frame frame) field n) (slice_get row i)
  frame_at frame true i n row = hears_at frame i n row
  frame_at frame false i n row = untouched (befalls b (Frame frame) false n) row i (λ p low. hears_dark frame n p.here p.tag)

shifted : (k i : ℕ) → 32 ≤ k → eqb (k - 32) i ≡ eqb k (32 + i)
shifted k i high = grind (arith, nat_tests)

chosen : {A C : Type 0} (f : A → C) (x : Bool) (a c : A) → f (cond x a c) ≡ cond x (f a) (f c)
chosen f true a c = refl
chosen f false a c = refl

both_yes : (x y : Bool) → cond {A = Option ℕ} x (cond y None (Some 5)) (Some 4) ≡ None → (x ≡ true) × (y ≡ true)
both_yes true true e = (refl, refl)
both_yes true false e = absurd cc
both_yes false y e = absurd cc

module _ {SF HF SB HB : Type 0} (F : Behaviour SF HF) (B : Behaviour SB HB) where
  abbrev M : Type 0
  M = Model SF HF SB HB

  -- one row of a tray, whose tags are of one kind and have these numbers
  pub record Rowed {S H : Type 0} (b : Behaviour S H) (row : M → List (Post S H)) (number : ℕ → ℕ) : Type 0 where
    pub on : (t : M) → row (turned_on F B t) ≡ cond t.field (row t) (row_gains b (row t))
    pub off : (t : M) → row (turned_off F B t) ≡ cond t.field (row_loses b (row t)) (row t)
    pub hears : (frame : List ℕ) (t : M) → row (after_frame F B frame t) ≡ cond t.field (row_hears b frame (row t)) (row t)
    pub placing : (k : ℕ) (t : M) → rows_fit t ≡ true → names k t ≡ true → (i : ℕ)
        → slice_get (row (with_placed F B k t)) i ≡ option_map (befalls b (Place k) t.field (number i)) (slice_get (row t) i)
    pub lifting : (k : ℕ) (t : M) → rows_fit t ≡ true → names k t ≡ true → (i : ℕ)
        → slice_get (row (with_lifted F B k t)) i ≡ option_map (befalls b (Lift k) t.field (number i)) (slice_get (row t) i)

  pub front_rowed : Rowed F (λ t. t.front) (λ i. i)
  front_rowed =
      record {
        on = λ t. chosen (λ (m : M). m.front) t.field _ _;
        off = λ t. chosen (λ (m : M). m.front) t.field _ _;
        hears = λ frame t. chosen (λ (m : M). m.front) t.field _ _;
        placing = λ k t fit named i.
            cond_both (in_front k t) _ _ (λ (m : M). slice_get m.front i ≡ option_map (befalls F (Place k) t.field i) (slice_get t.front i))
            (λ e. placed_at F k k i i t.field t.front refl)
            (λ e. let high = leb-false (suc k) (length t.front) e in place_other F k i i t.field t.front (λ low same. omega arith));
        lifting = λ k t fit named i.
            cond_both (in_front k t) _ _ (λ (m : M). slice_get m.front i ≡ option_map (befalls F (Lift k) t.field i) (slice_get t.front i))
            (λ e. lifted_at F k k i i t.field t.front refl)
            (λ e. let high = leb-false (suc k) (length t.front) e in lift_other F k i i t.field t.front (λ low same. omega arith));
      }

  -- a front row that fits ends below 32, and a number that is not in front is behind
  short_front : (t : M) → rows_fit t ≡ true → length t.front ≤ 32
  short_front t fit = let both = and_parts (leb (length t.front) 32) (leb (length t.back) 32) fit in leb-true (length t.front) 32 both.0

  behind : (k : ℕ) (t : M) → names k t ≡ true → in_front k t ≡ false → 32 ≤ k
  behind k t named past =
      ⊎_elim
      (λ (x : in_front k t ≡ true). absurd cc)
      (λ (x : in_back k t ≡ true). let both = and_parts (leb 32 k) (leb (suc (k - 32)) (length t.back)) x in leb-true 32 k both.0)
      (or_cases (in_front k t) (in_back k t) named)

  pub back_rowed : Rowed B (λ t. t.back) (λ i. 32 + i)
  back_rowed =
      record {
        on = λ t. chosen (λ (m : M). m.back) t.field _ _;
        off = λ t. chosen (λ (m : M). m.back) t.field _ _;
        hears = λ frame t. chosen (λ (m : M). m.back) t.field _ _;
        placing = λ k t fit named i.
            let few = short_front t fit in
            cond_both (in_front k t) _ _ (λ (m : M). slice_get m.back i ≡ option_map (befalls B (Place k) t.field (32 + i)) (slice_get t.back i))
            (λ e. let low = leb-true (suc k) (length t.front) e in place_other B k i (32 + i) t.field t.back (λ short same. omega arith))
            (λ e. placed_at B (k - 32) k i (32 + i) t.field t.back (shifted k i (behind k t named e)));
        lifting = λ k t fit named i.
            let few = short_front t fit in
            cond_both (in_front k t) _ _ (λ (m : M). slice_get m.back i ≡ option_map (befalls B (Lift k) t.field (32 + i)) (slice_get t.back i))
            (λ e. let low = leb-true (suc k) (length t.front) e in lift_other B k i (32 + i) t.field t.back (λ short same. omega arith))
            (λ e. lifted_at B (k - 32) k i (32 + i) t.field t.back (shifted k i (behind k t named e)));
      }

  -- what a frame, and a call that is taken, makes of every tag of a row
  module _ {S H : Type 0} (b : Behaviour S H) (row : M → List (Post S H)) (number : ℕ → ℕ) (rowed : Rowed b row number) where
    pub heard_at : (frame : List ℕ) (t : M) (i : ℕ) → slice_get (row (after_frame F B frame t)) i ≡ option_map (befalls b (Frame frame) t.field (number i)) (slice_get (row t) i)
    heard_at frame t i = ap (λ (r : List (Post S H)). slice_get r i) (rowed.hears frame t) ∙ frame_at b frame t.field i (number i) (row t)

    pub done_at : (c : Asks) (t : M) (buffer : List ℕ) (list : List (List ℕ)) → refused_by c t buffer list ≡ None → (c ≡ Stock → ⊥) → (i : ℕ)
        → slice_get (row (does F B c t buffer list).tray) i ≡ option_map (befalls b c t.field (number i)) (slice_get (row t) i)
    done_at On t buffer list taken other i = ap (λ (r : List (Post S H)). slice_get r i) (rowed.on t) ∙ on_at b t.field i (number i) (row t)
    done_at Off t buffer list taken other i = ap (λ (r : List (Post S H)). slice_get r i) (rowed.off t) ∙ off_at b t.field i (number i) (row t)
    done_at (Place k) t buffer list taken other i = let yes = both_yes (rows_fit t) (names k t) taken in rowed.placing k t yes.0 yes.1 i
    done_at (Lift k) t buffer list taken other i = let yes = both_yes (rows_fit t) (names k t) taken in rowed.lifting k t yes.0 yes.1 i
    done_at (Frame frame) t buffer list taken other i = heard_at frame t i
    done_at Stock t buffer list taken other i = absurd (other refl)

  -- and of the field
  module _ (t : M) (buffer : List ℕ) (list : List (List ℕ)) where
    pub field_done : (c : Asks) → (c ≡ Stock → ⊥) → (does F B c t buffer list).tray.field ≡ lit_by c t.field
    field_done On other = cond_both t.field _ _ (λ (m : M). m.field ≡ true) (λ e. e) (λ e. refl)
    field_done Off other = cond_both t.field _ _ (λ (m : M). m.field ≡ false) (λ e. refl) (λ e. e)
    field_done (Place k) other = cond_both (in_front k t) _ _ (λ (m : M). m.field ≡ t.field) (λ e. refl) (λ e. refl)
    field_done (Lift k) other = cond_both (in_front k t) _ _ (λ (m : M). m.field ≡ t.field) (λ e. refl) (λ e. refl)
    field_done (Frame frame) other = cond_both t.field _ _ (λ (m : M). m.field ≡ t.field) (λ e. refl) (λ e. refl)
    field_done Stock other = absurd (other refl)
