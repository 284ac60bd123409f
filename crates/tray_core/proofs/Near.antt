-- Rows that differ at most in what one closed tag hides, and all that a tray does to a row: they stay so.
use Rattle.std.proofs.Common.{◌≡◌, ℕ, zero, suc, Bool, true, false, List, [], ◌∷◌, map, length, Some, None, Option, slice_get, refl, ap, subst}
use Rattle.kinds.specs.Kinds.{Meaning, Behaviour, Duties, Twins}
use Rattle.tray_core.specs.Rows.{Post, if_here, change_at, row_gains, row_loses, placed, lifted, voice_at, row_hears, row_sounds}
use Rattle.tray_core.specs.Hiding.{ApartAt, place_accepts}
use Rattle.tray_core.specs.Sounds.{voice, meet}

-- two places with twins, and two rows with such places at a number, or nowhere, and equal elsewhere
pub data NearPost {S H : Type 0} : Post S H → Post S H → Type 0 where
  near_post : (here : Bool) {m n : Meaning S H} → Twins m n → NearPost (record { here = here; tag = m }) (record { here = here; tag = n })

pub data NearRow {S H : Type 0} : Option ℕ → List (Post S H) → List (Post S H) → Type 0 where
  same : {row : List (Post S H)} → NearRow None row row
  first : {p q : Post S H} {row : List (Post S H)} → NearPost p q → NearRow (Some zero) (p ∷ row) (q ∷ row)
  later : {n : ℕ} {p : Post S H} {ps qs : List (Post S H)} → NearRow (Some n) ps qs → NearRow (Some (suc n)) (p ∷ ps) (p ∷ qs)

module _ {S H : Type 0} where
  -- near rows are equal, or apart at their number
  pub near_of_same : {ps qs : List (Post S H)} → ps ≡ qs → NearRow None ps qs
  near_of_same {ps} e = subst (NearRow None ps) e same

  pub same_of_near : {ps qs : List (Post S H)} → NearRow None ps qs → ps ≡ qs
  same_of_near same = refl

  pub near_of_apart : (n : ℕ) (ps qs : List (Post S H)) → ApartAt n ps qs → NearRow (Some n) ps qs
  near_of_apart zero [] [] apart = absurd apart
  near_of_apart (suc n) [] [] apart = absurd apart
  near_of_apart zero [] (q ∷ qs) apart = absurd apart
  near_of_apart (suc n) [] (q ∷ qs) apart = absurd apart
  near_of_apart zero (p ∷ ps) [] apart = absurd apart
  near_of_apart (suc n) (p ∷ ps) [] apart = absurd apart
  near_of_apart zero (p ∷ ps) (q ∷ qs) apart =
      let post : NearPost p q = subst (λ (here : Bool). NearPost p (record { here = here; tag = q.tag })) apart.0 (near_post p.here apart.1) in
      subst (λ (row : List (Post S H)). NearRow (Some zero) (p ∷ ps) (q ∷ row)) apart.2 (first post)
  near_of_apart (suc n) (p ∷ ps) (q ∷ qs) apart =
      subst (λ (r : Post S H). NearRow (Some (suc n)) (p ∷ ps) (r ∷ qs)) apart.0 (later (near_of_apart n ps qs apart.1))

  pub apart_of_near : {n : ℕ} {ps qs : List (Post S H)} → NearRow (Some n) ps qs → ApartAt n ps qs
  apart_of_near (first (near_post here twins)) = (refl, twins, refl)
  apart_of_near (later near) = (refl, apart_of_near near)

  pub same_length : {o : Option ℕ} {ps qs : List (Post S H)} → NearRow o ps qs → length ps ≡ length qs
  same_length same = refl
  same_length (first near) = refl
  same_length (later near) = ap suc (same_length near)

  -- a change that keeps places near keeps rows near, at every place or at one
  abbrev pub Keeps : (Post S H → Post S H) → Type 0
  Keeps change = (p q : Post S H) → NearPost p q → NearPost (change p) (change q)

  module _ (change : Post S H → Post S H) (keeps : Keeps change) where
    near_map : {o : Option ℕ} {ps qs : List (Post S H)} → NearRow o ps qs → NearRow o (map change ps) (map change qs)
    near_map same = same
    near_map (first near) = first (keeps _ _ near)
    near_map (later near) = later (near_map near)

    pub near_changed : {o : Option ℕ} {ps qs : List (Post S H)} (k : ℕ) → NearRow o ps qs → NearRow o (change_at k change ps) (change_at k change qs)
    near_changed k same = same
    near_changed zero (first near) = first (keeps _ _ near)
    near_changed (suc k) (first near) = first near
    near_changed zero (later near) = later near
    near_changed (suc k) (later near) = later (near_changed k near)

  keeps_if_here : (change : Meaning S H → Meaning S H) → ((m n : Meaning S H) → Twins m n → Twins (change m) (change n)) → Keeps (if_here change)
  keeps_if_here change keeps p q (near_post true twins) = near_post true (keeps _ _ twins)
  keeps_if_here change keeps p q (near_post false twins) = near_post false twins

  -- the tag with a number, if any, accepts a check
  abbrev pub accepts_in : Behaviour S H → Option ℕ → List ℕ → List (Post S H) → Bool
  accepts_in acts None frame row = false
  accepts_in acts (Some n) frame row = place_accepts acts frame (slice_get row n)

  -- what a kind that keeps its duties does
  module _ {off : S → Bool} (acts : Behaviour S H) (duties : Duties off acts) where
    pub keeps_placed : (field : Bool) → Keeps (placed acts field)
    keeps_placed field p q (near_post true twins) = near_post true twins
    keeps_placed true p q (near_post false twins) = near_post true (duties.gaining _ _ twins)
    keeps_placed false p q (near_post false twins) = near_post true twins

    pub keeps_lifted : (field : Bool) → Keeps (lifted acts field)
    keeps_lifted true p q (near_post true twins) = near_post false (duties.losing _ _ twins.alike)
    keeps_lifted false p q (near_post true twins) = near_post false twins
    keeps_lifted field p q (near_post false twins) = near_post false twins

    pub near_gains : {o : Option ℕ} {ps qs : List (Post S H)} → NearRow o ps qs → NearRow o (row_gains acts ps) (row_gains acts qs)
    near_gains = near_map (if_here acts.gains) (keeps_if_here acts.gains duties.gaining)

    pub near_loses : {o : Option ℕ} {ps qs : List (Post S H)} → NearRow o ps qs → NearRow o (row_loses acts ps) (row_loses acts qs)
    near_loses = near_map (if_here acts.loses) (keeps_if_here acts.loses (λ m n twins. duties.losing m n twins.alike))

    -- rows that hear one frame, in which the tag accepts no check in either, sound the same
    pub near_hears : (frame : List ℕ) {o : Option ℕ} {ps qs : List (Post S H)} → NearRow o ps qs → accepts_in acts o frame ps ≡ false → accepts_in acts o frame qs ≡ false
        → (row_sounds acts frame ps ≡ row_sounds acts frame qs) × NearRow o (row_hears acts frame ps) (row_hears acts frame qs)
    near_hears frame same a b = (refl, same)
    near_hears frame (first {row = row} (near_post true {m = m} {n = n} twins)) a b =
        let (replies, after) = duties.hearing frame m n twins a b in
        (ap (λ (reply : List ℕ). meet (voice reply) (row_sounds acts frame row)) replies, first (near_post true after))
    near_hears frame (first (near_post false twins)) a b = (refl, first (near_post false twins))
    near_hears frame (later {p = p} near) a b =
        let (sounds, after) = near_hears frame near a b in
        (ap (meet (voice_at acts frame p)) sounds, later after)
