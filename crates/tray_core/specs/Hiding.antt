-- Hiding: no caller can tell two trays apart that differ only in what one closed tag hides.
use Rattle.std.specs.Prelude.{◌≡◌, ℕ, zero, suc, Bool, false, ◌&&◌, List, [], ◌∷◌, Some, None, Option, slice_get}
use Rattle.kinds.specs.Kinds.{Behaviour, Twins}
use Rattle.tray_core.specs.Rows.{Post}
use Rattle.tray_core.specs.Runs.{Turn, turn, run, seen}
use Rattle.tray_core.specs.Scripts.{Script, done, send}
use Rattle.tray_core.specs.Stock.{stocktaking}
use Rattle.tray_core.specs.Step.{Asks, On, Off, Place, Lift, Frame, Stock, refused_by}
use Rattle.tray_core.specs.Trays.{Model, after_frame, sounds_of}

-- A tag of either row, by its place.
pub data Which : Type 0 where
  front : ℕ → Which
  back : ℕ → Which

-- The tag of a place accepts a check in a frame: it is on the tray, and its own reaction to the
-- frame accepts one.
abbrev pub place_accepts : {S H : Type 0} → Behaviour S H → List ℕ → Option (Post S H) → Bool
place_accepts b frame None = false
place_accepts b frame (Some p) = p.here && (b.hears frame p.tag).accepted

module _ {SF HF SB HB : Type 0} (F : Behaviour SF HF) (B : Behaviour SB HB) where
  -- A tag accepts a check in a frame on the air: the field is on, and the tag of its place
  -- accepts one.
  abbrev pub accepts : Which → List ℕ → Model SF HF SB HB → Bool
  accepts (front n) frame t = t.field && place_accepts F frame (slice_get t.front n)
  accepts (back n) frame t = t.field && place_accepts B frame (slice_get t.back n)

  -- It accepts none in all the frames of a script.
  abbrev pub NoneInScript : {A : Type 0} → Which → Script A → Model SF HF SB HB → Type 0
  NoneInScript w (done a) t = Unit {0}
  NoneInScript w (send frame next) t =
      (accepts w frame t ≡ false)
      × NoneInScript w (next (sounds_of F B frame t)) (after_frame F B frame t)

  -- It accepts none in a call, the frames that a stock sends included. A refused call sends none.
  abbrev pub NoneInCall : Which → Option ℕ → Asks → Model SF HF SB HB → Type 0
  NoneInCall w (Some why) c t = Unit {0}
  NoneInCall w None On t = Unit {0}
  NoneInCall w None Off t = Unit {0}
  NoneInCall w None (Place n) t = Unit {0}
  NoneInCall w None (Lift n) t = Unit {0}
  NoneInCall w None (Frame frame) t = accepts w frame t ≡ false
  NoneInCall w None Stock t = NoneInScript w stocktaking t

  -- It accepts none in a run.
  abbrev pub NoCheck : Which → Model SF HF SB HB → List Turn → Type 0
  NoCheck w t [] = Unit {0}
  NoCheck w t (c ∷ more) =
      NoneInCall w (refused_by c.call t c.buffer c.list) c.call t
      × NoCheck w (turn F B c t).tray more

-- Two rows are equal except perhaps in the hidden part of the tag with a number, which is closed
-- in both.
module _ {S H : Type 0} where
  abbrev pub ApartAt : ℕ → List (Post S H) → List (Post S H) → Type 0
  ApartAt n [] [] = ⊥
  ApartAt n [] (q ∷ qs) = ⊥
  ApartAt n (p ∷ ps) [] = ⊥
  ApartAt zero (p ∷ ps) (q ∷ qs) = (p.here ≡ q.here) × Twins p.tag q.tag × (ps ≡ qs)
  ApartAt (suc n) (p ∷ ps) (q ∷ qs) = (p ≡ q) × ApartAt n ps qs

module _ {SF HF SB HB : Type 0} where
  -- Two trays are equal except perhaps in the hidden part of one tag, which is closed in both.
  abbrev pub Apart : Which → Model SF HF SB HB → Model SF HF SB HB → Type 0
  Apart (front n) t u = (t.field ≡ u.field) × ApartAt n t.front u.front × (t.back ≡ u.back)
  Apart (back n) t u = (t.field ≡ u.field) × (t.front ≡ u.front) × ApartAt n t.back u.back

  -- Two such trays, in any state, reached or not, are equal to every caller for as long as that tag
  -- accepts no check in either; and they stay equal but for that part.
  abbrev pub Hiding : Behaviour SF HF → Behaviour SB HB → Type 0
  Hiding F B =
      (w : Which) (t u : Model SF HF SB HB) (cs : List Turn)
      → Apart w t u → NoCheck F B w t cs → NoCheck F B w u cs
      → (seen F B t cs ≡ seen F B u cs) × Apart w (run F B t cs) (run F B u cs)
