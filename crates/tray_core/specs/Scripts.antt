-- What a reader does, without a tray: it sends frames, and goes on by what it hears.
use Rattle.std.specs.Prelude.{◌≡◌, ℕ, List}
use Rattle.kinds.specs.Kinds.{Behaviour}
use Rattle.tray_core.specs.Sounds.{Sounds}
use Rattle.tray_core.specs.Trays.{Model, after_frame, sounds_of}

pub data Script (A : Type 0) : Type 0 where
  done : A → Script A
  send : List ℕ → (Sounds → Script A) → Script A

-- A script played before a tray: its result, and the tray after it.
module _ {SF HF SB HB A : Type 0} (F : Behaviour SF HF) (B : Behaviour SB HB) where
  abbrev pub played : Script A → Model SF HF SB HB → A
  played (done a) t = a
  played (send frame next) t = played (next (sounds_of F B frame t)) (after_frame F B frame t)

  abbrev pub after_play : Script A → Model SF HF SB HB → Model SF HF SB HB
  after_play (done a) t = t
  after_play (send frame next) t = after_play (next (sounds_of F B frame t)) (after_frame F B frame t)

  -- One script before one tray comes to the same end as another before another.
  pub record SameEnd (s : Script A) (t : Model SF HF SB HB) (r : Script A) (u : Model SF HF SB HB) : Type 0 where
    pub result : played s t ≡ played r u
    pub tray : after_play s t ≡ after_play r u
