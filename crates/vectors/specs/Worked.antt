-- Verdicts worked out by hand.
use Rattle.std.specs.Prelude.{◌≡◌, [], ◌∷◌}
use Rattle.vectors.specs.declared.judging.Verdict.TheVariants.{Agrees, Differs, Unsound}
use Rattle.vectors.specs.Judges.{flipped, verdict_of}

pub record WorkedVerdicts : Type 0 where
  -- The three examples of ISO/IEC 14443-3, and one of the data sheet.
  pub first : verdict_of (0x00 ∷ 0x00 ∷ 0x00 ∷ []) (0xCC ∷ 0xC6 ∷ []) ≡ Agrees
  pub second : verdict_of (0x0F ∷ 0xAA ∷ 0xFF ∷ []) (0xFC ∷ 0xD1 ∷ []) ≡ Agrees
  pub third : verdict_of (0x0A ∷ 0x12 ∷ 0x34 ∷ 0x56 ∷ []) (0x2C ∷ 0xF6 ∷ []) ≡ Agrees
  pub request : verdict_of (0x05 ∷ 0x00 ∷ 0x00 ∷ []) (0x71 ∷ 0xFF ∷ []) ≡ Agrees
  -- The check bytes in the other order, or one that is wrong: those found are told.
  pub swapped : verdict_of (0x00 ∷ 0x00 ∷ 0x00 ∷ []) (0xC6 ∷ 0xCC ∷ []) ≡ Differs (0xCC ∷ 0xC6 ∷ [])
  pub other : verdict_of (0x05 ∷ 0x00 ∷ 0x00 ∷ []) (0x71 ∷ 0xFE ∷ []) ≡ Differs (0x71 ∷ 0xFF ∷ [])
  -- Two check bytes alone are no sound frame.
  pub empty : verdict_of [] (0x00 ∷ 0x00 ∷ []) ≡ Unsound
  -- The lowest bit, set and clear.
  pub cleared : flipped (0x05 ∷ 0x01 ∷ []) ≡ 0x04 ∷ 0x01 ∷ []
  pub set : flipped (0x04 ∷ 0x01 ∷ []) ≡ 0x05 ∷ 0x01 ∷ []
