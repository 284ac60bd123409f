-- A tray takes one course and no other.
use Rattle.std.proofs.Common.{◌≡◌, ℕ, suc, Bool, false, List, [], ◌∷◌, ◌++◌, take, drop, sym, refl, ap, subst, ◌∙◌, ap₂}
use Rattle.std.proofs.lemmas.List.{append_assoc, take_at}
use Rattle.kinds.specs.Kinds.{Behaviour}
use Rattle.tray_core.specs.Course.{Slot, Answered, SoundAnswer, AllSilent, TakesSlot, silent, clashed, unsound, heard, TakesSlots, no_slot, slot, TakesRounds, quiet_round, last_round, round, TakesStock, hltb}
use Rattle.tray_core.specs.Trays.{Model, after_frame}

-- a sound answer holds one serial number
serial_at : (bytes serial : List ℕ) → SoundAnswer bytes serial → take 4 (drop 1 bytes) ≡ serial
serial_at bytes serial s =
    ap (λ (b : List ℕ). take 4 (drop 1 b)) s.is
    ∙ ap (take 4) (append_assoc (serial ++ s.application) s.protocol _ ∙ append_assoc serial s.application _)
    ∙ take_at serial _ 4 s.long.0

same_serial : {bytes a b : List ℕ} → SoundAnswer bytes a → SoundAnswer bytes b → b ≡ a
same_serial {bytes} {a} {b} s r = sym (serial_at bytes b r) ∙ serial_at bytes a s

module _ {SF HF SB HB : Type 0} (F : Behaviour SF HF) (B : Behaviour SB HB) where
  abbrev M : Type 0
  M = Model SF HF SB HB

  -- two courses, of one slot, of some slots or of some rounds, are equal with the trays after them
  same_slot : {frame : List ℕ} {t u v : M} {a b : Slot} → TakesSlot F B frame t a u → TakesSlot F B frame t b v → (b ≡ a) × (v ≡ u)
  same_slot (silent none) (silent other) = (refl, refl)
  same_slot (silent none) (clashed other) = absurd cc
  same_slot (silent none) (unsound other never) = absurd cc
  same_slot (silent none) (heard other sound) = absurd cc
  same_slot (clashed two) (silent other) = absurd cc
  same_slot (clashed two) (clashed other) = (refl, refl)
  same_slot (clashed two) (unsound other never) = absurd cc
  same_slot (clashed two) (heard other sound) = absurd cc
  same_slot (unsound one never) (silent other) = absurd cc
  same_slot (unsound one never) (clashed other) = absurd cc
  same_slot (unsound one never) (unsound other neither) = (refl, refl)
  same_slot (unsound {a = a} one never) (heard {a = b} {serial = s} other sound) =
      let same : b ≡ a = cc in absurd (never s (subst (λ (x : List ℕ). SoundAnswer x s) same sound))
  same_slot (heard one sound) (silent other) = absurd cc
  same_slot (heard one sound) (clashed other) = absurd cc
  same_slot (heard {a = a} {serial = s} one sound) (unsound {a = b} other never) =
      let same : a ≡ b = cc in absurd (never s (subst (λ (x : List ℕ). SoundAnswer x s) same sound))
  same_slot {frame} {t} (heard {a = a} {serial = s} one sound) (heard {a = b} {serial = r} other also) =
      let same : b ≡ a = cc in
      let serials : r ≡ s = same_serial sound (subst (λ (x : List ℕ). SoundAnswer x r) same also) in
      (ap Answered serials, ap (λ (x : List ℕ). after_frame F B (hltb x) (after_frame F B frame t)) serials)

  same_slots : {frames : List (List ℕ)} {t u v : M} {a b : List Slot} → TakesSlots F B frames t a u → TakesSlots F B frames t b v → (b ≡ a) × (v ≡ u)
  same_slots no_slot no_slot = (refl, refl)
  same_slots {v = w} (slot {frames = frames} one more) (slot {others = others} other rest) =
      let first = same_slot one other in
      let then = same_slots more (subst (λ (t : M). TakesSlots F B frames t others w) first.1 rest) in
      (ap₂ ◌∷◌ first.0 then.0, then.1)

  alone : {a b : List Slot} {u v : M} → (b ≡ a) × (v ≡ u) → (b ∷ [] ≡ a ∷ []) × (v ≡ u)
  alone same = (ap (λ (x : List Slot). x ∷ []) same.0, same.1)

  same_rounds : {wakes : Bool} {left : ℕ} {t u v : M} {a b : List (List Slot)} → TakesRounds F B wakes left t a u → TakesRounds F B wakes left t b v → (b ≡ a) × (v ≡ u)
  same_rounds (quiet_round one quiet) (quiet_round other still) = alone (same_slots one other)
  same_rounds (quiet_round one quiet) (last_round other loud) = absurd (loud (subst AllSilent (sym (same_slots one other).0) quiet))
  same_rounds (quiet_round one quiet) (round other loud rest) = absurd (loud (subst AllSilent (sym (same_slots one other).0) quiet))
  same_rounds (last_round one loud) (quiet_round other quiet) = absurd (loud (subst AllSilent (same_slots one other).0 quiet))
  same_rounds (last_round one loud) (last_round other still) = alone (same_slots one other)
  same_rounds (round one loud more) (quiet_round other quiet) = absurd (loud (subst AllSilent (same_slots one other).0 quiet))
  same_rounds {v = w} (round {left = left} one loud more) (round {others = others} other still rest) =
      let first = same_slots one other in
      let then = same_rounds more (subst (λ (t : M). TakesRounds F B false (suc left) t others w) first.1 rest) in
      (ap₂ ◌∷◌ first.0 then.0, then.1)

  pub determined : {t u v : M} {rounds others : List (List Slot)} → TakesStock F B t rounds u → TakesStock F B t others v → (others ≡ rounds) × (v ≡ u)
  determined one other = same_rounds one other
