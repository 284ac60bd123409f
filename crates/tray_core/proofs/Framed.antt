-- The tray after a stock is the tray after its frames, and what is on the tray stays.
use Rattle.std.proofs.Common.{◌≡◌, ℕ, ◌≤◌, Bool, true, false, List, [], ◌∷◌, ◌++◌, map, length, None, Option, sym, refl, ap, subst, ◌∙◌, arith}
use Rattle.std.proofs.lemmas.Bool.{le-leb}
use Rattle.std.proofs.lemmas.List.{length-map}
use Rattle.kinds.specs.Kinds.{Meaning, Behaviour}
use Rattle.tray_core.specs.Course.{Slot, silent, clashed, unsound, heard, TakesSlots, no_slot, slot, TakesRounds, quiet_round, last_round, round, TakesStock, slot_frames, sent_in, sent_from}
use Rattle.tray_core.specs.Rows.{Post, if_here, hearing}
use Rattle.tray_core.specs.Runs.{run}
use Rattle.tray_core.specs.Step.{Frame, refused_by, unless_refused}
use Rattle.tray_core.specs.Trays.{Model, after_frame}

-- which tags of a row are on the tray, and how many there are
module _ {S H : Type 0} (b : Behaviour S H) where
  stays_here : (change : Meaning S H → Meaning S H) (row : List (Post S H)) → map (λ p. p.here) (map (if_here change) row) ≡ map (λ p. p.here) row
  stays_here change [] = refl
  stays_here change (p ∷ row) = ap (◌∷◌ p.here) (stays_here change row)

module _ {SF HF SB HB : Type 0} (F : Behaviour SF HF) (B : Behaviour SB HB) where
  abbrev M : Type 0
  M = Model SF HF SB HB

  -- frames on the air one after another
  abbrev after_frames : List (List ℕ) → M → M
  after_frames [] t = t
  after_frames (frame ∷ frames) t = after_frames frames (after_frame F B frame t)

  after_both : (xs ys : List (List ℕ)) (t : M) → after_frames (xs ++ ys) t ≡ after_frames ys (after_frames xs t)
  after_both [] ys t = refl
  after_both (x ∷ xs) ys t = after_both xs ys (after_frame F B x t)

  -- a frame leaves the field and what is on the tray
  pub record Stays (t u : M) : Type 0 where
    pub field : u.field ≡ t.field
    pub in_front : map (λ p. p.here) u.front ≡ map (λ p. p.here) t.front
    pub behind : map (λ p. p.here) u.back ≡ map (λ p. p.here) t.back

  stay_on : (t u v : M) → Stays t u → Stays u v → Stays t v
  stay_on t u v a b = record { field = b.field ∙ a.field; in_front = b.in_front ∙ a.in_front; behind = b.behind ∙ a.behind }

  frame_stays : (frame : List ℕ) (t : M) → Stays t (after_frame F B frame t)
  frame_stays frame t = by t.field t.front t.back
    where
      by : (field : Bool) (front : List (Post SF HF)) (back : List (Post SB HB))
          → Stays (record { field = field; front = front; back = back }) (after_frame F B frame (record { field = field; front = front; back = back }))
      by true front back = record { field = refl; in_front = stays_here F (hearing F frame) front; behind = stays_here B (hearing B frame) back }
      by false front back = record { field = refl; in_front = refl; behind = refl }

  frames_stay : (frames : List (List ℕ)) (t : M) → Stays t (after_frames frames t)
  frames_stay [] t = record { field = refl; in_front = refl; behind = refl }
  frames_stay (frame ∷ frames) t = stay_on t _ _ (frame_stays frame t) (frames_stay frames (after_frame F B frame t))

  -- the tray after slots and after rounds is the tray after their frames
  slots_framed : {frames : List (List ℕ)} {t u : M} {slots : List Slot} → TakesSlots F B frames t slots u → u ≡ after_frames (sent_in frames slots) t
  slots_framed no_slot = refl
  slots_framed (slot (silent none) more) = slots_framed more
  slots_framed (slot (clashed two) more) = slots_framed more
  slots_framed (slot (unsound one never) more) = slots_framed more
  slots_framed (slot (heard one sound) more) = slots_framed more

  alone : {frames : List (List ℕ)} {t u : M} {slots : List Slot} → TakesSlots F B frames t slots u → u ≡ after_frames (sent_in frames slots ++ []) t
  alone {frames} {t} {slots = slots} one = slots_framed one ∙ sym (after_both (sent_in frames slots) [] t)

  rounds_framed : {wakes : Bool} {left : ℕ} {t u : M} {rounds : List (List Slot)} → TakesRounds F B wakes left t rounds u → u ≡ after_frames (sent_from wakes rounds) t
  rounds_framed (quiet_round one quiet) = alone one
  rounds_framed (last_round one loud) = alone one
  rounds_framed {wakes} {t = t} (round {one = first} {others = others} one loud more) =
      rounds_framed more ∙ ap (after_frames (sent_from false others)) (slots_framed one) ∙ sym (after_both (sent_in (slot_frames wakes) first) (sent_from false others) t)

  pub stays : {t u : M} {rounds : List (List Slot)} → TakesStock F B t rounds u → Stays t u
  stays {t} {rounds = rounds} takes = subst (Stays t) (sym (rounds_framed takes)) (frames_stay (sent_from true rounds) t)

  -- as calls of Frame
  module _ (buffer : List ℕ) (spare : List (List ℕ)) (room : 16 ≤ length buffer) where
    taken : (frame : List ℕ) (t : M) → (length t.front ≤ 32) × (length t.back ≤ 32) → refused_by (Frame frame) t buffer spare ≡ None
    taken frame t fit = simp (le-leb (length t.front) 32 fit.0, le-leb (length t.back) 32 fit.1, le-leb 16 (length buffer) room) refl

    same_length : {S H : Type 0} (xs ys : List (Post S H)) → map (λ p. p.here) xs ≡ map (λ p. p.here) ys → length xs ≡ length ys
    same_length xs ys e = sym (length-map xs (λ p. p.here)) ∙ ap length e ∙ length-map ys (λ p. p.here)

    as_calls : (frames : List (List ℕ)) (t : M) → (length t.front ≤ 32) × (length t.back ≤ 32)
        → run F B t (map (λ frame. record { call = Frame frame; buffer = buffer; list = spare }) frames) ≡ after_frames frames t
    as_calls [] t fit = refl
    as_calls (frame ∷ frames) t fit =
        let s = frame_stays frame t in
        let front : length (after_frame F B frame t).front ≡ length t.front = same_length _ _ s.in_front in
        let back : length (after_frame F B frame t).back ≡ length t.back = same_length _ _ s.behind in
        ap (λ (o : Option ℕ). run F B (unless_refused F B o (Frame frame) t buffer spare).tray (map (λ frame. record { call = Frame frame; buffer = buffer; list = spare }) frames)) (taken frame t fit)
        ∙ as_calls frames (after_frame F B frame t) (omega arith)

    pub as_frames : {t u : M} {rounds : List (List Slot)} → (length t.front ≤ 32) × (length t.back ≤ 32) → TakesStock F B t rounds u
        → run F B t (map (λ frame. record { call = Frame frame; buffer = buffer; list = spare }) (sent_from true rounds)) ≡ u
    as_frames {t} {rounds = rounds} fit takes = as_calls (sent_from true rounds) t fit ∙ sym (rounds_framed takes)
