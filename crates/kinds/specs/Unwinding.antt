-- What the duties of a kind rest on: closed tags by their parts, and hearing by reading a frame and reacting to it.
use Rattle.std.specs.Prelude.{◌≡◌, Bool, true, false, ℕ, List, [], Some, None, Option, refl}
use Rattle.std.proofs.Common.{sym, ap, ◌∙◌, subst}
use Rattle.typeb.specs.Hears.{Heard, heard}
use Rattle.kinds.specs.Kinds.{Meaning, Twins}
use Rattle.kinds.specs.Says.{reply_bytes}
use Rattle.kinds.specs.Reacts.{Reaction, unmoved, answered, hears_by}

module _ {S H : Type 0} where
  -- a closed tag, by what it shows and hides
  abbrev pub closed : S → H → Meaning S H
  closed shown hidden = record { shown = shown; hidden = hidden; opened = false }

  pub twins : (s : S) (h k : H) → Twins (closed s h) (closed s k)
  twins s h k = record { alike = refl; left = refl; right = refl }

  -- what holds of closed tags with one shown part holds of twins
  pub of_twins : (P : Meaning S H → Meaning S H → Type 0) → ((s : S) (h k : H) → P (closed s h) (closed s k)) → (m n : Meaning S H) → Twins m n → P m n
  of_twins P base m n t =
      let whole : (s : S) (o : Bool) (h : H) → Meaning S H = λ s o h. record { shown = s; hidden = h; opened = o } in
      let first : closed m.shown m.hidden ≡ m = ap (λ (o : Bool). whole m.shown o m.hidden) (sym t.left) in
      let second : closed m.shown n.hidden ≡ n =
      ap (λ (s : S). whole s false n.hidden) t.alike ∙ ap (λ (o : Bool). whole n.shown o n.hidden) (sym t.right) in
      subst (λ (x : Meaning S H). P x n) first
      (subst (λ (y : Meaning S H). P (closed m.shown m.hidden) y) second (base m.shown m.hidden n.hidden))

  -- two reactions that nobody can tell apart: equal words, twins left
  pub record Same (r s : Reaction (Meaning S H)) : Type 0 where
    pub says : r.says ≡ s.says
    pub after : Twins r.after s.after

  module _ (reacts : Heard → Meaning S H → Reaction (Meaning S H)) where
    -- equal reactions make equal answers
    module _ (each : (frame : Heard) (s : S) (h k : H) → (reacts frame (closed s h)).accepted ≡ false → (reacts frame (closed s k)).accepted ≡ false → Same (reacts frame (closed s h)) (reacts frame (closed s k))) where
      answers : (s : S) (h k : H) (o : Option Heard) → (answered reacts (closed s h) o).accepted ≡ false → (answered reacts (closed s k) o).accepted ≡ false
          → ((answered reacts (closed s h) o).reply ≡ (answered reacts (closed s k) o).reply) × Twins (answered reacts (closed s h) o).after (answered reacts (closed s k) o).after
      answers s h k (Some frame) a b = let same = each frame s h k a b in (ap (reply_bytes frame) same.says, same.after)
      answers s h k None a b = (refl, twins s h k)

      pub hearing_by : (frame : List ℕ) (m n : Meaning S H) → Twins m n → (hears_by reacts frame m).accepted ≡ false → (hears_by reacts frame n).accepted ≡ false
          → ((hears_by reacts frame m).reply ≡ (hears_by reacts frame n).reply) × Twins (hears_by reacts frame m).after (hears_by reacts frame n).after
      hearing_by frame =
          of_twins
          (λ (m n : Meaning S H). (hears_by reacts frame m).accepted ≡ false → (hears_by reacts frame n).accepted ≡ false
          → ((hears_by reacts frame m).reply ≡ (hears_by reacts frame n).reply) × Twins (hears_by reacts frame m).after (hears_by reacts frame n).after)
          (λ s h k. answers s h k (heard frame))

    -- a tag that no frame moves answers nothing and stays
    pub silent_by : (m : Meaning S H) → ((frame : Heard) → reacts frame m ≡ unmoved m) → (o : Option Heard)
        → ((answered reacts m o).reply ≡ []) × ((answered reacts m o).after ≡ m)
    silent_by m still (Some frame) = (ap (λ (r : Reaction (Meaning S H)). reply_bytes frame r.says) (still frame), ap (λ (r : Reaction (Meaning S H)). r.after) (still frame))
    silent_by m still None = (refl, refl)
