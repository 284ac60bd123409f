-- A round slot by slot, and a stock round by round: what is left of the script from here gives the whole.
use Rattle.std.proofs.Common.{◌≡◌, ℕ, suc, ◌+◌, ◌-◌, ◌<◌, ◌≤◌, Bool, true, false, cond, List, [], length, get_or, drop, sym, ap, ◌∙◌, arith}
use Rattle.std.proofs.lemmas.List.{drop_all, drop-drop, drop_more}
use Rattle.kinds.specs.Kinds.{Behaviour}
use Rattle.tray_core.specs.declared.progress.Progress.{Progress}
use Rattle.tray_core.specs.Scripts.{Script, done, played, after_play, SameEnd}
use Rattle.tray_core.specs.Stock.{Tally, slot, slots, rounds, round_frames, next_round}
use Rattle.tray_core.specs.Trays.{Model}
use Rattle.tray_core.specs.Views.{GoesOn}

-- what two lists have in common from one place on they have from any later place on
pub drop_later : (m n : ℕ) (xs ys : List (List ℕ)) → m ≤ n → drop m xs ≡ drop m ys → drop n xs ≡ drop n ys
drop_later m n xs ys le same =
    let e : m + (n - m) ≡ n = omega arith in
    ap (λ (k : ℕ). drop k xs) (sym e) ∙ sym (drop-drop (n - m) m xs) ∙ ap (drop (n - m)) same ∙ drop-drop (n - m) m ys ∙ ap (λ (k : ℕ). drop k ys) e

-- one slot more
pub goes_more : (k : ℕ) (a b c : Progress) (la lb lc : List (List ℕ)) → GoesOn k a la b lb → GoesOn 1 b lb c lc → GoesOn (k + 1) a la c lc
goes_more k a b c la lb lc p q =
    record {
      frames = omega arith;
      clashes = omega arith;
      rounds = q.rounds ∙ p.rounds;
      more = omega arith;
      most = omega arith;
      rest = q.rest ∙ drop_later b.listed c.listed lb la q.more p.rest;
    }

module _ {SF HF SB HB : Type 0} (F : Behaviour SF HF) (B : Behaviour SB HB) where
  pub same_end : {r s q : Script Tally} {t u v : Model SF HF SB HB} → SameEnd F B r t s u → SameEnd F B s u q v → SameEnd F B r t q v
  same_end p q = record { result = p.result ∙ q.result; tray = p.tray ∙ q.tray }

  pub from_path : {r s : Script Tally} (t : Model SF HF SB HB) → r ≡ s → SameEnd F B r t s t
  from_path t e = record { result = ap (λ x. played F B x t) e; tray = ap (λ x. after_play F B x t) e }

  pub one_slot : (frames : List (List ℕ)) (frame : List ℕ) (i : ℕ) (next : Tally → Script Tally) (c d e : Tally) (t u v : Model SF HF SB HB) → i < length frames → frame ≡ get_or frames i []
      → SameEnd F B (slots frames next c) t (slots (drop i frames) next d) u
      → ((after : Tally → Script Tally) → SameEnd F B (slot frame after d) u (after e) v)
      → SameEnd F B (slots frames next c) t (slots (drop (i + 1) frames) next e) v
  one_slot frames frame i next c d e t u v l is before step =
      same_end before
      (same_end (from_path u (ap (λ fs. slots fs next d) (drop_more frames i [] l) ∙ ap (λ f. slot f (slots (drop (i + 1) frames) next) d) (sym is)))
      (step (slots (drop (i + 1) frames) next)))

  -- one round more: m rounds are left after it
  pub one_round : (n m : ℕ) (wake_up : Bool) (s : Script Tally) (c d : Tally) (t u v : Model SF HF SB HB) → n ≡ suc m
      → SameEnd F B s t (rounds n wake_up c) u
      → ((after : Tally → Script Tally) → SameEnd F B (slots (round_frames wake_up) after (next_round c)) u (after d) v)
      → SameEnd F B s t (cond d.silent (done d) (rounds m false d)) v
  unfolding rounds
  one_round n m wake_up s c d t u v is before step =
      same_end before (same_end (from_path u (ap (λ k. rounds k wake_up c) is)) (step (λ x. cond x.silent (done x) (rounds m false x))))

  pub silent_end : (s : Script Tally) (m : ℕ) (d : Tally) (t v : Model SF HF SB HB) → d.silent ≡ true → SameEnd F B s t (cond d.silent (done d) (rounds m false d)) v → SameEnd F B s t (done d) v
  silent_end s m d t v on e = same_end e (from_path v (ap (λ b. cond b (done d) (rounds m false d)) on))

  pub goes_on : (s : Script Tally) (m : ℕ) (wake_up : Bool) (d : Tally) (t v : Model SF HF SB HB) → d.silent ≡ false → wake_up ≡ false → SameEnd F B s t (cond d.silent (done d) (rounds m false d)) v → SameEnd F B s t (rounds m wake_up d) v
  goes_on s m wake_up d t v off is e = same_end e (from_path v (ap (λ b. cond b (done d) (rounds m false d)) off ∙ ap (λ b. rounds m b d) (sym is)))

  pub no_round_left : (s : Script Tally) (n : ℕ) (wake_up : Bool) (d : Tally) (t v : Model SF HF SB HB) → n ≡ 0 → SameEnd F B s t (rounds n wake_up d) v → SameEnd F B s t (done d) v
  unfolding rounds
  no_round_left s n wake_up d t v is e = same_end e (from_path v (ap (λ k. rounds k wake_up d) is))

  pub no_slot_left : (frames : List (List ℕ)) (i : ℕ) (s : Script Tally) (next : Tally → Script Tally) (d : Tally) (t u : Model SF HF SB HB) → length frames ≤ i
      → SameEnd F B s t (slots (drop i frames) next d) u → SameEnd F B s t (next d) u
  no_slot_left frames i s next d t u l e = same_end e (from_path u (ap (λ fs. slots fs next d) (drop_all i frames l)))
