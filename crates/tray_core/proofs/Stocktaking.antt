-- What comes of a stock: its course, its frames, its list and its answer.
use Rattle.std.proofs.Common.{◌≡◌, ℕ, ◌≤◌, true, List, ◌++◌, length, drop, Ok, sym, refl, subst, arith}
use Rattle.kinds.specs.Kinds.{Behaviour}
use Rattle.tray_core.specs.Course.{Lists, Stocktakes, all_serials, sent_from}
use Rattle.tray_core.specs.Scripts.{after_play}
use Rattle.tray_core.specs.Step.{Stock, Outcome, does, figures}
use Rattle.tray_core.specs.Stock.{Tally, nothing, stocktaking}
use Rattle.tray_core.specs.Trays.{Model}
use Rattle.tray_core.proofs.Courses.{Stocked, rounded}
use Rattle.tray_core.proofs.Determined.{determined}
use Rattle.tray_core.proofs.Framed.{as_frames, stays}
use Rattle.tray_core.proofs.Listing.{listing}
use Rattle.tray_core.proofs.OneList.{same_list}

module _ {SF HF SB HB : Type 0} (F : Behaviour SF HF) (B : Behaviour SB HB) (t : Model SF HF SB HB) (buffer : List ℕ) (list : List (List ℕ)) (fit : (length t.front ≤ 32) × (length t.back ≤ 32)) where
  abbrev M : Type 0
  M = Model SF HF SB HB

  abbrev comes_by : Tally → M → Outcome M
  comes_by d u = record { answer = Ok (figures d); tray = u; buffer = buffer; list = d.serials ++ drop (length d.serials) list }

  taken : (s : Stocked F B 8 true nothing t) → Stocktakes F B t list (comes_by s.tally s.after)
  taken s =
      let stay = stays F B s.takes in
      let frames : s.tally.frames ≡ length (sent_from true s.course) = omega (arith, s.sent_all) in
      let rounds : s.tally.rounds ≡ length s.course = omega (arith, s.rounds_all) in
      let noted : Lists (all_serials s.course) s.tally.serials = subst (Lists (all_serials s.course)) (sym s.noted_each) (listing (all_serials s.course)) in
      record {
        rounds = s.course;
        takes = s.takes;
        determined = λ others u takes. determined F B s.takes takes;
        as_frames = λ lent spare room. as_frames F B lent spare room fit s.takes;
        field = stay.field;
        in_front = stay.in_front;
        behind = stay.behind;
        entries = s.tally.serials;
        lists = noted;
        only_entries = λ es also. same_list (all_serials s.course) es s.tally.serials also noted;
        listed = refl;
        answers = cc (frames, rounds, s.clashes_last);
      }

  pub stock_taken : Stocktakes F B t list (does F B Stock t buffer list)
  unfolding stocktaking
  stock_taken =
      let s = rounded F B 7 true nothing t in
      subst (λ (d : Tally). Stocktakes F B t list (comes_by d (after_play F B stocktaking t))) (sym s.ends.result)
      (subst (λ (u : M). Stocktakes F B t list (comes_by s.tally u)) (sym s.ends.tray) (taken s))
