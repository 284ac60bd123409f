-- What is refused, what is made, and what stands in the buffer then.
use Rattle.std.proofs.Common.{◌≡◌, ℕ, Bool, true, false, ◌&&◌, cond, leb, List, ◌++◌, length, take, drop, Ok, Err, Result, refl, ap, ◌∙◌}
use Rattle.std.proofs.lemmas.Bool.{le-leb, lt-leb}
use Rattle.std.proofs.lemmas.List.{drop_at, take_at}
use Rattle.refusals.specs.Numbers.{asked}
use Rattle.reader.specs.Commands.{in_range, frame_for}
use Rattle.reader.specs.Laws.{MakesOnly}

-- result and buffer, by the answers to the two questions
module _ (frame buffer : List ℕ) where
  abbrev result : Bool → Bool → Result ℕ ℕ
  result room fits = asked room 6 (asked fits 8 (Ok (length frame)))

  abbrev left : Bool → Bool → List ℕ
  left room fits = cond (room && fits) (frame ++ drop (length frame) buffer) buffer

  in_front : (room fits : Bool) (n : ℕ) → result room fits ≡ Ok n → take n (left room fits) ≡ frame
  in_front true true n e = take_at frame (drop (length frame) buffer) n cc
  in_front true false n e = absurd cc
  in_front false fits n e = absurd cc

  as_before : (room fits : Bool) (n : ℕ) → result room fits ≡ Ok n → drop n (left room fits) ≡ drop n buffer
  as_before true true n e =
      let long : length frame ≡ n = cc in
      drop_at frame (drop (length frame) buffer) n long ∙ ap (λ k. drop k buffer) long
  as_before true false n e = absurd cc
  as_before false fits n e = absurd cc

  refused_so : (room fits : Bool) (why : ℕ) → result room fits ≡ Err why → left room fits ≡ buffer
  refused_so true true why e = absurd cc
  refused_so true false why e = refl
  refused_so false fits why e = refl

pub makes_only : MakesOnly
makes_only =
    record {
      short = λ a buffer low. simp (lt-leb 16 (length buffer) low) refl;
      out_of_range = λ a buffer room out. simp (le-leb 16 (length buffer) room, out) refl;
      made = λ a buffer room fits. simp (le-leb 16 (length buffer) room, fits) refl;
      front = λ a buffer. in_front (frame_for a) buffer (leb 16 (length buffer)) (in_range a);
      behind = λ a buffer. as_before (frame_for a) buffer (leb 16 (length buffer)) (in_range a);
      refused = λ a buffer. refused_so (frame_for a) buffer (leb 16 (length buffer)) (in_range a);
    }
