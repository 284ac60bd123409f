-- A command made and said: what the tray's answer and the buffer show is what sounded.
use Rattle.std.proofs.Common.{◌≡◌, ℕ, ◌+◌, ◌-◌, ◌≤◌, Bool, true, false, cond, List, [], ◌++◌, length, take, drop, Some, None, Ok, Err, Option, Result, refl, ap, ◌∙◌, arith}
use Rattle.std.proofs.lemmas.List.{length-append, take_at}
use Rattle.kinds.specs.Kinds.{Behaviour}
use Rattle.refusals.specs.Numbers.{asked}
use Rattle.reader.specs.Commands.{Asked}
use Rattle.reader.specs.Judged.{judged}
use Rattle.tray_core.specs.declared.calls.Answer.{Answer}
use Rattle.tray_core.specs.Sounds.{Sounds, Silence, Reply, Clash}
use Rattle.tray_core.specs.Step as step
use Rattle.tray_core.specs.Step.{Frame, heard_answer, heard_buffer, refused_by}
use Rattle.tray_core.specs.Trays.{Model, sounds_of}
use Rattle.scenario.specs.Speaks.{Hearing, heard_back, hearing_back, reply_size, said, taken, unless_refused}

-- what was made in a buffer of 16 bytes is the command's frame, and the command is in range; else it is out of range
pub made_at : (in_it : Bool) (frame lent given : List ℕ) (n : ℕ) → ◌≡◌ {A = Result ℕ ℕ} (Ok n) (asked in_it 8 (Ok (length frame)))
    → given ≡ cond in_it (frame ++ drop (length frame) lent) lent → (in_it ≡ true) × (n ≤ length given) × (take (n - 0) given ≡ frame)
made_at true frame lent given n is buffer =
    let size : n ≡ length frame = cc in
    let long : length given ≡ length frame + length (drop (length frame) lent) = ap length buffer ∙ length-append frame (drop (length frame) lent) in
    (refl, omega arith, ap (take (n - 0)) buffer ∙ take_at frame (drop (length frame) lent) (n - 0) (omega arith))
made_at false frame lent given n is buffer = absurd cc

pub refused_at : (in_it : Bool) (size why : ℕ) → ◌≡◌ {A = Result ℕ ℕ} (Err why) (asked in_it 8 (Ok size)) → (in_it ≡ false) × (why ≡ 8)
refused_at true size why is = absurd cc
refused_at false size why is = (refl, cc)

-- what the answer and the buffer show of what sounded
taken_sounds : (a : Asked) (buffer : List ℕ) (s : Sounds) → taken a (heard_buffer s buffer) (Ok (heard_answer s)) ≡ heard_back a s
taken_sounds a buffer Silence = refl
taken_sounds a buffer (Reply bytes) =
    ap (λ (l : List ℕ). said (judged a l)) (take_at bytes (drop (length bytes) buffer) (length bytes) refl)
taken_sounds a buffer (Clash n) = refl

sounds_fit : (buffer : List ℕ) (s : Sounds) → reply_size (heard_answer s) ≤ length (heard_buffer s buffer)
sounds_fit buffer Silence = omega arith
sounds_fit buffer (Reply bytes) = let long = length-append bytes (drop (length bytes) buffer) in omega arith
sounds_fit buffer (Clash n) = omega arith

size_in : Result Answer ℕ → ℕ
size_in (Ok x) = reply_size x
size_in (Err why) = 0

module _ {SF HF SB HB : Type 0} (F : Behaviour SF HF) (B : Behaviour SB HB) (t : Model SF HF SB HB) (buffer : List ℕ) (frame : List ℕ) where
  taken_step : (a : Asked) (refused : Option ℕ)
      → taken a (step.unless_refused F B refused (Frame frame) t buffer []).buffer (step.unless_refused F B refused (Frame frame) t buffer []).answer
      ≡ unless_refused refused (heard_back a (sounds_of F B frame t))
  taken_step a (Some why) = refl
  taken_step a None = taken_sounds a buffer (sounds_of F B frame t)

  size_fits : (refused : Option ℕ)
      → size_in (step.unless_refused F B refused (Frame frame) t buffer []).answer ≤ length (step.unless_refused F B refused (Frame frame) t buffer []).buffer
  unfolding size_in
  size_fits (Some why) = omega arith
  size_fits None = sounds_fit buffer (sounds_of F B frame t)

  module _ (given : List ℕ) (writes : given ≡ (step.step F B (Frame frame) t buffer []).buffer) where
    pub reply_fits : (x : Answer) → Ok x ≡ (step.step F B (Frame frame) t buffer []).answer → reply_size x ≤ length given
    unfolding size_in
    reply_fits x is =
        let fits = size_fits (refused_by (Frame frame) t buffer []) in
        let size : reply_size x ≡ size_in (step.step F B (Frame frame) t buffer []).answer = ap size_in is in
        let long : length given ≡ length (step.step F B (Frame frame) t buffer []).buffer = ap length writes in
        omega arith

    pub heard_is : (a : Asked) (x : Result Answer ℕ) (r : Result Hearing ℕ) → r ≡ taken a given x → x ≡ (step.step F B (Frame frame) t buffer []).answer → r ≡ hearing_back F B a frame t buffer
    heard_is a x r e is =
        e ∙ ap (λ (l : List ℕ). taken a l x) writes
        ∙ ap (λ (y : Result Answer ℕ). taken a (step.step F B (Frame frame) t buffer []).buffer y) is
        ∙ taken_step a (refused_by (Frame frame) t buffer [])
