use Rattle.std.proofs.Common.{◌≡◌, Err, refl, rules}
use Rattle.reader.specs.Commands.{asked_of, in_range, frame_for}
use Rattle.scenario.specs.Speaks.{hearing_in}
use Rattle.scenario.proofs.Spoken.{made_at, refused_at}
use Rattle.scenario.proofs.speaking.say_into.Goals as goal

pub returns : goal.returns
returns g c =
    let made = c.in_ok-len.ensures in
    let said = made_at (in_range (asked_of c.args.command)) (frame_for (asked_of c.args.command)) _ _ _ made.result made.buffer in
    let h = c.hear_frame.ensures in
    record {
      hears = rw (said.0, ← said.2) h.hears;
      leaves = rw (said.0, ← said.2) h.leaves;
      writes = rw (said.0, ← said.2) h.writes;
    }

pub returns-in_err-len : goal.returns-in_err-len
returns-in_err-len g c =
    let out = refused_at (in_range (asked_of c.args.command)) _ _ c.in_err-len.ensures.result in
    let kept : hearing_in c.from_residual.result ≡ Err 8 = search (rules, out.1) in
    rw out.0 (record { hears = kept; leaves = refl; writes = refl })
