use Rattle.std.proofs.Common.{◌≡◌, Ok, Err, rules}
use Rattle.refusals.specs.Numbers.{number}
use Rattle.reader.specs.Commands.{asked_of}
use Rattle.tray_core.specs.Views.{model_of}
use Rattle.scenario.specs.Speaks.{hearing_in}
use Rattle.scenario.proofs.Spoken.{reply_fits, heard_is}
use Rattle.scenario.proofs.speaking.hear_frame.Goals as goal

pub hear_answer-requires : goal.hear_answer-requires
hear_answer-requires g c =
    let stepped = c.in_ok-answer.ensures.result in
    reply_fits g.F.Kind.acts g.B.Kind.acts (model_of g.F.Kind.means g.B.Kind.means c.args.tray.now) c.args.buffer.now c.args.frame.now
    c.handle.new.buffer stepped.writes c.in_ok-answer.answer stepped.answers

pub returns-clause-hears : goal.returns-clause-hears
returns-clause-hears g c =
    let stepped = c.in_ok-answer.ensures.result in
    heard_is g.F.Kind.acts g.B.Kind.acts (model_of g.F.Kind.means g.B.Kind.means c.args.tray.now) c.args.buffer.now c.args.frame.now
    c.handle.new.buffer stepped.writes (asked_of c.args.command) (Ok c.in_ok-answer.answer) _ c.hear_answer.ensures stepped.answers

pub returns-in_err-answer-clause-hears : goal.returns-in_err-answer-clause-hears
returns-in_err-answer-clause-hears g c =
    let stepped = c.in_err-answer.ensures.result in
    let kept : hearing_in c.from_residual.result ≡ Err (number c.in_err-answer.field-0.0) = search rules in
    heard_is g.F.Kind.acts g.B.Kind.acts (model_of g.F.Kind.means g.B.Kind.means c.args.tray.now) c.args.buffer.now c.args.frame.now
    c.handle.new.buffer stepped.writes (asked_of c.args.command) (Err (number c.in_err-answer.field-0.0)) _ kept stepped.answers
