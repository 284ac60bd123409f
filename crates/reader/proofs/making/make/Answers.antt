use Rattle.std.proofs.Common.{◌≡◌, true, leb, length, refl, arith, rules}
use Rattle.std.proofs.lemmas.Bool.{le-leb}
use Rattle.reader.specs.Commands.{asked_of, in_range}
use Rattle.reader.proofs.Made.{length_made, buffer_made}
use Rattle.reader.proofs.making.make.Goals as goal

pub unwrap-requires : goal.unwrap-requires
unwrap-requires c =
    let made = length_made (asked_of c.args.command) _ _ _ _ c.frame.ensures.heard c.put_into.ensures.written c.frame.ensures.sized (search rules) (omega arith) in
    rw made refl

pub returns-clause-buffer : goal.returns-clause-buffer
returns-clause-buffer c =
    let room : leb 16 (length c.args.buffer.now) ≡ true = le-leb _ _ (omega arith) in
    let fits : in_range (asked_of c.args.command) ≡ true = search rules in
    rw (room, fits) (buffer_made (asked_of c.args.command) _ _ _ _ c.frame.ensures.heard c.put_into.ensures.written c.frame.ensures.sized fits (omega arith))

pub returns-clause-result : goal.returns-clause-result
returns-clause-result c =
    let room : leb 16 (length c.args.buffer.now) ≡ true = le-leb _ _ (omega arith) in
    let fits : in_range (asked_of c.args.command) ≡ true = search rules in
    let made = length_made (asked_of c.args.command) _ _ _ _ c.frame.ensures.heard c.put_into.ensures.written c.frame.ensures.sized fits (omega arith) in
    rw (room, fits) cc
